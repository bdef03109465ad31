-- What `backfill` promises, by what the four objects mean before and after it.
use Rattle.std.specs.Prelude.{◌≡◌, ◌≢◌, ℕ, ◌+◌, ◌<◌, ◌≤◌, Bool, true, false, List, [], ◌∷◌, ◌++◌, length, take, Some, Result, Ok, Err, IfOk, IfSome, IsErr}
use Rattle.std.specs.Io.KnownBytes.{Appends}
use Rattle.spec_rules.specs.spec_history.declared.entry.Entry.{Entry}
use Rattle.pr_outside.specs.Paths.{Opens, MayOpen}
use Rattle.pr_outside.specs.spec_history.declared.row.Row.{Row}
use Rattle.spec_rules.specs.spec_history.Histories.{history_of}
use Rattle.spec_rules.specs.Reloads.{LoadedFile}
use Rattle.pr_backfill.specs.Filled.{FillStep, filled, rows_filled}
use Rattle.pr_outside.specs.Asks.{Asks}
use Rattle.pr_outside.specs.Ends.{Ends, place_of, status_of}
use Rattle.pr_outside.specs.Outside.{Outside, AreCalm, AreTold, Held}
use Rattle.pr_outside.specs.declared.status.status.Status.{Status}
use Rattle.pr_outside.specs.declared.status.status.Status.TheVariants as status
use Rattle.pr_outside.specs.declared.status.status.Stop.{Stop}
use Rattle.pr_outside.specs.declared.status.status.Stop.TheVariants.{Read, Load, Store, BadRow, Write, Memory, TooLong}
use Rattle.pr_text.specs.BadRows.{IsBadStart, bad_row_text}
use Rattle.pr_outside.specs.Stores.{AreKept, IsBadIn, KeepsTelling, OverRows, StartsTelling}
use Rattle.pr_checks.specs.RulesLoaded.{all_rules}
use Rattle.pr_backfill.specs.Text.{begun_text, fill_text}

-- Files

-- How many of so many files were asked for: all of them, each once, before anything else is done; or
-- some, where a load or want of memory stopped it.
abbrev pub AsksFirst : {T : Type 0} → ℕ → ℕ → ℕ → Result T Stop → Type 0
AsksFirst before now all (Ok done) = Asks before now all
AsksFirst before now all (Err Read) = ⊥
AsksFirst before now all (Err Load) = (n : ℕ) × Asks before now n × (0 < n) × (n ≤ all)
AsksFirst before now all (Err Store) = Asks before now all
AsksFirst before now all (Err (BadRow index)) = Asks before now all
AsksFirst before now all (Err Write) = Asks before now all
AsksFirst before now all (Err Memory) = (n : ℕ) × Asks before now n × (n ≤ all)
AsksFirst before now all (Err TooLong) = ⊥

-- Something is wrong with a file: the lines that tell it are written, those of all files, and it is
-- refused. The store is as it was.
pub record EndsRefused (lines : List ℕ) (before now : Outside) (ending : Result Bool Stop) : Type 0 where
  pub whole : IfOk ending (λ refused. (refused ≡ true) × Appends before.out.taken now.out.taken lines)
  pub front : (n : ℕ) × Appends before.out.taken now.out.taken (take n lines)
  pub same : now.store ≡ before.store
  pub fine : (index : ℕ) → ending ≢ Err (BadRow index)

-- And what is promised then, where no call was refused and memory sufficed.
pub record RefusesFiles (lines : List ℕ) (before now : Outside) (ending : Result Bool Stop) (result : Status) : Type 0 where
  pub done : EndsRefused lines before now ending
  pub told : AreCalm before now → result ≢ status.Memory → (result ≡ status.Problem) × Appends before.out.taken now.out.taken lines

-- Over rows that tell a history

-- It was whole: all is written that is told of its evaluations, and their rows are kept.
pub record IsWhole (steps : List FillStep) (history : List Entry) (before now : Outside) : Type 0 where
  pub written : Appends before.out.taken now.out.taken (fill_text (length history) steps)
  pub kept : AreKept (history ++ rows_filled steps) now.store

-- The rows of so many of its evaluations are kept, where they are told, and a front of the whole text is
-- written. It has all that is told of those before the last of them, and of the others nothing: it goes
-- beyond the text of these evaluations only where they are all.
pub record IsFront (steps : List FillStep) (history : List Entry) (before now : Outside) : Type 0 where
  pub done : ℕ
  pub within : done ≤ length steps
  pub kept : AreKept (history ++ rows_filled (take done steps)) now.store
  pub count : ℕ
  pub text : Appends before.out.taken now.out.taken (take count (fill_text (length history) steps))
  pub begins : (fewer : ℕ) → fewer + 1 ≡ done → length (begun_text (length history) (take fewer steps)) ≤ count
  pub beyond : done < length steps → count ≤ length (begun_text (length history) (take done steps))

-- What it does then. It refuses nothing, and meets no bad row.
pub record EndsOver (steps : List FillStep) (history : List Entry) (before now : Outside) (ending : Result Bool Stop) : Type 0 where
  pub whole : IfOk ending (λ refused. (refused ≡ false) × IsWhole steps history before now)
  pub front : IsFront steps history before now
  pub fine : (index : ℕ) → ending ≢ Err (BadRow index)

pub record FillsOver (steps : List FillStep) (history : List Entry) (before now : Outside) (ending : Result Bool Stop) (result : Status) : Type 0 where
  pub done : EndsOver steps history before now ending
  pub told : AreCalm before now → result ≢ status.Memory → (result ≡ status.Done) × IsWhole steps history before now

-- Over rows of which this is the first bad one nothing but its line is written, or a front of it.
pub record EndsInto (index : ℕ) (rows : List Row) (before now : Outside) (ending : Result Bool Stop) : Type 0 where
  pub front : IsBadStart index (place_of ending) rows before now
  pub stopped : IsErr ending

pub record FillsInto (index : ℕ) (rows : List Row) (before now : Outside) (ending : Result Bool Stop) (result : Status) : Type 0 where
  pub done : EndsInto index rows before now ending
  pub told : AreCalm before now → result ≢ status.Memory → (result ≡ status.StoreFault) × Appends before.out.taken now.out.taken (bad_row_text index)

-- by what the rows at the start tell
abbrev pub EndsBy : Result (List Entry) ℕ → List LoadedFile → List ℕ → List Row → Outside → Outside → Result Bool Stop → Type 0
EndsBy (Ok history) files times rows before now ending = EndsOver (filled history files times) history before now ending
EndsBy (Err index) files times rows before now ending = EndsInto index rows before now ending

abbrev pub FillsBy : Result (List Entry) ℕ → List LoadedFile → List ℕ → List Row → Outside → Outside → Result Bool Stop → Status → Type 0
FillsBy (Ok history) files times rows before now ending result = FillsOver (filled history files times) history before now ending result
FillsBy (Err index) files times rows before now ending result = FillsInto index rows before now ending result

-- By what is wrong with the files: where that is nothing, over the rows at the start, where the store
-- tells its rows at the end.
abbrev pub EndsWith : List ℕ → List LoadedFile → List ℕ → Outside → Outside → Result Bool Stop → Type 0
EndsWith [] files times before now ending = IfSome now.store.rows (λ all. OverRows before.store.rows all (λ rows. EndsBy (history_of rows) files times rows before now ending))
EndsWith (b ∷ wrong) files times before now ending = EndsRefused (b ∷ wrong) before now ending

abbrev pub FillsWith : List ℕ → List LoadedFile → List ℕ → Outside → Outside → Result Bool Stop → Status → Type 0
FillsWith [] files times before now ending result = IfSome now.store.rows (λ all. OverRows before.store.rows all (λ rows. FillsBy (history_of rows) files times rows before now ending result))
FillsWith (b ∷ wrong) files times before now ending result = RefusesFiles (b ∷ wrong) before now ending result

-- Which paths it opened: that of the store where it filled it or found a bad row; none where something is
-- wrong with a file, or one could not be loaded; and that one or none where it was stopped otherwise.
abbrev pub FillOpens : List ℕ → List (List ℕ) → List (List ℕ) → Result Bool Stop → Type 0
FillOpens path before now (Ok true) = now ≡ before
FillOpens path before now (Ok false) = Opens path before now
FillOpens path before now (Err Read) = ⊥
FillOpens path before now (Err Load) = now ≡ before
FillOpens path before now (Err Store) = MayOpen path before now
FillOpens path before now (Err (BadRow index)) = Opens path before now
FillOpens path before now (Err Write) = MayOpen path before now
FillOpens path before now (Err Memory) = MayOpen path before now
FillOpens path before now (Err TooLong) = ⊥

-- What `backfill` promises over the store of a path, at these times, and over the files of these names, by
-- how it ended, whose status is the program's, and what stopped it. A file that is named twice has its
-- groups twice.
pub record MeansBackfill (path : List ℕ) (times : List ℕ) (names : List (List ℕ)) (before now : Outside) (result : Status) : Type 0 where
  pub ending : Result Bool Stop
  pub answer : result ≡ status_of ending
  pub ends : Ends (IsBadIn now.store) ⊥ before now ending
  pub opens : FillOpens path before.store.paths now.store.paths ending
  -- before that nothing becomes of the rows, where the store tells them
  pub unopened : now.store.paths ≡ before.store.paths → IfSome now.store.rows (λ rows. before.store.rows ≡ Some rows)
  -- As long as what the store stands on has kept its word, a backfill that opened it, and that neither the
  -- store nor want of memory stopped, leaves the rows told; rows that were told stay so, opened or not.
  pub tells : now.store.paths ≢ before.store.paths → StartsTelling before.store now.store ending
  pub keeps : KeepsTelling before.store now.store ending
  pub asked : AsksFirst before.files.calls now.files.calls (length names) ending
  -- nothing is written where a file could not be loaded
  pub unwritten : ending ≡ Err Load → now.out ≡ before.out
  -- a bad row is told, and nothing else, over any store
  pub row : (index : ℕ) → ending ≡ Err (BadRow index) → Appends before.out.taken now.out.taken (bad_row_text index)
  -- for all that the files may hold, where the outside tells it
  pub over : (held : Held) → AreTold before.files.content held names
      → FillsWith (all_rules held names).wrong (all_rules held names).files times before now ending result
