-- What `run` promises, by what the four objects mean before and after it.
use Rattle.std.specs.Prelude.{◌≡◌, ◌≢◌, ℕ, ◌<◌, ◌≤◌, ◌^◌, Bool, List, [], length, Some, Result, Ok, Err, IfOk, IfSome}
use Rattle.std.specs.Io.KnownBytes.{Appends}
use Rattle.pr_queue.specs.spec_history.declared.entry.Entry.{Entry}
use Rattle.pr_outside.specs.spec_history.declared.row.Row.{Row}
use Rattle.pr_queue.specs.spec_history.Histories.{history_of}
use Rattle.pr_outside.specs.Ends.{Ends, KnowsLength, place_of, status_of}
use Rattle.pr_outside.specs.Opening.{OpensBy}
use Rattle.pr_outside.specs.Outside.{Outside, AreCalm, Held, AreTold}
use Rattle.pr_outside.specs.Status.{IsTooLong, verdict}
use Rattle.pr_outside.specs.declared.status.status.Status.{Status}
use Rattle.pr_outside.specs.declared.status.status.Status.TheVariants as status
use Rattle.pr_outside.specs.declared.status.status.Stop.{Stop}
use Rattle.pr_outside.specs.declared.status.status.Stop.TheVariants.{Read, Load, Store, BadRow, Write, Memory, TooLong}
use Rattle.pr_text.specs.BadRows.{IsBadStart, TellsRow, bad_row_text}
use Rattle.pr_text.specs.Taken.{TookWithin}
use Rattle.pr_run.specs.Front.{IsFront}
use Rattle.pr_outside.specs.Stores.{AreKept, IsBadIn, OverRows, StartsTelling}
use Rattle.pr_run.specs.Told.{answers_to, asks_of, told, kept, refuses}

-- A run was whole: it wrote what is told, it refused what is refused, it kept the rows of the entries,
-- and nothing is left of the input.
pub record IsWholeRun (held : Held) (history : List Entry) (bytes : List ℕ) (before now : Outside) (came : Bool) : Type 0 where
  pub written : Appends before.out.taken now.out.taken (told held history bytes)
  pub refused : came ≡ refuses held history bytes
  pub kept : AreKept (kept held history bytes) now.store
  pub read : now.input.left ≡ Some []

-- What `run` does with these bytes over rows that tell this history, for all that the files may hold of
-- which the outside tells what is asked for: not stopped, it was whole; and however it ends. It meets no
-- bad row.
pub record EndsOver (history : List Entry) (bytes : List ℕ) (before now : Outside) (ending : Result Bool Stop) : Type 0 where
  pub whole : (held : Held) → AreTold before.files.content held (asks_of (answers_to held history bytes)) → IfOk ending (IsWholeRun held history bytes before now)
  pub front : (held : Held) → AreTold before.files.content held (asks_of (answers_to held history bytes))
      → IsFront bytes (place_of ending) history (answers_to held history bytes) before now
  pub fine : (index : ℕ) → ending ≢ Err (BadRow index)

-- And what it promises then.
pub record RunsOver (history : List Entry) (bytes : List ℕ) (before now : Outside) (ending : Result Bool Stop) (result : Status) : Type 0 where
  pub done : EndsOver history bytes before now ending
  -- the input is shorter than 2^32 bytes, no call was refused, and memory sufficed
  pub told : (held : Held) → AreTold before.files.content held (asks_of (answers_to held history bytes)) → length bytes < 2 ^ 32 → AreCalm before now
      → result ≢ status.Memory → (result ≡ verdict (refuses held history bytes)) × IsWholeRun held history bytes before now (refuses held history bytes)
  -- 8 exactly where 2^32 bytes come
  pub long : 2 ^ 32 ≤ length bytes → AreCalm before now → result ≢ status.Memory → result ≡ status.TooLong

-- what may stop a run that finds a bad row at its start, before it reads anything
abbrev pub IsStopped : Result Bool Stop → Type 0
IsStopped (Ok came) = ⊥
IsStopped (Err Read) = ⊥
IsStopped (Err Load) = ⊥
IsStopped (Err Store) = Unit {0}
IsStopped (Err (BadRow index)) = Unit {0}
IsStopped (Err Write) = Unit {0}
IsStopped (Err Memory) = Unit {0}
IsStopped (Err TooLong) = ⊥

pub record EndsInto (index : ℕ) (rows : List Row) (before now : Outside) (ending : Result Bool Stop) : Type 0 where
  pub front : IsBadStart index (place_of ending) rows before now
  pub stopped : IsStopped ending

-- Over rows of which this is the first bad one nothing but its line is written, or a front of it; where
-- no call was refused and memory sufficed, all of it.
pub record RunsInto (index : ℕ) (rows : List Row) (before now : Outside) (ending : Result Bool Stop) (result : Status) : Type 0 where
  pub done : EndsInto index rows before now ending
  pub told : AreCalm before now → result ≢ status.Memory → (result ≡ status.StoreFault) × Appends before.out.taken now.out.taken (bad_row_text index)

-- by what the rows at the start tell
abbrev pub EndsBy : Result (List Entry) ℕ → List Row → List ℕ → Outside → Outside → Result Bool Stop → Type 0
EndsBy (Ok history) rows bytes before now ending = EndsOver history bytes before now ending
EndsBy (Err index) rows bytes before now ending = EndsInto index rows before now ending

abbrev pub RunsBy : Result (List Entry) ℕ → List Row → List ℕ → Outside → Outside → Result Bool Stop → Status → Type 0
RunsBy (Ok history) rows bytes before now ending result = RunsOver history bytes before now ending result
RunsBy (Err index) rows bytes before now ending result = RunsInto index rows before now ending result

-- What `run` promises over the store of a path, by how it ended, whose status is the program's, and what
-- stopped it.
pub record MeansRun (path : List ℕ) (before now : Outside) (result : Status) : Type 0 where
  pub ending : Result Bool Stop
  pub answer : result ≡ status_of ending
  pub ends : Ends (IsBadIn now.store) (IsTooLong before.input now.input) before now ending
  -- it opens this path, and no other
  pub opens : OpensBy path before.store.paths now.store.paths ending
  -- a run that was not stopped has read its input out, which was short; and one that is too long is long,
  -- and so much of it was taken
  pub known : KnowsLength before.input now.input ending
  -- however it ends, no more was taken than the limit and one piece
  pub most : TookWithin before.input now.input 0
  -- over any store
  pub row : (index : ℕ) → ending ≡ Err (BadRow index) → TellsRow index before.out.taken now.out.taken
  -- as long as what the store stands on has kept its word, the rows are told, unless the store or want of
  -- memory stopped it
  pub tells : StartsTelling before.store now.store ending
  -- What is written and kept, over the rows at the start, where the store tells its rows at the end.
  pub over : IfSome now.store.rows (λ all. IfSome before.input.left (λ bytes.
      OverRows before.store.rows all (λ rows. RunsBy (history_of rows) rows bytes before now ending result)))
