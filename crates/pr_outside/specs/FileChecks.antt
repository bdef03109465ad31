-- What a check of files promises.
use Rattle.std.specs.Prelude.{◌≡◌, ◌≢◌, ℕ, ◌+◌, ◌≤◌, Bool, List, length, take, map, flat_map, Result, IfOk}
use Rattle.std.specs.List.{list_any}
use Rattle.std.specs.Io.KnownBytes.{Appends}
use Rattle.pr_outside.specs.Asks.{Asks, AsksAt}
use Rattle.pr_outside.specs.Ends.{Ends, StopPlace, at_file, place_of, no_row, status_of}
use Rattle.pr_outside.specs.Outside.{Outside, AreCalm, Held, AreTold}
use Rattle.pr_outside.specs.Status.{verdict}
use Rattle.pr_outside.specs.declared.status.status.Status.{Status}
use Rattle.pr_outside.specs.declared.status.status.Status.TheVariants as status
use Rattle.pr_outside.specs.declared.status.status.Stop.{Stop}

-- what is told of a file: its text, whether it is refused, and the files that are asked for, which
-- are it and those that it names
pub record Told : Type 0 where
  pub text : List ℕ
  pub refused : Bool
  pub asks : List (List ℕ)

-- what is told of a file, by what all names hold and by its name
abbrev pub Telling : Type 0
Telling = Held → List ℕ → Told

abbrev pub all_told : Telling → Held → List (List ℕ) → List Told
all_told telling held names = map (telling held) names

-- the texts of files, one after the other; whether one is refused; and all files that are asked for
abbrev pub texts : List Told → List ℕ
texts tolds = flat_map (λ t. t.text) tolds

abbrev pub any_refused : List Told → Bool
any_refused tolds = list_any (λ t. t.refused) tolds

abbrev pub all_asks : List Told → List (List ℕ)
all_asks tolds = flat_map (λ t. t.asks) tolds

-- All files were checked, each asked for once.
pub record AreChecked (tolds : List Told) (before now : Outside) (came : Bool) : Type 0 where
  pub written : Appends before.out.taken now.out.taken (texts tolds)
  pub refused : came ≡ any_refused tolds
  pub asked : Asks before.files.calls now.files.calls (length (all_asks tolds))

-- A number of files was checked, the last of them maybe in part: what is told of them was written,
-- but for an end of what is told of the last one. Where a load stopped it, nothing lacks, and that
-- load is one of the next file's: a file's text is written before the next one is asked for.
pub record IsFilesFront (tolds : List Told) (before now : Outside) (place : StopPlace) : Type 0 where
  pub done : ℕ
  pub within : done ≤ length tolds
  pub count : ℕ
  pub text : Appends before.out.taken now.out.taken (take count (texts (take done tolds)))
  pub whole : (fewer : ℕ) → fewer + 1 ≡ done → length (texts (take fewer tolds)) ≤ count
  pub unread : place ≡ at_file → length (texts (take done tolds)) ≤ count
  pub asked : ℕ
  pub asks : Asks before.files.calls now.files.calls asked
  pub asks_at : AsksAt place (map (λ t. t.asks) tolds) done asked

-- By what is told of files, the names, and what the four objects mean before and after: what is
-- said of what was written is said where the outside tells what is held by each name that is asked
-- for.
pub record MeansFileCheck (telling : Telling) (names : List (List ℕ)) (before now : Outside) (result : Status) : Type 0 where
  -- how it ended, whose status is the program's, and what stopped it
  pub ending : Result Bool Stop
  pub answer : result ≡ status_of ending
  pub ends : Ends no_row ⊥ before now ending
  -- not stopped, it was whole
  pub whole : (held : Held) → AreTold before.files.content held (all_asks (all_told telling held names))
      → IfOk ending (AreChecked (all_told telling held names) before now)
  -- however it ends
  pub front : (held : Held) → AreTold before.files.content held (all_asks (all_told telling held names))
      → IsFilesFront (all_told telling held names) before now (place_of ending)
  -- no call was refused, and memory sufficed
  pub told : (held : Held) → AreTold before.files.content held (all_asks (all_told telling held names)) → AreCalm before now → result ≢ status.Memory
      → Appends before.out.taken now.out.taken (texts (all_told telling held names)) × (result ≡ verdict (any_refused (all_told telling held names)))
