-- How far a filling has come. Private contracts cite this: a reader can pass it over.
use Rattle.std.specs.Prelude.{◌≡◌, ℕ, ◌+◌, ◌<◌, ◌≤◌, List, ◌++◌, length, take, IsSome, Option, Result, Ok, Err}
use Rattle.std.specs.Io.KnownBytes.{Appends}
use Rattle.std.specs.List.{AllByRecursion}
use Rattle.spec_rules.specs.spec_history.declared.entry.Entry.{Entry}
use Rattle.pr_outside.specs.Meant.{Output, Store}
use Rattle.spec_rules.specs.private.Times.{IsAfterAll}
use Rattle.pr_engine.specs.pr_range.private.Asks.{LastAsks, Passed}
use Rattle.spec_rules.specs.Groups.{Group}
use Rattle.pr_engine.specs.private.Rows.{TellsOf, HoldsAll}
use Rattle.pr_backfill.specs.Filled.{FillStep, rows_filled}
use Rattle.pr_backfill.specs.private.Keeping.{KeepsToFill}
use Rattle.pr_backfill.specs.Text.{begun_text, fill_text}
use Rattle.pr_outside.specs.Ends.{Ends, no_row}
use Rattle.pr_outside.specs.Outside.{Outside}
use Rattle.pr_outside.specs.Stores.{KeepsTelling}
use Rattle.pr_outside.specs.declared.status.status.Stop.{Stop}
use Rattle.pr_backfill.specs.declared.backfill_command.filling.Filling.{Filling}

-- What is kept of groups from one time to the next, over the history as it then stands.
pub record KeepsFilling {R : Type 0} (fits : R → List Entry → Type 0) (last : R → LastAsks) (passed : R → Passed) (filling : Filling R) (history : List Entry) (groups : List Group) : Type 0 where
  pub holds : HoldsAll filling.head history
  pub each : KeepsToFill fits last passed history filling.groups groups

-- each group was evaluated last before these times
abbrev pub AreBefore : List ℕ → List Group → Type 0
AreBefore times groups = AllByRecursion (λ time. IsAfterAll time groups) times

-- The rows of these evaluations are kept, and all is written that is told of them.
pub record FillingStands (history : List Entry) (done : List FillStep) (store : Store) (first taken : Option (List ℕ)) : Type 0 where
  pub tells : TellsOf store (history ++ rows_filled done)
  pub text : Appends first taken (begun_text (length history) done)

-- The rows of so many of these evaluations are kept, and a front of the whole text is written.
pub record FillingHalts (history : List Entry) (steps : List FillStep) (store : Store) (first taken : Option (List ℕ)) : Type 0 where
  pub done : ℕ
  pub within : done ≤ length steps
  pub tells : TellsOf store (history ++ rows_filled (take done steps))
  pub count : ℕ
  pub text : Appends first taken (take count (fill_text (length history) steps))
  pub begins : (fewer : ℕ) → fewer + 1 ≡ done → length (begun_text (length history) (take fewer steps)) ≤ count
  pub beyond : done < length steps → count ≤ length (begun_text (length history) (take done steps))

-- what becomes of evaluations, of which more may be to come, by how the call ended that was to make them
abbrev pub FillingComes : {T : Type 0} → List Entry → List FillStep → Store → Option (List ℕ) → Option (List ℕ) → Result T Stop → Type 0
FillingComes history steps store first taken (Ok done) = FillingStands history steps store first taken
FillingComes history steps store first taken (Err stop) = (more : List FillStep) → FillingHalts history (steps ++ more) store first taken

-- What becomes of all: the rows of all are kept, and the whole text is written.
pub record IsTold (history : List Entry) (steps : List FillStep) (store : Store) (first taken : Option (List ℕ)) : Type 0 where
  pub tells : TellsOf store (history ++ rows_filled steps)
  pub text : Appends first taken (fill_text (length history) steps)

abbrev pub FillingFinishes : {T : Type 0} → List Entry → List FillStep → Store → Option (List ℕ) → Option (List ℕ) → Result T Stop → Type 0
FillingFinishes history steps store first taken (Ok done) = IsTold history steps store first taken
FillingFinishes history steps store first taken (Err stop) = FillingHalts history steps store first taken

-- What any part of it does to the store and the output: rows that are told were told before, and stay
-- told; there are not fewer, no path is opened, and its end has its cause, which is no bad row.
pub record IsPartOfFilling {T : Type 0} (before : Store) (out : Output) (now : Store) (told : Output) (result : Result T Stop) : Type 0 where
  pub some : IsSome now.rows → IsSome before.rows
  pub tells : KeepsTelling before now result
  pub more : before.count ≤ now.count
  pub paths : now.paths ≡ before.paths
  pub ends : (others : Outside) → Ends no_row ⊥ (record others { store = before; out = out }) (record others { store = now; out = told }) result
