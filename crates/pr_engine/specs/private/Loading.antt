-- How far the rows of a store were read.
use Rattle.std.specs.Prelude.{◌≡◌, ℕ, List, [], ◌∷◌, ◌++◌, length, cond, drop, map, IfSome, Option, Some, None, Result, Ok, Err}
use Rattle.pr_outside.specs.spec_history.Admission.{admit}
use Rattle.pr_outside.specs.spec_history.declared.entry.Entry.{Entry}
use Rattle.pr_head.specs.private.Intake.{Series}
use Rattle.pr_outside.specs.Meant.{Store}
use Rattle.pr_outside.specs.spec_history.declared.row.Row.{Row}
use Rattle.pr_outside.specs.spec_history.Puts.{is_added}
use Rattle.pr_outside.specs.spec_history.Histories.{history_after, history_of}
use Rattle.pr_outside.specs.spec_history.Rows.{decoded}
use Rattle.pr_engine.specs.private.Rows.{TellsOf, HoldsAll}
use Rattle.pr_engine.specs.declared.rows.fault.StartError.{StartError}
use Rattle.pr_engine.specs.declared.rows.fault.StartError.TheVariants as start

-- a row is told to be bad, by its index, for this reason
abbrev pub OnBadRow : {T : Type 0} → ℕ → Type 0 → Result T StartError → Type 0
OnBadRow index reason (Ok x) = Unit {0}
OnBadRow index reason (Err start.Memory) = Unit {0}
OnBadRow index reason (Err start.StoreFailed) = Unit {0}
OnBadRow index reason (Err (start.BadRow at)) = (at ≡ index) × reason

-- the entry of a row, where it is added to the history before it
abbrev pub next_entry : List Entry → Option Entry → Option Entry
next_entry history None = None
next_entry history (Some e) = cond (is_added (admit history e.labels e.time e.point)) (Some e) None

-- A head holds a history and the entry of the row that follows it.
pub record HoldsNext (history : List Entry) (row : Row) (series : Series) : Type 0 where
  pub entry : Entry
  pub follows : next_entry history (decoded row) ≡ Some entry
  pub head : HoldsAll series (history ++ entry ∷ [])

-- A head holds the history that some first rows tell; what all tell is what the others tell after it.
pub record IsLoadedTo (index : ℕ) (series : Series) (store : Store) : Type 0 where
  pub history : List Entry
  pub head : HoldsAll series history
  pub count : length history ≡ index
  pub rest : IfSome store.rows (λ rows. history_of rows ≡ history_after index history (map decoded (drop index rows)))

-- a head holds the history that all rows tell
pub record IsLoaded (series : Series) (store : Store) : Type 0 where
  pub history : List Entry
  pub head : HoldsAll series history
  pub tells : TellsOf store history
