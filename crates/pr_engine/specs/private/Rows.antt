-- What the rows of a store tell.
use Rattle.std.specs.Prelude.{◌≡◌, List, length, map, IfSome, Some, Ok, ℤ}
use Rattle.pr_outside.specs.spec_history.declared.entry.Entry.{Entry}
use Rattle.pr_outside.specs.Meant.{Store}
use Rattle.pr_outside.specs.spec_history.Histories.{history_of}
use Rattle.pr_outside.specs.spec_history.Rows.{decoded, encoded}
use Rattle.pr_head.specs.private.Holds.{Holds, IsWhole}
use Rattle.pr_outside.specs.spec_history.private.Laws.{IsLawful}
use Rattle.pr_head.specs.private.Intake.{Series}

-- The rows of a store tell a history, where they are told. How many there are is always told.
pub record TellsOf (store : Store) (history : List Entry) : Type 0 where
  pub count : store.count ≡ length history
  pub rows : IfSome store.rows (λ rows. history_of rows ≡ Ok history)

-- The rows of entries are read as these entries.
abbrev pub AreRead : List Entry → Type 0
AreRead entries = map decoded (map encoded entries) ≡ map Some entries

-- a head stands for a history of which nothing is forgotten
pub record HoldsAll (head : Series) (history : List Entry) : Type 0 where
  pub holds : Holds head history
  pub whole : (x : ℤ) → IsWhole head history x
  pub lawful : IsLawful history
