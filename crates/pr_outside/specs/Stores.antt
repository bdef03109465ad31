-- The rows that a command begins with, and those that a store keeps at its end.
use Rattle.std.specs.Prelude.{◌≡◌, List, IfSome, IsSome, IsTrue, Ok, ℕ, ◌≤◌, length, map, take, Option, Some, None, Err, Result}
use Rattle.spec_history.specs.declared.entry.Entry.{Entry}
use Rattle.pr_outside.specs.Meant.{Store}
use Rattle.spec_history.specs.Histories.{history_of}
use Rattle.spec_history.specs.declared.row.Row.{Row}
use Rattle.spec_history.specs.Rows.{encoded}
use Rattle.pr_outside.specs.Ends.{Ends}
use Rattle.pr_outside.specs.Outside.{Outside}
use Rattle.pr_outside.specs.declared.status.status.Stop.{Stop}
use Rattle.pr_outside.specs.declared.status.status.Stop.TheVariants as stop

-- the rows of a store tell a history, where they are told
abbrev pub TellsHistory : Store → List Entry → Type 0
TellsHistory store history = IfSome store.rows (λ rows. history_of rows ≡ Ok history)

-- Whether these rows may be those at the start of a command, by the rows that its store tells before
-- it, and by those that it tells at its end. A store that tells them before the command begins with
-- these; one that tells them at its end alone begins with the first of them, however many. Of a store
-- that does not tell its rows at the end nothing is said.
abbrev pub AreFirst : List Row → Option (List Row) → List Row → Type 0
AreFirst rows None all = (length rows ≤ length all) × (rows ≡ take (length rows) all)
AreFirst rows (Some given) all = rows ≡ given

-- What holds over the rows at the start.
pub record OverRows (before : Option (List Row)) (all : List Row) (P : List Row → Type 0) : Type 0 where
  pub rows : List Row
  pub first : AreFirst rows before all
  pub holds : P rows

-- a row is the first bad one of those that are told
abbrev pub IsBadIn : Store → ℕ → Type 0
IsBadIn store index = IfSome store.rows (λ rows. history_of rows ≡ Err index)

-- the rows are those of these entries, where they are told
abbrev pub AreKept : List Entry → Store → Type 0
AreKept entries store = IfSome store.rows (λ rows. rows ≡ map encoded entries)

-- what holds after a call, unless the store refused it or memory ran out
abbrev pub IfKept : {T : Type 0} → Result T Stop → Type 0 → Type 0
IfKept (Err stop.Store) P = Unit {0}
IfKept (Err stop.Memory) P = Unit {0}
IfKept _ P = P

-- As long as what a store stands on has kept its word, it had before; and the rows are told after a start
-- that neither the store nor want of memory stopped.
pub record StartsTelling {T : Type 0} (before now : Store) (result : Result T Stop) : Type 0 where
  pub sound : IsTrue now.sound → IsTrue before.sound
  pub told : IsTrue now.sound → IfKept result (IsSome now.rows)

-- and told rows stay told, over another call
pub record KeepsTelling {T : Type 0} (before now : Store) (result : Result T Stop) : Type 0 where
  pub sound : IsTrue now.sound → IsTrue before.sound
  pub told : IsTrue now.sound → IsSome before.rows → IfKept result (IsSome now.rows)

-- A call of the store alone, whatever the other objects are: a bad row is the first one of the rows
-- that are told.
abbrev pub KeepEnds : {T : Type 0} → Store → Store → Result T Stop → Type 0
KeepEnds before now result = (others : Outside) → Ends (IsBadIn now) ⊥ (record others { store = before }) (record others { store = now }) result
