-- What becomes of a head, and of the entries that were added, when entries are put one after
-- another.
use Rattle.std.specs.Prelude.{◌≡◌, ℤ, Bool, true, List, ◌++◌}
use Rattle.pr_labels.specs.declared.pair.Pair.{Pair}
use Rattle.spec_history.specs.declared.entry.Entry.{Entry}
use Rattle.spec_history.specs.Admission.{put_all}
use Rattle.pr_head.specs.private.Stored.{Stored}
use Rattle.pr_head.specs.private.Holds.{Holds, IsWhole}
use Rattle.spec_history.specs.Puts.{admitted}

abbrev pub Series : Type 0
Series = List (List Pair × Stored)

-- Of a history that the old head held, the new one holds what putting the entries leaves, and
-- nothing more is forgotten.
pub record HasTaken (old new : Series) (history entries : List Entry) : Type 0 where
  pub holds : Holds new (put_all history entries)
  pub whole : (x : ℤ) → IsWhole old history x → IsWhole new (put_all history entries) x

-- the same, and the entries that were added stand behind the rows
pub record Puts (old new : Series) (rows more : List Entry) (history entries : List Entry) : Type 0 where
  pub taken : HasTaken old new history entries
  pub added : more ≡ rows ++ admitted history entries

-- the same, where rows are told; where they are not, nothing is said of them
pub record PutsIf (tells : Bool) (old new : Series) (rows more : List Entry) (history entries : List Entry) : Type 0 where
  pub taken : HasTaken old new history entries
  pub added : tells ≡ true → more ≡ rows ++ admitted history entries

-- the head took the first ones of the entries
pub record HasTakenFront (old new : Series) (history entries : List Entry) : Type 0 where
  pub front : List Entry
  pub rest : List Entry
  pub parts : entries ≡ front ++ rest
  pub taken : HasTaken old new history front
