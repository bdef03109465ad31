-- What statements and transactions do to the tables.
use Rattle.std.specs.Prelude.{◌≡◌, ◌⊎◌, ℕ, ◌≤◌, pos, List, [], ◌∷◌, ◌++◌, length, slice_get, Some, IsTrue}
use Rattle.sqlite.specs.declared.types.Value.TheVariants.{Int, Text as Words}
use Rattle.sqlite.specs.Order.{Row as Cells}
use Rattle.sqlite.specs.Effect.{Database}
use Rattle.sqlite.specs.State.{State, HasCleanDisk}
use Rattle.sqlite_disk.specs.Disk.{MoreFaults}
use Rattle.pr_outside.specs.spec_history.declared.row.Row.{Row}
use Rattle.pr_keep_sql.specs.private.Tables.{kept, kept_schema, schema_of}
use Rattle.pr_keep_sql.specs.private.Kept.{Keeps, versions, listed}

-- A statement did this, and the transaction goes on.
pub record GoesOn (Does : Database → Database → Type 0) (old new : State) : Type 0 where
  pub was_open : IsTrue old.is_open
  pub is_open : IsTrue new.is_open
  pub inside : IsTrue new.in_transaction
  pub does : Does old.now new.now

-- A transaction did this, and it is committed.
pub record Commits (Does : Database → Database → Type 0) (old new : State) : Type 0 where
  pub was_open : IsTrue old.is_open
  pub is_open : IsTrue new.is_open
  pub does : Does old.now new.now

-- While the connection is open, the database is as it was.
pub record Leaves (old new : State) : Type 0 where
  pub was_open : IsTrue new.is_open → IsTrue old.is_open
  pub now : IsTrue new.is_open → new.now ≡ old.now

-- No fault of the disk is forgotten, and only a fault shuts the connection.
pub record Lasts (old new : State) : Type 0 where
  pub counts : old.faults ≤ new.faults
  pub closes : HasCleanDisk new → IsTrue old.is_open → IsTrue new.is_open ⊎ MoreFaults old.faults new.faults

-- tables that keep a list keep these rows more, numbered from its length on
abbrev pub Adds : ℕ → List Row → Database → Database → Type 0
Adds size rows old new = Keeps old (listed old) → size ≡ length (listed old) → Keeps new (listed new) × (listed new ≡ listed old ++ rows)

-- where nothing was, the table `kept` is there, and is empty
abbrev pub MakesKept : Database → Database → Type 0
MakesKept old new = old.schema ≡ schema_of [] → (new.schema ≡ schema_of (kept ∷ [])) × (new.trees 0 ≡ [])

-- where the table `kept` alone was, the table `version` is there too, and is empty
abbrev pub MakesVersion : Database → Database → Type 0
MakesVersion old new = old.schema ≡ schema_of (kept ∷ []) → (new.schema ≡ kept_schema) × (new.trees 1 ≡ []) × (new.trees 0 ≡ old.trees 0)

-- the empty table `version` gets the number 1
abbrev pub Numbers : Database → Database → Type 0
Numbers old new = old.schema ≡ kept_schema → old.trees 1 ≡ [] → (new.schema ≡ kept_schema) × (versions new ≡ Int (pos 1) ∷ []) × (new.trees 0 ≡ old.trees 0)

-- where nothing was, the tables are there, and keep no row
abbrev pub Makes : Database → Database → Type 0
Makes old new = old.schema ≡ schema_of [] → Keeps new (listed new) × (listed new ≡ [])

-- a row as the query by its number shows it
abbrev pub shown : Row → Cells
shown row = Words row.series ∷ Int (pos row.time) ∷ Words row.point ∷ []

-- it shows the element of the list at this place
abbrev pub ShowsAt : List Row → ℕ → Cells → Type 0
ShowsAt rows at cells = (row : Row) × (slice_get rows at ≡ Some row) × (cells ≡ shown row)
