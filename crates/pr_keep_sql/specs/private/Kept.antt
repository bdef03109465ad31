-- What the tables keep, as a list of rows, and when a store tells it.
use Rattle.std.specs.Prelude.{◌≡◌, ◌⊎◌, ℕ, zero, suc, ◌+◌, ◌==◌, ◌&&◌, Bool, List, [], ◌∷◌, map, length, pos, unsigned_abs, Option, Some, None, IsSome, cond, IsTrue, if◌then◌else◌}
use Rattle.std.specs.List.Sorted.{IsPermutation}
use Rattle.sqlite.specs.declared.types.Value.{Value}
use Rattle.sqlite.specs.declared.types.Value.TheVariants.{Null, Int, Real, Text, Blob}
use Rattle.sqlite.specs.Order.{Row as Cells, column}
use Rattle.sqlite.specs.Effect.{Database}
use Rattle.sqlite.specs.State.{State, HasCleanDisk}
use Rattle.sqlite_disk.specs.Disk.{MoreFaults}
use Rattle.pr_outside.specs.spec_history.declared.row.Row.{Row}
use Rattle.pr_keep_sql.specs.private.Tables.{HasOursFirst, stored_from}

abbrev pub text_in : Value → List ℕ
text_in Null = []
text_in (Int n) = []
text_in (Real x) = []
text_in (Text t) = t
text_in (Blob b) = []

abbrev pub number_in : Value → ℕ
number_in Null = 0
number_in (Int n) = unsigned_abs n
number_in (Real x) = 0
number_in (Text t) = 0
number_in (Blob b) = 0

abbrev pub row_of : Cells → Row
row_of cells = record { series = text_in (column cells 2); time = number_in (column cells 3); point = text_in (column cells 4) }

-- the row with this number, in a table that has one
abbrev pub row_at : List Cells → ℕ → Row
row_at [] seq = record { series = []; time = 0; point = [] }
row_at (cells ∷ rest) seq = if number_in (column cells 0) == seq then row_of cells else row_at rest seq

-- the rows with these numbers, and so many
abbrev pub rows_from : List Cells → ℕ → ℕ → List Row
rows_from table seq zero = []
rows_from table seq (suc count) = row_at table seq ∷ rows_from table (seq + 1) count

-- what the table `kept` keeps, in order of `seq`
abbrev pub listed : Database → List Row
listed db = rows_from (db.trees 0) 0 (length (db.trees 0))

-- the numbers in the table `version`
abbrev pub versions : Database → List Value
versions db = map (λ (cells : Cells). column cells 0) (db.trees 1)

-- The relation between the tables and a list of rows: the two tables stand first, `version` holds
-- the number 1, the row of `kept` with the `seq` i is the element i of the list, and it has no other
-- rows. In which order a table has its rows is not said, nor what stands behind the tables.
pub record Keeps (db : Database) (rows : List Row) : Type 0 where
  pub schema : HasOursFirst db.schema
  pub version : versions db ≡ Int (pos 1) ∷ []
  pub table : IsPermutation (stored_from 0 rows) (db.trees 0)

-- The tables keep so many rows.
pub record KeepsSo (db : Database) (size : ℕ) : Type 0 where
  pub keeps : Keeps db (listed db)
  pub counted : size ≡ length (listed db)

-- Where the connection is open and the disk returned what was written.
abbrev pub WhileOpen : State → Type 0 → Type 0
WhileOpen s P = HasCleanDisk s → IsTrue s.is_open → P

-- The rows, where they are told: the tables are ready, they stand first, and the connection is open,
-- which it is not after a fault that shuts it.
abbrev pub told : Bool → State → Option (List Row)
told is_first s = cond (is_first && (s.is_open && s.is_clean)) (Some (listed s.now)) None

-- Told rows stay told, unless the disk has failed once more.
abbrev pub StaysTold : (old new : Option (List Row)) → (faults new_faults : ℕ) → Type 0
StaysTold old new faults new_faults = IsSome old → IsSome new ⊎ MoreFaults faults new_faults
