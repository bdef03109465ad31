-- Which statements a call has run, whatever stands beside the tables.
use Rattle.std.specs.Prelude.{◌≡◌, ◌≢◌, ◌⊎◌, ℕ, pos, List, [], ◌∷◌, length, map, Option, Some, None, Ok, true}
use Rattle.sqlite.specs.declared.types.Value.{Value}
use Rattle.sqlite.specs.declared.types.Value.TheVariants.{Int, Text as Words}
use Rattle.sqlite.specs.Held.{Held, state}
use Rattle.sqlite.specs.Order.{Row as Cells, column}
use Rattle.sqlite.specs.State.{Commits, QueriesRow, Shown}
use Rattle.sqlite.specs.Store.{Ghosts}
use Rattle.pr_outside.specs.spec_history.declared.row.Row.{Row}
use Rattle.pr_keep_sql.specs.private.Found.{AreFound}
use Rattle.pr_keep_sql.specs.private.Refusals.{RanInTurn}
use Rattle.pr_keep_sql.specs.private.Texts.{Order, numbers_text, rows_text, select_text}

-- what is shown of the table `version`
abbrev pub numbers_in : List Cells → List Value
numbers_in rows = map (λ (cells : Cells). column cells 0) rows

-- how many rows are shown, where they are in order
abbrev pub IsCount : List Cells → Option ℕ → Type 0
IsCount rows (Some size) = AreFound 0 rows × (size ≡ length rows)
IsCount rows None = ¬ AreFound 0 rows

-- these cells are of this row
pub record IsShownAs (cells : Cells) (row : Row) : Type 0 where
  pub series : column cells 0 ≡ Words row.series
  pub time : column cells 1 ≡ Int (pos row.time)
  pub point : column cells 2 ≡ Words row.point

module _ {S : Type 0} (g : Ghosts S) where
  -- a transaction over these statements, which ran in turn and were committed
  pub record HasRun (orders : List Order) (old new : Held S) : Type 0 where
    pub last : Held S
    pub ran : RanInTurn g orders (record old { in_transaction = true }) last
    pub committed : Commits (state g last) (state g new)

  -- the query for the number, and after the number 1 that for the rows, which are so many, or are not
  -- in order
  abbrev pub HasRead : Option ℕ → Held S → Held S → Type 0
  HasRead size old new =
      (mid : Held S) × (numbers : List Cells) × Shown numbers_text [] (state g old) (state g mid) numbers
      × (((numbers_in numbers ≢ Int (pos 1) ∷ []) × (new ≡ mid) × (size ≡ None))
      ⊎ ((numbers_in numbers ≡ Int (pos 1) ∷ []) × ((rows : List Cells) × Shown rows_text [] (state g mid) (state g new) rows × IsCount rows size)))

  -- the query for a row, which shows it
  abbrev pub HasLoaded : ℕ → Row → Held S → Held S → Type 0
  HasLoaded seq row old new = (cells : Cells) × QueriesRow select_text (Int (pos seq) ∷ []) (state g old) (state g new) (Ok cells) × IsShownAs cells row
