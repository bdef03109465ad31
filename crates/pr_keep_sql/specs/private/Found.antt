-- Rows as a query over the table `kept` shows them.
use Rattle.std.specs.Prelude.{◌≡◌, ℕ, ◌+◌, pos, true, List, [], ◌∷◌, drop, Some}
use Rattle.sqlite.specs.declared.types.Value.{Value}
use Rattle.sqlite.specs.declared.types.Value.TheVariants.{Int, Text as Words}
use Rattle.sqlite.specs.Order.{Row as Cells, column}
use Rattle.sqlite_schema.specs.Rules.{are_typed}
use Rattle.pr_keep_sql.specs.private.Tables.{kept}

abbrev pub IsText : Value → Type 0
IsText value = (text : List ℕ) × (value ≡ Words text)

abbrev pub IsTime : Value → Type 0
IsTime value = (time : ℕ) × (value ≡ Int (pos time))

-- It shows this number, a text, a time from 0 on and a text.
pub record IsFoundAt (seq : ℕ) (cells : Cells) : Type 0 where
  pub number : column cells 0 ≡ Int (pos seq)
  pub series : IsText (column cells 1)
  pub time : IsTime (column cells 2)
  pub point : IsText (column cells 3)

-- what the query shows of a row of the table
abbrev pub shown_cells : Cells → Cells
shown_cells cells = column cells 0 ∷ column cells 2 ∷ column cells 3 ∷ column cells 4 ∷ []

-- the row has the columns of the table, of their types
abbrev pub IsTyped : Cells → Type 0
IsTyped cells = are_typed (Some 0) 0 kept.columns (drop 1 cells) ≡ true

abbrev pub AreFound : ℕ → List Cells → Type 0
AreFound seq [] = Unit {0}
AreFound seq (cells ∷ rest) = IsFoundAt seq cells × AreFound (seq + 1) rest
