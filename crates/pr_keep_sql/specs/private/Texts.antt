-- The statements of the store: their texts, and their parameters.
use Rattle.std.specs.Prelude.{ℕ, ◌+◌, pos, List, [], ◌∷◌, codes}
use Rattle.sqlite.specs.declared.types.Value.TheVariants.{Int, Text as Words}
use Rattle.sqlite.specs.Order.{Row as Cells}
use Rattle.pr_outside.specs.spec_history.declared.row.Row.{Row}

abbrev pub kept_text : List ℕ
kept_text = codes "CREATE TABLE kept(seq INTEGER PRIMARY KEY, series TEXT NOT NULL, time INTEGER NOT NULL, point TEXT NOT NULL)"

abbrev pub version_text : List ℕ
version_text = codes "CREATE TABLE version(n INTEGER PRIMARY KEY)"

abbrev pub number_text : List ℕ
number_text = codes "INSERT INTO version (n) VALUES (1)"

abbrev pub insert_text : List ℕ
insert_text = codes "INSERT INTO kept (seq, series, time, point) VALUES (?1, ?2, ?3, ?4)"

abbrev pub select_text : List ℕ
select_text = codes "SELECT series, time, point FROM kept WHERE seq = ?1"

abbrev pub numbers_text : List ℕ
numbers_text = codes "SELECT n FROM version"

abbrev pub rows_text : List ℕ
rows_text = codes "SELECT seq, series, time, point FROM kept ORDER BY seq"

-- a row with this number
abbrev pub given_params : ℕ → Row → Cells
given_params seq row = Int (pos seq) ∷ Words row.series ∷ Int (pos row.time) ∷ Words row.point ∷ []

-- a statement, and its parameters
pub record Order : Type 0 where
  pub sql : List ℕ
  pub params : Cells

-- the statements that make the tables
abbrev pub makings : List Order
makings = record { sql = kept_text; params = [] } ∷ record { sql = version_text; params = [] } ∷ record { sql = number_text; params = [] } ∷ []

-- the statements that add rows, from a number on
abbrev pub inserts : ℕ → List Row → List Order
inserts seq [] = []
inserts seq (row ∷ rows) = record { sql = insert_text; params = given_params seq row } ∷ inserts (seq + 1) rows
