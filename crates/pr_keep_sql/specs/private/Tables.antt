-- The tables of the store: their definitions, and the rows in them.
use Rattle.std.specs.Prelude.{◌≡◌, ℕ, ◌+◌, pos, Bool, true, false, ◌||◌, List, [], ◌∷◌, All, Any, Some, codes, drop}
use Rattle.sqlite.specs.Collation.TheVariants.{Binary}
use Rattle.sqlite.specs.declared.types.Value.TheVariants.{Null, Int, Text as Words}
use Rattle.sqlite.specs.Order.{Row as Cells}
use Rattle.sqlite_schema.specs.Names.{same_name}
use Rattle.sqlite_schema.specs.declared.schema.Column.{Column}
use Rattle.sqlite.specs.Table.{Table}
use Rattle.sqlite.specs.Schema.{Schema}
use Rattle.sqlite.specs.Kind.{Kind}
use Rattle.sqlite.specs.Kind.TheVariants.{Integer, Text}
use Rattle.pr_outside.specs.spec_history.declared.row.Row.{Row}

-- a column of this name and type, with NOT NULL or without
abbrev pub column_of : List ℕ → Kind → Bool → Column
column_of name kind not_null = record { name = name; kind = kind; is_strict = false; not_null = not_null; default = Null; collation = Binary }

-- a table with these columns, of which the first is its INTEGER PRIMARY KEY, and with no other rule
abbrev pub table_of : List ℕ → ℕ → List Column → Table
table_of name tree columns = record {
  name = name;
  tree = tree;
  columns = columns;
  key = Some 0;
  primary = 0 ∷ [];
  uniques = [];
  orders = [];
  checks = [];
  references = [];
  computed = [];
  stamps = record { places = []; terms = []; formats = [] };
  is_counted = false;
}

-- kept(seq INTEGER PRIMARY KEY, series TEXT NOT NULL, time INTEGER NOT NULL, point TEXT NOT NULL)
abbrev pub kept : Table
kept = table_of (codes "kept") 0
    (column_of (codes "seq") Integer false ∷ column_of (codes "series") Text true ∷ column_of (codes "time") Integer true ∷ column_of (codes "point") Text true ∷ [])

-- version(n INTEGER PRIMARY KEY)
abbrev pub version : Table
version = table_of (codes "version") 1 (column_of (codes "n") Integer false ∷ [])

abbrev pub schema_of : List Table → Schema
schema_of tables = record { tables = tables; indexes = []; views = [] }

abbrev pub kept_schema : Schema
kept_schema = schema_of (kept ∷ version ∷ [])

-- the two tables stand there, before whatever else does
abbrev pub HasOursFirst : Schema → Type 0
HasOursFirst schema = schema.tables ≡ kept ∷ version ∷ drop 2 schema.tables

-- whether the table has a name of the store
abbrev pub is_named : Table → Bool
is_named table = same_name table.name (codes "kept") || same_name table.name (codes "version")

-- no table has one
abbrev pub IsFree : Schema → Type 0
IsFree schema = All (λ table. is_named table ≡ false) schema.tables

-- a table of this definition stands there, in whichever tree
abbrev pub Has : Table → List Table → Type 0
Has wanted tables = Any (λ table. table ≡ record wanted { tree = table.tree }) tables

-- both tables of the store stand there, whatever stands beside them
abbrev pub HasOurs : Schema → Type 0
HasOurs schema = Has kept schema.tables × Has version schema.tables

-- A table has a name of the store, and they are not both tables of the store.
abbrev pub IsOther : Schema → Type 0
IsOther schema = (¬ IsFree schema) × (¬ HasOurs schema)

-- A row as the table `kept` stores it: its number, which is the row's own, and the others.
abbrev pub stored : ℕ → Row → Cells
stored seq row = Int (pos seq) ∷ Null ∷ Words row.series ∷ Int (pos row.time) ∷ Words row.point ∷ []

-- the rows of a list from a number on
abbrev pub stored_from : ℕ → List Row → List Cells
stored_from seq [] = []
stored_from seq (row ∷ rows) = stored seq row ∷ stored_from (seq + 1) rows
