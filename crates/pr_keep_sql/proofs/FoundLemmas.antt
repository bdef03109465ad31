-- Rows of the table as a query shows them, and the lines that they are.
use Rattle.std.proofs.Common.{◌≡◌, ℕ, suc, ◌+◌, ◌<◌, ◌≤◌, ◌&&◌, pos, List, [], ◌∷◌, map, length, drop, codes, slice_index_or, Bool, true, false, All, Some, refl, sym, ap, subst, ◌∙◌, arith, true≢false}
use Rattle.std.specs.List.{AllByRecursion}
use Rattle.std.specs.List.Sorted.{IsPermutation}
use Rattle.std.proofs.Math.Seq.{drop-cons, drop-length}
use Rattle.std.proofs.lemmas.List.{length-map}
use Rattle.std.proofs.lemmas.List.Elements.{All-nil, All-cons, All-head, All-tail}
use Rattle.std.proofs.lemmas.List.Sorted.{All-permutation, IsPermutation-map, IsPermutation-sym}
use Rattle.sqlite.specs.declared.types.Value.{Value}
use Rattle.sqlite.specs.declared.types.Value.TheVariants.{Null, Int, Real, Text, Blob}
use Rattle.sqlite.specs.Effect.{Database, IsDatabase}
use Rattle.sqlite.specs.Order.{Row, column}
use Rattle.sqlite.specs.Schema.{Schema}
use Rattle.sqlite.specs.State.{State, Shown}
use Rattle.sqlite.specs.Kind.TheVariants as kind
use Rattle.sqlite_sql.specs.Ops.{is_null}
use Rattle.sqlite_schema.specs.Names.{same_name}
use Rattle.sqlite_schema.specs.Rules.{are_typed, suits, Keeps as Holds}
use Rattle.sqlite_schema.specs.declared.schema.Constraint.TheVariants.{Datatype}
use Rattle.pr_outside.specs.spec_history.declared.row.Row.{Row as Line}
use Rattle.pr_keep_sql.specs.private.Tables.{Has, HasOurs, HasOursFirst, IsFree, column_of, is_named, kept, schema_of, stored, stored_from, version}
use Rattle.pr_keep_sql.proofs.FirstTables.{is_ours}
use Rattle.pr_keep_sql.specs.private.Kept.{KeepsSo, number_in, text_in, versions}
use Rattle.pr_keep_sql.specs.private.Found.{AreFound, IsFoundAt, IsTyped, shown_cells}
use Rattle.pr_keep_sql.specs.private.Texts.{rows_text}
use Rattle.pr_keep_sql.proofs.QueryLemmas.{rows_shown}
use Rattle.pr_keep_sql.proofs.StateLemmas.{told_by}

never : (a b c d : Bool) → (a && (b && (c && (d && false)))) ≡ true → ⊥
never false b c d h = true≢false (sym h)
never true false c d h = true≢false (sym h)
never true true false d h = true≢false (sym h)
never true true true false h = true≢false (sym h)
never true true true true h = true≢false (sym h)

pub stored_by : (cells : Row) (seq : ℕ) (row : Line) → IsTyped cells → column cells 0 ≡ Int (pos seq) → column cells 2 ≡ Text row.series → column cells 3 ≡ Int (pos row.time) → column cells 4 ≡ Text row.point
    → cells ≡ stored seq row
stored_by [] seq row typed n s t p = absurd cc
stored_by (a ∷ []) seq row typed n s t p = absurd cc
stored_by (a ∷ b ∷ []) seq row typed n s t p = absurd cc
stored_by (a ∷ b ∷ c ∷ []) seq row typed n s t p = absurd cc
stored_by (a ∷ b ∷ c ∷ d ∷ []) seq row typed n s t p = absurd cc
stored_by (a ∷ Null ∷ c ∷ d ∷ e ∷ []) seq row typed n s t p = cc
stored_by (a ∷ Int k ∷ c ∷ d ∷ e ∷ []) seq row typed n s t p = absurd cc
stored_by (a ∷ Real k ∷ c ∷ d ∷ e ∷ []) seq row typed n s t p = absurd cc
stored_by (a ∷ Text k ∷ c ∷ d ∷ e ∷ []) seq row typed n s t p = absurd cc
stored_by (a ∷ Blob k ∷ c ∷ d ∷ e ∷ []) seq row typed n s t p = absurd cc
stored_by (a ∷ b ∷ c ∷ d ∷ e ∷ f ∷ more) seq row typed n s t p = absurd (never (is_null b) (suits (column_of (codes "series") kind.Text true) c) (suits (column_of (codes "time") kind.Integer true) d) (suits (column_of (codes "point") kind.Text true) e) typed)

pub one_found : (all : List Row) (i : ℕ) (item : Row) → i < length all → item ≡ slice_index_or all i item → IsFoundAt i item → (AreFound i (drop i all) → AreFound 0 all) → AreFound (i + 1) (drop (i + 1) all) → AreFound 0 all
one_found all i item low is found before rest =
    let step : suc i ≡ i + 1 = omega arith in
    let first : drop i all ≡ item ∷ drop (i + 1) all = drop-cons all i item low ∙ ap (λ (k : ℕ). slice_index_or all i item ∷ drop k all) step ∙ ap (λ (c : Row). c ∷ drop (i + 1) all) (sym is) in
    before (subst (AreFound i) (sym first) (found, rest))

-- what is found from a place on is found there, and behind it
pub one_left : (all : List Row) (i : ℕ) (item : Row) → i < length all → item ≡ slice_index_or all i item → (AreFound 0 all → AreFound i (drop i all)) → AreFound 0 all → IsFoundAt i item × AreFound (i + 1) (drop (i + 1) all)
one_left all i item low is left found =
    let step : suc i ≡ i + 1 = omega arith in
    let first : drop i all ≡ item ∷ drop (i + 1) all = drop-cons all i item low ∙ ap (λ (k : ℕ). slice_index_or all i item ∷ drop k all) step ∙ ap (λ (c : Row). c ∷ drop (i + 1) all) (sym is) in
    subst (AreFound i) first (left found)

pub all_found : (all : List Row) (i : ℕ) → length all ≤ i → i ≤ length all → (AreFound i (drop i all) → AreFound 0 all) → AreFound 0 all
all_found all i low high before =
    let end : i ≡ length all = omega (arith, low, high) in
    before (subst (AreFound i) (sym (ap (λ (k : ℕ). drop k all) end ∙ drop-length all)) tt)

-- the row that shows so, as the table has it, and the line that it is
abbrev rebuilt : Row → Row
rebuilt cells = column cells 0 ∷ Null ∷ column cells 1 ∷ column cells 2 ∷ column cells 3 ∷ []

abbrev line_in : Row → Line
line_in cells = record { series = text_in (column cells 1); time = number_in (column cells 2); point = text_in (column cells 3) }

line_texts : (cells : Row) (seq : ℕ) → IsFoundAt seq cells → (column cells 1 ≡ Text (line_in cells).series) × (column cells 2 ≡ Int (pos (line_in cells).time)) × (column cells 3 ≡ Text (line_in cells).point)
line_texts cells seq f = (
  f.series.1 ∙ ap Text (sym (ap text_in f.series.1)),
  f.time.1 ∙ ap (λ (n : ℕ). Int (pos n)) (sym (ap number_in f.time.1)),
  f.point.1 ∙ ap Text (sym (ap text_in f.point.1)),
)

rebuilt_is : (cells : Row) (seq : ℕ) → IsFoundAt seq cells → rebuilt cells ≡ stored seq (line_in cells)
rebuilt_is cells seq f =
    let texts = line_texts cells seq f in
    ap (λ (v : Value). v ∷ Null ∷ column cells 1 ∷ column cells 2 ∷ column cells 3 ∷ []) f.number ∙ ap (λ (v : Value). Int (pos seq) ∷ Null ∷ v ∷ column cells 2 ∷ column cells 3 ∷ []) texts.0
    ∙ ap (λ (v : Value). Int (pos seq) ∷ Null ∷ Text (line_in cells).series ∷ v ∷ column cells 3 ∷ []) texts.1 ∙ ap (λ (v : Value). Int (pos seq) ∷ Null ∷ Text (line_in cells).series ∷ Int (pos (line_in cells).time) ∷ v ∷ []) texts.2

all_rebuilt : (rows : List Row) (k : ℕ) → AreFound k rows → map rebuilt rows ≡ stored_from k (map line_in rows)
all_rebuilt [] k f = refl
all_rebuilt (cells ∷ rows) k f = ap (λ (c : Row). c ∷ map rebuilt rows) (rebuilt_is cells k f.0) ∙ ap (λ (rest : List Row). stored k (line_in cells) ∷ rest) (all_rebuilt rows (k + 1) f.1)

abbrev IsFound : Row → Type 0
IsFound cells = (seq : ℕ) × IsFoundAt seq cells

some_found : (rows : List Row) (k : ℕ) → AreFound k rows → All IsFound rows
some_found [] k f = All-nil IsFound
some_found (cells ∷ rows) k f = All-cons IsFound cells rows (k, f.0) (some_found rows (k + 1) f.1)

-- a row of the table is what is rebuilt of what it shows
row_back : (cells : Row) → IsTyped cells → IsFound (shown_cells cells) → cells ≡ rebuilt (shown_cells cells)
row_back cells typed f =
    let line = line_in (shown_cells cells) in
    let texts = line_texts (shown_cells cells) f.0 f.1 in
    stored_by cells f.0 line typed f.1.number texts.0 texts.1 texts.2 ∙ sym (rebuilt_is (shown_cells cells) f.0 f.1)

table_back : (table : List Row) → All IsTyped table → All IsFound (map shown_cells table) → map rebuilt (map shown_cells table) ≡ table
table_back [] typed f = refl
table_back (cells ∷ table) typed f =
    let here = row_back cells (All-head IsTyped cells table typed) (All-head IsFound (shown_cells cells) (map shown_cells table) f) in
    let rest = table_back table (All-tail IsTyped cells table typed) (All-tail IsFound (shown_cells cells) (map shown_cells table) f) in
    ap (λ (c : Row). c ∷ map rebuilt (map shown_cells table)) (sym here) ∙ ap (λ (more : List Row). cells ∷ more) rest

-- a table whose rows show so keeps the lines of these rows
pub table_kept : (table rows : List Row) → All IsTyped table → IsPermutation (map shown_cells table) rows → AreFound 0 rows → IsPermutation (stored_from 0 (map line_in rows)) table
table_kept table rows typed same f =
    let back = IsPermutation-sym (map shown_cells table) rows same in
    let found : All IsFound (map shown_cells table) = All-permutation IsFound rows (map shown_cells table) back (some_found rows 0 f) in
    let all : IsPermutation (map rebuilt rows) (map rebuilt (map shown_cells table)) = IsPermutation-map rebuilt rows (map shown_cells table) back in
    subst (λ xs. IsPermutation xs table) (all_rebuilt rows 0 f) (subst (IsPermutation (map rebuilt rows)) (table_back table typed found) all)

and_left : (a : Bool) → (a && true) ≡ true → a ≡ true
and_left true h = refl
and_left false h = absurd (true≢false (sym h))

typed_by : (table : List Row) → AllByRecursion (λ (cells : Row). (are_typed (Some 0) 0 kept.columns (drop 1 cells) && true) ≡ true) table → All IsTyped table
typed_by [] h = All-nil IsTyped
typed_by (cells ∷ table) h = All-cons IsTyped cells table (and_left _ h.0) (typed_by table h.1)

pub typed_rows : (db : Database) → HasOursFirst db.schema → IsDatabase db → All IsTyped (db.trees 0)
typed_rows db has sound = typed_by (db.trees 0) (subst (λ (s : Schema). Holds Datatype s db.trees) (is_ours db.schema has) (sound.obeys.rules Datatype)).0

-- the tables keep as many rows as are found in order
pub count_found : (old new : State) (found rows : List Row) (n : ℕ) → HasOursFirst old.now.schema → versions old.now ≡ Int (pos 1) ∷ [] → IsDatabase old.now → Shown rows_text [] old new rows → found ≡ rows
    → AreFound 0 found → n ≡ length found → KeepsSo old.now n
count_found old new found rows n has number sound h same f count =
    let table = table_kept (old.now.trees 0) rows (typed_rows old.now has sound) (rows_shown old new rows has h) (subst (AreFound 0) same f) in
    let told = told_by old.now (map line_in rows) (record { schema = has; version = number; table = table }) in
    record { keeps = told.1; counted = count ∙ ap length same ∙ sym (ap length told.0 ∙ length-map rows line_in) }

-- where nothing is, no name is taken
pub bare_is_free : (schema : Schema) → schema ≡ schema_of [] → IsFree schema
bare_is_free schema is = subst IsFree (sym is) (All-nil (λ table. is_named table ≡ false))

-- the tables of the store are both there
pub ours_are_there : (schema : Schema) → HasOursFirst schema → HasOurs schema
ours_are_there schema has = (subst (Has kept) (sym has) here, subst (Has version) (sym has) there)
  where
    here : Has kept (kept ∷ version ∷ drop 2 schema.tables)
    here = (0, kept, omega arith, refl, refl)

    there : Has version (kept ∷ version ∷ drop 2 schema.tables)
    there = (1, version, omega arith, refl, refl)

taken : is_named kept ≡ false → ⊥
unfolding same_name
taken h = true≢false h

-- the tables of the store are not free of its names
pub not_free : (schema : Schema) → HasOursFirst schema → IsFree schema → ⊥
not_free schema has free = taken (subst (All (λ table. is_named table ≡ false)) has free 0 kept (omega arith))
