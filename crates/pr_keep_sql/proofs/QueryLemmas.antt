-- What the queries over whole tables show.
use Rattle.std.proofs.Common.{◌≡◌, ℕ, pos, negsuc, List, [], ◌∷◌, map, codes, drop, false, None, refl, sym, ap, subst, ◌∙◌}
use Rattle.std.specs.List.Sorted.{IsPermutation, IsSorted}
use Rattle.std.proofs.lemmas.List.Sorted.{IsPermutation-map, IsPermutation-sym}
use Rattle.sqlite.specs.declared.types.Value.{Value}
use Rattle.sqlite.specs.declared.types.Value.TheVariants.{Null, Int}
use Rattle.sqlite.specs.Order.{Row, column}
use Rattle.sqlite.specs.Term.{Term, Env, lit, col, eval_all}
use Rattle.sqlite.specs.Query.{Query, inner, end, IsAnswer, output, output_cmp, matches_as, Output}
use Rattle.sqlite_value.specs.Keys.{ascending}
use Rattle.sqlite_value.specs.declared.keys.Key.{Key}
use Rattle.sqlite.specs.Collation.TheVariants.{Binary}
use Rattle.sqlite.specs.Command.TheVariants.{Select}
use Rattle.sqlite.specs.Program.{overlay}
use Rattle.sqlite.specs.Effect.{Reads}
use Rattle.sqlite.specs.State.{State, Shown}
use Rattle.sqlite_tied.specs.Compute.{everything}
use Rattle.sqlite.specs.Listing.{understood, reads_listing}
use Rattle.sqlite.proofs.Callers.{IsPlain, command_of, reads_as, one_permutation}
use Rattle.sqlite.specs.Table.{Table}
use Rattle.sqlite_schema.specs.declared.schema.Index.{Index}
use Rattle.sqlite_schema.specs.declared.schema.View.{View}
use Rattle.pr_keep_sql.proofs.FirstTables.{is_ours, ours}
use Rattle.pr_keep_sql.specs.private.Tables.{HasOursFirst}
use Rattle.pr_keep_sql.specs.private.Kept.{versions}
use Rattle.pr_keep_sql.specs.private.Found.{shown_cells}
use Rattle.pr_keep_sql.specs.private.Texts.{numbers_text, rows_text}

abbrev whole : ℕ → List Term → List (Term × Key) → Query
whole tree project order = record {
  from = inner tree end;
  filter = [];
  group = None;
  project = project;
  distinct = false;
  collations = [];
  order = order;
  limit = lit (Int (negsuc 0));
  offset = lit (Int (pos 0));
}

abbrev numbers_query : Query
numbers_query = whole 1 (col 1 0 ∷ []) []

abbrev pub rows_query : Query
rows_query = whole 0 (col 1 0 ∷ col 1 2 ∷ col 1 3 ∷ col 1 4 ∷ []) ((col 1 0, ascending Binary) ∷ [])

module _ (others : List Table) (indexes : List Index) (views : List View) where
  numbers_is : command_of (understood (ours others indexes views) numbers_text) ≡ Select (record { lets = []; body = numbers_query }) (codes "n" ∷ [])
  unfolding understood everything
  numbers_is = refl

  numbers_plain : IsPlain (understood (ours others indexes views) numbers_text)
  unfolding understood everything
  numbers_plain = (refl, refl)

  numbers_unlisted : reads_listing (ours others indexes views) numbers_text ≡ false
  unfolding understood everything
  numbers_unlisted = refl

  rows_is : command_of (understood (ours others indexes views) rows_text) ≡ Select (record { lets = []; body = rows_query }) (codes "seq" ∷ codes "series" ∷ codes "time" ∷ codes "point" ∷ [])
  unfolding understood everything
  rows_is = refl

  rows_plain : IsPlain (understood (ours others indexes views) rows_text)
  unfolding understood everything
  rows_plain = (refl, refl)

  rows_unlisted : reads_listing (ours others indexes views) rows_text ≡ false
  unfolding understood everything
  rows_unlisted = refl

-- what the queries read of a database in which the tables stand first
module _ (old new : State) (rows : List Row) (has : HasOursFirst old.now.schema) where
  numbers_read : Shown numbers_text [] old new rows → Reads (Select (record { lets = []; body = numbers_query }) (codes "n" ∷ [])) old.now [] rows
  numbers_read =
      let others = drop 2 old.now.schema.tables in
      let indexes = old.now.schema.indexes in
      let views = old.now.schema.views in
      reads_as numbers_text [] old new (ours others indexes views) (is_ours old.now.schema has) _ (numbers_is others indexes views) (numbers_plain others indexes views) (numbers_unlisted others indexes views) rows

  rows_read : Shown rows_text [] old new rows → Reads (Select (record { lets = []; body = rows_query }) (codes "seq" ∷ codes "series" ∷ codes "time" ∷ codes "point" ∷ [])) old.now [] rows
  rows_read =
      let others = drop 2 old.now.schema.tables in
      let indexes = old.now.schema.indexes in
      let views = old.now.schema.views in
      reads_as rows_text [] old new (ours others indexes views) (is_ours old.now.schema has) _ (rows_is others indexes views) (rows_plain others indexes views) (rows_unlisted others indexes views) rows

abbrev pub env_of : Row → Env
env_of row = [] ∷ row ∷ []

-- each row of the table is a match
all_match : (tree : ℕ) (project : List Term) (order : List (Term × Key)) (table : List Row) → matches_as Null (λ _. table) (whole tree project order).filter (whole tree project order).from ([] ∷ []) ≡ map env_of table
all_match tree project order [] = refl
all_match tree project order (row ∷ table) = ap (λ (rest : List Env). env_of row ∷ rest) (all_match tree project order table)

what_shows : (q : Query) (table : List Row) → map (λ (o : Output). o.1) (map (output q) (map env_of table)) ≡ map (λ row. eval_all q.project (env_of row)) table
what_shows q [] = refl
what_shows q (row ∷ table) = ap (λ rest. eval_all q.project (env_of row) ∷ rest) (what_shows q table)

shown_by : (q : Query) (table rows : List Row) (staged : List Env) (kept ordered : List Output) → staged ≡ map env_of table → kept ≡ map (output q) staged → IsPermutation kept ordered
    → rows ≡ map (λ (o : Output). o.1) ordered → IsPermutation (map (λ row. eval_all q.project (env_of row)) table) rows
shown_by q table rows staged kept ordered all is same shown =
    let first : map (λ (o : Output). o.1) kept ≡ map (λ row. eval_all q.project (env_of row)) table =
    ap (map (λ (o : Output). o.1)) (is ∙ ap (map (output q)) all) ∙ what_shows q table in
    subst (λ xs. IsPermutation xs rows) first (subst (IsPermutation (map (λ (o : Output). o.1) kept)) (sym shown) (IsPermutation-map (λ (o : Output). o.1) kept ordered same))

abbrev pub first_cell : Row → Value
first_cell cells = column cells 0

firsts : (table : List Row) → map first_cell (map (λ row. eval_all numbers_query.project (env_of row)) table) ≡ map first_cell table
firsts [] = refl
firsts (row ∷ table) = ap (λ rest. first_cell row ∷ rest) (firsts table)

-- the numbers that are shown are those of the table
numbers_same : (old new : State) (rows : List Row) → HasOursFirst old.now.schema → Shown numbers_text [] old new rows → IsPermutation (versions old.now) (map first_cell rows)
numbers_same old new rows has h =
    let table = old.now.trees 1 in
    let read = numbers_read old new rows has h in
    let a : IsAnswer numbers_query (overlay old.now.trees []) [] rows = read.answer Null in
    let shown = shown_by numbers_query table rows a.staged a.kept a.ordered (a.grouped ∙ all_match 1 numbers_query.project [] table) a.distinct a.same a.shown in
    subst (λ xs. IsPermutation xs (map first_cell rows)) (firsts table) (IsPermutation-map first_cell (map (λ row. eval_all numbers_query.project (env_of row)) table) rows shown)

pub numbers_found : (old new : State) (rows : List Row) → HasOursFirst old.now.schema → Shown numbers_text [] old new rows → map first_cell rows ≡ Int (pos 1) ∷ [] → versions old.now ≡ Int (pos 1) ∷ []
numbers_found old new rows has h is =
    one_permutation (Int (pos 1)) (versions old.now) (IsPermutation-sym (versions old.now) (Int (pos 1) ∷ []) (subst (IsPermutation (versions old.now)) is (numbers_same old new rows has h)))

pub numbers_shown : (old new : State) (rows : List Row) → HasOursFirst old.now.schema → Shown numbers_text [] old new rows → versions old.now ≡ Int (pos 1) ∷ [] → map first_cell rows ≡ Int (pos 1) ∷ []
numbers_shown old new rows has h is = one_permutation (Int (pos 1)) (map first_cell rows) (subst (λ xs. IsPermutation xs (map first_cell rows)) is (numbers_same old new rows has h))

shows : (table : List Row) → map (λ row. eval_all rows_query.project (env_of row)) table ≡ map shown_cells table
shows [] = refl
shows (row ∷ table) = ap (λ rest. shown_cells row ∷ rest) (shows table)

-- the rows that are shown are those of the table
pub rows_shown : (old new : State) (rows : List Row) → HasOursFirst old.now.schema → Shown rows_text [] old new rows → IsPermutation (map shown_cells (old.now.trees 0)) rows
rows_shown old new rows has h =
    let table = old.now.trees 0 in
    let read = rows_read old new rows has h in
    let a : IsAnswer rows_query (overlay old.now.trees []) [] rows = read.answer Null in
    let shown = shown_by rows_query table rows a.staged a.kept a.ordered (a.grouped ∙ all_match 0 rows_query.project rows_query.order table) a.distinct a.same a.shown in
    subst (λ xs. IsPermutation xs rows) (shows table) shown

outputs : (q : Query) (table : List Row) → map (output q) (map env_of table) ≡ map (λ row. output q (env_of row)) table
outputs q [] = refl
outputs q (row ∷ table) = ap (λ (rest : List Output). output q (env_of row) ∷ rest) (outputs q table)

-- what is sorted and shown of a table
pub record Sorts (table rows : List Row) : Type 0 where
  pub ordered : List Output
  pub same : IsPermutation (map (λ row. output rows_query (env_of row)) table) ordered
  pub sorted : IsSorted (output_cmp rows_query) ordered
  pub shown : rows ≡ map (λ (o : Output). o.1) ordered

pub rows_sorted : (old new : State) (rows : List Row) → HasOursFirst old.now.schema → Shown rows_text [] old new rows → Sorts (old.now.trees 0) rows
rows_sorted old new rows has h =
    let table = old.now.trees 0 in
    let read = rows_read old new rows has h in
    let a : IsAnswer rows_query (overlay old.now.trees []) [] rows = read.answer Null in
    let kept : a.kept ≡ map (λ row. output rows_query (env_of row)) table = a.distinct ∙ ap (map (output rows_query)) (a.grouped ∙ all_match 0 rows_query.project rows_query.order table) ∙ outputs rows_query table in
    record { ordered = a.ordered; same = subst (λ xs. IsPermutation xs a.ordered) kept a.same; sorted = a.sorted; shown = a.shown }
