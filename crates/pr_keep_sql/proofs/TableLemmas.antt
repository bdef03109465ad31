-- What the statements of the store do to its tables.
use Rattle.std.proofs.Common.{◌≡◌, ◌⊎◌, inl, inr, ℕ, pos, negsuc, List, [], ◌∷◌, map, codes, Bool, true, false, cond, None, Some, Ok, Err, Result, IfOk, OnOk, drop, refl, sym, ap, subst, ◌∙◌, ◌<◌, ◌++◌, length, arith, rules, ℤ, All, true≢false, ◌&&◌, ◌<ℤ◌}
use Rattle.sqlite.specs.declared.types.Value.{Value}
use Rattle.sqlite.specs.declared.types.Value.TheVariants.{Null, Int, Text}
use Rattle.sqlite.specs.Order.{Row, column, value_cmp}
use Rattle.sqlite.specs.Term.{Term, lit, col, op2, Env, eval_all}
use Rattle.sqlite.specs.Collation.TheVariants.{Binary}
use Rattle.sqlite_sql.specs.declared.ops.BinaryOp.TheVariants.{Compare}
use Rattle.sqlite_sql.specs.declared.ops.CompareOp.TheVariants.{Eq}
use Rattle.sqlite.specs.Query.{Query, inner, end, IsAnswer, output, Output, matches_as}
use Rattle.sqlite.specs.Source.TheVariants.{Values}
use Rattle.sqlite.specs.Command.TheVariants.{Insert, Select}
use Rattle.sqlite_tied.specs.Compute.{everything}
use Rattle.sqlite.specs.Listing.{understood, reads_listing}
use Rattle.sqlite.proofs.Callers.{IsPlain, command_of, statement_of, runs_as, first_as, one_step}
use Rattle.std.specs.declared.cmp.Ordering.TheVariants.{Less, Equal, Greater}
use Rattle.std.specs.Cmp.{int_cmp_is}
use Rattle.sqlite_value.proofs.OrderLemmas.{value_cmp-Int}
use Rattle.sqlite.specs.Tree.{Trees, put_row}
use Rattle.sqlite.specs.Ops.{unary, binary, is_true, from_truth}
use Rattle.sqlite.specs.Cast.{cast}
use Rattle.sqlite.specs.Kind.TheVariants.{Integer}
use Rattle.sqlite.specs.Edit.{edit_of, edited}
use Rattle.sqlite.specs.Rowids.TheVariants.{Chosen}
use Rattle.sqlite.specs.Does.{Tally, Does}
use Rattle.sqlite.specs.Rows.{Written}
use Rattle.sqlite.specs.declared.error.Error.{Error}
use Rattle.sqlite.specs.Effect.{Database}
use Rattle.sqlite.specs.State.{State, mode_of, Executes, QueriesRow}
use Rattle.std.specs.declared.cmp.Ordering.{Ordering}
use Rattle.std.specs.Ordering.{MatchOrdering, is_eq}
use Rattle.std.proofs.lemmas.Cmp.{int_ranked}
use Rattle.std.proofs.lemmas.List.Elements.{All-nil, All-cons, All-head, All-tail, All-same, All-append, All-map}
use Rattle.std.proofs.lemmas.Option.{slice_get_within}
use Rattle.std.specs.List.Sorted.{IsPermutation}
use Rattle.pr_keep_sql.proofs.Listing.{IsElement, elements, one_more}
use Rattle.std.proofs.lemmas.List.Sorted.{All-permutation}
use Rattle.sqlite.specs.Program.{overlay}
use Rattle.pr_outside.specs.spec_history.declared.row.Row.{Row as Entry}
use Rattle.sqlite.specs.Table.{Table}
use Rattle.sqlite_schema.specs.declared.schema.Index.{Index}
use Rattle.sqlite_schema.specs.declared.schema.View.{View}
use Rattle.pr_keep_sql.proofs.FirstTables.{is_ours, no_works, ours}
use Rattle.pr_keep_sql.specs.private.Tables.{HasOursFirst, kept, stored, stored_from}
use Rattle.pr_keep_sql.specs.private.Kept.{Keeps}
use Rattle.pr_keep_sql.specs.private.Statements.{ShowsAt}
use Rattle.pr_keep_sql.specs.private.Texts.{given_params, insert_text, select_text}

abbrev pub terms : List Term
terms = col 0 0 ∷ lit Null ∷ col 0 1 ∷ col 0 2 ∷ col 0 3 ∷ []

module _ (others : List Table) (indexes : List Index) (views : List View) where
  insert_is : command_of (understood (ours others indexes views) insert_text) ≡ Insert 0 (Values terms 5)
  unfolding understood everything
  insert_is = refl

  insert_plain : IsPlain (understood (ours others indexes views) insert_text)
  unfolding understood everything
  insert_plain = (refl, refl)

  select_plain : IsPlain (understood (ours others indexes views) select_text)
  unfolding understood everything
  select_plain = (refl, refl)

  unlisted : reads_listing (ours others indexes views) select_text ≡ false
  unfolding understood everything
  unlisted = refl

either : (b : Bool) (x : Value) → cond b x x ≡ x
either true x = refl
either false x = refl

pub cast_null : cast Integer Null ≡ Null
unfolding unary
cast_null = either _ Null

pub cast_int : (n : ℤ) → cast Integer (Int n) ≡ Int n
unfolding unary
cast_int n = either _ (Int n)

pub less : (k n : ℕ) → k < n → value_cmp (Int (pos k)) (Int (pos n)) ≡ Less
less k n h = value_cmp-Int (pos k) (pos n) ∙ sym (int_cmp_is (pos k) (pos n) Less (search (rules, h)))

-- a row with the next number goes last
pub put_end : (rows : List Entry) (e : Entry) (table : List Row) → All (IsElement rows) table → put_row (stored (length rows) e) table ≡ table ++ stored (length rows) e ∷ []
put_end rows e [] all = refl
put_end rows e (c ∷ table) all =
    let it = All-head (IsElement rows) c table all in
    let low : it.seq < length rows = slice_get_within rows it.seq it.row it.at in
    let before : value_cmp (Int (pos it.seq)) (Int (pos (length rows))) ≡ Less = less it.seq (length rows) low in
    let rest = put_end rows e table (All-tail (IsElement rows) c table all) in
    subst (λ (d : Row). put_row (stored (length rows) e) (d ∷ table) ≡ d ∷ (table ++ stored (length rows) e ∷ [])) (sym it.is)
    (rw before (ap (λ (more : List Row). stored it.seq it.row ∷ more) rest))

-- a part that gave a value did not stop on the way
pub went : {B E R : Type 0} {b : B} {Stops : E → Type 0} → ((stop : E) × Stops stop × (Ok b ≡ Err stop)) ⊎ R → R
went (inl stopped) = absurd (let e = stopped.2 in cc)
went (inr on) = on

pub same_value : {B E : Type 0} {a b : B} → ◌≡◌ {A = Result B E} (Ok a) (Ok b) → a ≡ b
same_value e = cc

edit_is : (db : Trees) (rows : List Entry) (e : Entry) → IsPermutation (stored_from 0 rows) (db 0) →
    edited db (edit_of db kept [] Chosen 0 ((Int (pos (length rows)) ∷ Null ∷ Text e.series ∷ Int (pos e.time) ∷ Text e.point ∷ []) ∷ [])) ≡ db 0 ++ stored (length rows) e ∷ []
edit_is db rows e has = rw (cast_int (pos (length rows)), cast_int (pos e.time), cast_null) (put_end rows e (db 0) (elements rows (db 0) has))

pub adds : (old new : State) (rows : List Entry) (e : Entry) (r : Result ℕ Error) → Keeps old.now rows → Executes insert_text (given_params (length rows) e) old new r
    → OnOk r (Keeps new.now (rows ++ e ∷ []))
adds old new rows e (Err _) has h = tt
adds old new rows e (Ok count) has h =
    let params = given_params (length rows) e in
    let db = old.now.trees in
    let others = drop 2 old.now.schema.tables in
    let indexes = old.now.schema.indexes in
    let views = old.now.schema.views in
    let schema = ours others indexes views in
    let is = is_ours old.now.schema has.schema in
    let command = Insert 0 (Values terms 5) in
    let w = runs_as insert_text params old new schema is command (insert_is others indexes views) (insert_plain others indexes views) count h in
    let text = statement_of insert_text (understood schema insert_text) in
    let done = went (subst (λ s. Does old.step_limit (mode_of old) params (record old.now { schema = s }) text None command (Ok (w.tally, new.now))) is w.changed) in
    let now = ap (λ (p : Tally × Database). p.1) (same_value (went (went done.2).2).2) in
    let given = went done.1 in
    let written = went (went given.2).2 in
    let counted = went written.2 in
    let trees : done.0.trees ≡ written.0 = ap (λ (it : Written). it.trees) (same_value counted.2) ∙ same_value counted.1 in
    let edit = edit_of db kept [] Chosen 0 given.0 in
    let keys = (mode_of old).keys in
    let applied = one_step schema keys db written.0 edit (no_works schema keys 0 edit.news) written.1 in
    let step = applied.rows in
    let other : done.0.trees 1 ≡ db 1 = ap (λ (t : Trees). t 1) trees ∙ applied.tables.1.0 (λ e. omega arith) in
    let edits = ap (λ all. edited db (edit_of db kept [] Chosen 0 all)) given.1.1 ∙ edit_is db rows e has.table in
    record { schema = subst HasOursFirst (sym (ap (λ (d : Database). d.schema) now)) refl; version = ap (map (λ (cells : Row). column cells 0)) (ap (λ (d : Database). d.trees 1) now ∙ other) ∙ has.version; table = subst (λ (t : List Row). IsPermutation (stored_from 0 (rows ++ e ∷ [])) t) (sym (ap (λ (d : Database). d.trees 0) now ∙ ap (λ (t : Trees). t 0) trees ∙ step ∙ edits)) (one_more rows (db 0) e has.table) }

abbrev pub query : Query
query = record {
  from = inner 0 end;
  filter = op2 (Compare Eq Binary) (col 1 0) (col 0 0) ∷ [];
  group = None;
  project = col 1 2 ∷ col 1 3 ∷ col 1 4 ∷ [];
  distinct = false;
  collations = [];
  order = [];
  limit = lit (Int (negsuc 0));
  offset = lit (Int (pos 0));
}

select_is : (others : List Table) (indexes : List Index) (views : List View) → command_of (understood (ours others indexes views) select_text) ≡ Select (record { lets = []; body = query }) (codes "series" ∷ codes "time" ∷ codes "point" ∷ [])
unfolding understood everything
select_is others indexes views = refl

go_equal : (k at : ℕ) (o : Ordering) → MatchOrdering o (pos k <ℤ pos at) (pos k ≡ pos at) (pos at <ℤ pos k) → is_true (from_truth (Some (is_eq o))) ≡ true → k ≡ at
go_equal k at Less m h = absurd (true≢false (sym h))
go_equal k at Equal m h = search (rules, m)
go_equal k at Greater m h = absurd (true≢false (sym h))

-- a row passes the test only at its own number
at_number : (k at : ℕ) → is_true (binary (Compare Eq Binary) (Int (pos k)) (Int (pos at))) ≡ true → k ≡ at
unfolding binary
at_number k at h = go_equal k at _ (int_ranked (pos k) (pos at) (value_cmp (Int (pos k)) (Int (pos at))) (value_cmp-Int (pos k) (pos at))) h

either_all : {X : Type 0} (P : X → Type 0) (x : X) (b : Bool) → (b ≡ true → P x) → All P (cond b (x ∷ []) [])
either_all P x true f = All-cons P x [] (f refl) (All-nil P)
either_all P x false f = All-nil P

and_true : (b : Bool) → (b && true) ≡ true → b ≡ true
and_true true h = refl
and_true false h = absurd (true≢false (sym h))

abbrev FindsAt : List Entry → ℕ → Env → Type 0
FindsAt all at env = ShowsAt all at (eval_all query.project env)

scan : (all : List Entry) (at : ℕ) (table : List Row) → All (IsElement all) table
    → All (FindsAt all at) (matches_as Null (λ _. table) query.filter query.from ((Int (pos at) ∷ []) ∷ []))
scan all at [] els = All-nil (FindsAt all at)
scan all at (c ∷ table) els =
    let it = All-head (IsElement all) c table els in
    let env : Env = (Int (pos at) ∷ []) ∷ stored it.seq it.row ∷ [] in
    subst (λ (d : Row). All (FindsAt all at) (matches_as Null (λ _. d ∷ table) query.filter query.from ((Int (pos at) ∷ []) ∷ []))) (sym it.is)
    (All-append (FindsAt all at) _ _
    (either_all (FindsAt all at) env _ (λ e. let same = at_number it.seq at (and_true _ e) in (it.row, rw (← same) it.at, refl)))
    (scan all at table (All-tail (IsElement all) c table els)))

first_of : {X : Type 0} (P : Row → Type 0) (f : X → Row) (xs : List X) (row : Row) (rest : List Row) → row ∷ rest ≡ map f xs → All (λ x. P (f x)) xs → P row
first_of P f [] row rest e all = absurd cc
first_of P f (x ∷ xs) row rest e all = let head : row ≡ f x = cc in rw head (All-head (λ x. P (f x)) x xs all)

pub finds : (old new : State) (rows : List Entry) (at : ℕ) (r : Result Row Error) → Keeps old.now rows → QueriesRow select_text (Int (pos at) ∷ []) old new r
    → IfOk r (ShowsAt rows at)
unfolding QueriesRow
finds old new rows at (Err _) has h = tt
finds old new rows at (Ok row) has h =
    let params = Int (pos at) ∷ [] in
    let others = drop 2 old.now.schema.tables in
    let indexes = old.now.schema.indexes in
    let views = old.now.schema.views in
    let got = (first_as select_text params old new (ours others indexes views) (is_ours old.now.schema has.schema) _ (select_is others indexes views) (select_plain others indexes views) (unlisted others indexes views) row h).1 in
    let a : IsAnswer query (overlay old.now.trees []) params (row ∷ got.0) = got.1 Null in
    let Q : Output → Type 0 = λ o. ShowsAt rows at o.1 in
    let scanned = scan rows at (old.now.trees 0) (elements rows (old.now.trees 0) has.table) in
    let staged : All (FindsAt rows at) a.staged = All-same (FindsAt rows at) a.staged _ a.grouped scanned in
    let kept_all : All Q a.kept = All-same Q a.kept _ a.distinct (All-map Q (output query) a.staged staged) in
    first_of (ShowsAt rows at) (λ (o : Output). o.1) a.ordered row got.0 a.shown (All-permutation Q a.kept a.ordered a.same kept_all)
