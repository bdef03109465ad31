-- What making the tables does to a database.
use Rattle.std.proofs.Common.{◌≡◌, ℕ, pos, List, [], ◌∷◌, map, None, Ok, Err, Result, OnOk, refl, sym, ap, subst, ◌∙◌, arith, false, IsTrue}
use Rattle.sqlite.specs.declared.types.Value.TheVariants.{Null, Int}
use Rattle.sqlite.specs.Order.{Row, column}
use Rattle.sqlite.specs.Term.{Term, lit}
use Rattle.sqlite.specs.Source.TheVariants.{Values}
use Rattle.sqlite.specs.Command.TheVariants.{Insert, CreateTable}
use Rattle.sqlite_tied.specs.Compute.{everything}
use Rattle.sqlite.specs.Listing.{understood}
use Rattle.sqlite.specs.Compile.{table_defined_by}
use Rattle.sqlite.proofs.Callers.{IsPlain, command_of, statement_of, runs_as, one_step}
use Rattle.sqlite.specs.Tree.{Trees}
use Rattle.sqlite.specs.Schema.{Schema}
use Rattle.sqlite.specs.Edit.{edit_of, edited}
use Rattle.sqlite.specs.Rowids.TheVariants.{Chosen}
use Rattle.sqlite.specs.Change.{created, next_tree, KeepsRows}
use Rattle.sqlite.specs.Does.{Tally, Does, lacks_sequence}
use Rattle.sqlite.specs.Rows.{Written}
use Rattle.sqlite.specs.declared.error.Error.{Error}
use Rattle.sqlite.specs.Effect.{Database}
use Rattle.sqlite.specs.State.{State, mode_of, Executes, ExecutesInside, Writes}
use Rattle.std.specs.List.Sorted.{IsPermutation}
use Rattle.std.proofs.lemmas.List.Sorted.{IsPermutation-refl}
use Rattle.pr_outside.specs.spec_history.declared.row.Row.{Row as Line}
use Rattle.pr_keep_sql.specs.private.Tables.{HasOursFirst, kept, version, kept_schema, schema_of, stored_from}
use Rattle.pr_keep_sql.specs.private.Kept.{listed}
use Rattle.pr_keep_sql.specs.private.Statements.{Commits, GoesOn, Makes, MakesKept, MakesVersion, Numbers}
use Rattle.pr_keep_sql.specs.private.Texts.{kept_text, number_text, version_text}
use Rattle.pr_keep_sql.proofs.TableLemmas.{went, same_value, cast_null, cast_int}

abbrev none : Schema
none = schema_of []

abbrev first : Schema
first = schema_of (kept ∷ [])

kept_is : (command_of (understood none kept_text) ≡ CreateTable) × (statement_of kept_text (understood none kept_text) ≡ kept_text) × (table_defined_by kept_text ≡ Ok kept)
unfolding understood everything
kept_is = (refl, refl, refl)

kept_plain : IsPlain (understood none kept_text)
unfolding understood everything
kept_plain = (refl, refl)

version_is : (command_of (understood first version_text) ≡ CreateTable) × (statement_of version_text (understood first version_text) ≡ version_text) × (table_defined_by version_text ≡ Ok (record version { tree = 0 }))
unfolding understood everything
version_is = (refl, refl, refl)

version_plain : IsPlain (understood first version_text)
unfolding understood everything
version_plain = (refl, refl)

abbrev terms : List Term
terms = lit (Int (pos 1)) ∷ lit Null ∷ []

number_is : command_of (understood kept_schema number_text) ≡ Insert 1 (Values terms 2)
unfolding understood everything
number_is = refl

number_plain : IsPlain (understood kept_schema number_text)
unfolding understood everything
number_plain = (refl, refl)

pub makes_kept : (old new : State) (count : ℕ) → Executes kept_text [] old new (Ok count) → MakesKept old.now new.now
makes_kept old new count h = λ has.
    let w = subst (λ t. Writes old new None CreateTable t [] count) kept_is.1 (runs_as kept_text [] old new none has CreateTable kept_is.0 kept_plain count h) in
    let all = went w.changed in
    let done = went all.1 in
    let made = done.1 in
    let both : Ok made.table ≡ Ok kept = sym made.defined ∙ kept_is.2 in
    let same : made.table ≡ kept = cc in
    let schema : done.0.schema ≡ first = made.is ∙ ap (λ s. created s made.table) has ∙ ap (created none) same in
    let plain : lacks_sequence done.0.schema ≡ false = ap lacks_sequence schema in
    let now : new.now ≡ done.0 = ap (λ (p : Tally × Database). p.1) (same_value all.2) ∙ same_value (rw plain at done.2) in
    (ap (λ (d : Database). d.schema) now ∙ schema, ap (λ (d : Database). d.trees 0) now ∙ subst (λ s. done.0.trees (next_tree s) ≡ []) has made.empty)

pub makes_version : (old new : State) (count : ℕ) → Executes version_text [] old new (Ok count) → MakesVersion old.now new.now
makes_version old new count h = λ has.
    let w = subst (λ t. Writes old new None CreateTable t [] count) version_is.1 (runs_as version_text [] old new first has CreateTable version_is.0 version_plain count h) in
    let all = went w.changed in
    let done = went all.1 in
    let made = done.1 in
    let both : Ok made.table ≡ Ok (record version { tree = 0 }) = sym made.defined ∙ version_is.2 in
    let same : made.table ≡ record version { tree = 0 } = cc in
    let schema : done.0.schema ≡ kept_schema = made.is ∙ ap (λ s. created s made.table) has ∙ ap (created first) same in
    let plain : lacks_sequence done.0.schema ≡ false = ap lacks_sequence schema in
    let now : new.now ≡ done.0 = ap (λ (p : Tally × Database). p.1) (same_value all.2) ∙ same_value (rw plain at done.2) in
    let other : done.0.trees 0 ≡ old.now.trees 0 = (subst (λ (s : Schema). KeepsRows s.tables old.now.trees done.0.trees) has made.others).0 in
    (ap (λ (d : Database). d.schema) now ∙ schema, ap (λ (d : Database). d.trees 1) now ∙ subst (λ s. done.0.trees (next_tree s) ≡ []) has made.empty, ap (λ (d : Database). d.trees 0) now ∙ other)

number_edit : (db : Trees) → db 1 ≡ [] → edited db (edit_of db version [] Chosen 0 ((Int (pos 1) ∷ Null ∷ []) ∷ [])) ≡ (Int (pos 1) ∷ Null ∷ []) ∷ []
number_edit db has = rw (has, cast_int (pos 1), cast_null) refl

pub numbers : (old new : State) (count : ℕ) → Executes number_text [] old new (Ok count) → Numbers old.now new.now
numbers old new count h = λ has empty.
    let db = old.now.trees in
    let command = Insert 1 (Values terms 2) in
    let w = runs_as number_text [] old new kept_schema has command number_is number_plain count h in
    let text = statement_of number_text (understood kept_schema number_text) in
    let done = went (subst (λ s. Does old.step_limit (mode_of old) [] (record old.now { schema = s }) text None command (Ok (w.tally, new.now))) has w.changed) in
    let now = ap (λ (p : Tally × Database). p.1) (same_value (went (went done.2).2).2) in
    let given = went done.1 in
    let written = went (went given.2).2 in
    let counted = went written.2 in
    let trees : done.0.trees ≡ written.0 = ap (λ (it : Written). it.trees) (same_value counted.2) ∙ same_value counted.1 in
    let applied = one_step kept_schema _ db written.0 (edit_of db version [] Chosen 0 given.0) refl written.1 in
    let edit = ap (λ all. edited db (edit_of db version [] Chosen 0 all)) given.1.1 ∙ number_edit db empty in
    let other : done.0.trees 0 ≡ db 0 = ap (λ (t : Trees). t 0) trees ∙ applied.others 0 (λ e. omega (arith, e)) tt in
    (ap (λ (d : Database). d.schema) now, ap (map (λ (cells : Row). column cells 0)) (ap (λ (d : Database). d.trees 1) now ∙ ap (λ (t : Trees). t 1) trees ∙ applied.rows ∙ edit), ap (λ (d : Database). d.trees 0) now ∙ other)

-- what a statement inside a transaction does, by what it does alone
pub goes_on : (Does : Database → Database → Type 0) (sql : List ℕ) (old new : State) (r : Result ℕ Error) → ((count : ℕ) → Executes sql [] old new (Ok count) → Does old.now new.now)
    → ExecutesInside 0 sql [] old new r → OnOk r (GoesOn Does old new)
goes_on Does sql old new (Err e) how h = tt
goes_on Does sql old new (Ok count) how h = record { was_open = h.1.was_open; is_open = h.1.is_open; inside = h.1.mode; does = how count h.0 }

-- the tables as they are made keep no rows
pub makes_all : (a b c d : Database) → MakesKept a b → MakesVersion b c → Numbers c d → Makes a d
makes_all a b c d makes then numbers = λ bare.
    let one = makes bare in
    let two = then one.0 in
    let three = numbers two.0 two.1 in
    let empty : d.trees 0 ≡ [] = three.2 ∙ two.2 ∙ one.1 in
    let none : listed d ≡ [] = rw empty refl in
    let table : IsPermutation (stored_from 0 []) (d.trees 0) = rw empty (IsPermutation-refl []) in
    (record { schema = subst HasOursFirst (sym three.0) refl; version = three.1; table = subst (λ (rows : List Line). IsPermutation (stored_from 0 rows) (d.trees 0)) (sym none) table }, none)

-- the statements in turn make them
pub making : (a b c d : State) → GoesOn MakesKept a b → GoesOn MakesVersion b c → GoesOn Numbers c d → GoesOn Makes a d
making a b c d makes then numbers = record { was_open = makes.was_open; is_open = numbers.is_open; inside = numbers.inside; does = makes_all a.now b.now c.now d.now makes.does then.does numbers.does }

pub made : (a d e : State) → GoesOn Makes a d → IsTrue e.is_open → e.now ≡ d.now → Commits Makes a e
made a d e makes up same = record { was_open = makes.was_open; is_open = up; does = subst (Makes a.now) (sym same) makes.does }
