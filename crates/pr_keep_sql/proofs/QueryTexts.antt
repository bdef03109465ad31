-- The texts of the queries are queries over every schema: none of them has RETURNING.
use Rattle.std.proofs.Common.{◌≡◌, ◌+◌, ℕ, List, Bool, true, false, None, Option, Ok, Err, refl, sym, ap, if◌then◌else◌}
use Rattle.sqlite_ast.specs.declared.Statement.{Statement}
use Rattle.sqlite_ast.specs.declared.Statement.TheVariants as written
use Rattle.sqlite_syntax.specs.declared.statement.Parsed.{Parsed}
use Rattle.sqlite_schema.specs.declared.command.Command.{Command}
use Rattle.sqlite_schema.specs.declared.command.Returning.{Returning}
use Rattle.sqlite_schema.specs.declared.schema.Schema.{Schema}
use Rattle.sqlite_resolve.specs.Lowering.{Checked, and_then}
use Rattle.sqlite_resolve.specs.Compile.{command, compiled, first, meaning, planned, returning, timed, small, with_command}
use Rattle.sqlite_resolve.specs.declared.compiled.Compiled.{Compiled}
use Rattle.sqlite_resolve.specs.declared.error.CompileError.{CompileError}
use Rattle.sqlite_tied.specs.Compute.{everything}
use Rattle.sqlite.specs.Listing.{if_select, is_select, listing_schema, reads_listing, understood}
use Rattle.pr_keep_sql.specs.private.Texts.{numbers_text, rows_text, select_text}

-- whatever it is understood as, it has no RETURNING
abbrev pub OnlyReads : List ℕ → Type 0
OnlyReads sql = (schema : Schema) (c : Compiled) → understood schema sql ≡ Ok c → c.returning ≡ None

abbrev is_query : Statement → Bool
is_query (written.Select s) = true
is_query _ = false

abbrev reads_query : Checked Parsed → Bool
reads_query (Ok p) = is_query p.statement
reads_query (Err e) = false

shows_nothing : (schema : Schema) (base : ℕ) (s : Statement) → is_query s ≡ true → returning schema base s ≡ Ok None
unfolding returning
shows_nothing schema base (written.Select s) h = refl
shows_nothing schema base _ h = absurd cc

abbrev meant : Parsed → List (List ℕ) → Checked (Option Returning) → Checked Command → Checked Compiled
meant p formats shown ran =
    and_then (and_then (and_then shown (λ s. and_then ran (λ k. Ok (k, s)))) (λ found. Ok (formats, found))) (λ plan. Ok (with_command p plan))

meant_plain : (p : Parsed) (formats : List (List ℕ)) (ran : Checked Command) (c : Compiled) → meant p formats (Ok None) ran ≡ Ok c → c.returning ≡ None
meant_plain p formats (Ok k) c h = let same : with_command p (formats, (k, None)) ≡ c = cc in sym (ap (λ (x : Compiled). x.returning) same)
meant_plain p formats (Err e) c h = absurd cc

by_parsed : (schema : Schema) (r : Checked Parsed) (c : Compiled) → reads_query r ≡ true → and_then r (λ p. and_then (planned schema p) (λ plan. Ok (with_command p plan))) ≡ Ok c → c.returning ≡ None
unfolding planned meaning
by_parsed schema (Ok p) c query h =
    let formats = timed schema p.formats p.statement in
    let base : ℕ = small p.names + small formats in
    meant_plain p formats (command schema p.formats base p.statement) c (rw (shows_nothing schema base p.statement query) at h)
by_parsed schema (Err e) c query h = absurd cc

compiled_plain : (schema : Schema) (sql : List ℕ) (c : Compiled) → reads_query (first sql) ≡ true → compiled schema sql ≡ Ok c → c.returning ≡ None
unfolding compiled
compiled_plain schema sql c query h = by_parsed schema (first sql) c query h

by_choice : (b : Bool) (x y z : Checked Compiled) → (y ≡ z → ⊥) → (if b then x else y) ≡ z → x ≡ z
by_choice true x y z never h = h
by_choice false x y z never h = absurd (never h)

selected : (r : Checked Compiled) (c : Compiled) → if_select r ≡ Ok c → r ≡ Ok c
selected (Ok k) c h = by_choice (is_select k.command) (Ok k) (Err CompileError.NoSuchTable) (Ok c) (λ e. cc) h
selected (Err e) c h = absurd cc

is_query_text : (sql : List ℕ) → reads_query (first sql) ≡ true → OnlyReads sql
unfolding understood
is_query_text sql query schema c h = by (reads_listing schema sql) h
  where
    by : (b : Bool) → (if b then if_select (compiled listing_schema sql) else compiled schema sql) ≡ Ok c → c.returning ≡ None
    by true h = compiled_plain listing_schema sql c query (selected _ c h)
    by false h = compiled_plain schema sql c query h

numbers_read : reads_query (first numbers_text) ≡ true
unfolding everything
numbers_read = refl

rows_read : reads_query (first rows_text) ≡ true
unfolding everything
rows_read = refl

select_read : reads_query (first select_text) ≡ true
unfolding everything
select_read = refl

pub numbers_only_read : OnlyReads numbers_text
numbers_only_read = is_query_text numbers_text numbers_read

pub rows_only_read : OnlyReads rows_text
rows_only_read = is_query_text rows_text rows_read

pub select_only_read : OnlyReads select_text
select_only_read = is_query_text select_text select_read
