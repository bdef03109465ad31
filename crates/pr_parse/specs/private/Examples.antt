-- Trees for worked examples, whose tokens are those of pr_ast::lex.
use Rattle.std.specs.Prelude.{ℕ, Some, List, []}
use Rattle.pr_ast.specs.declared.place.Place.{Place}
use Rattle.pr_ast.specs.Tree.{Tree, select}
use Rattle.pr_parse.specs.Grammar.{selector_of}

abbrev pub place : ℕ → ℕ → Place
place start end = record { start = start; end = end }

-- the selector of a metric's name
abbrev pub metric : ℕ → ℕ → List ℕ → Tree
metric start end text = select (place start end) (selector_of (Some text) [])
