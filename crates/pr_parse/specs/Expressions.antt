-- The expression that a text is: its tree, where that has a type; else its first fault.
use Rattle.std.specs.Prelude.{◌≡◌, ℕ, List, Result, Ok, Err}
use Rattle.pr_ast.specs.Tree.{Tree}
use Rattle.pr_types.specs.declared.kind.TypeFault.{TypeFault}
use Rattle.pr_types.specs.declared.kind.ValueType.{ValueType}
use Rattle.pr_types.specs.Typed.{checked}
use Rattle.pr_parse.specs.Parsed.{Parsed, gives_tree, gives_lex_fault, gives_fault, parsed}
use Rattle.pr_parse.specs.declared.query_kind.QueryError.{QueryError}
use Rattle.pr_parse.specs.declared.query_kind.QueryError.TheVariants.{Fault, Memory}
use Rattle.pr_parse.specs.declared.query_kind.QueryKind.{QueryKind}
use Rattle.pr_parse.specs.declared.query_kind.QueryKind.TheVariants.{Lex, Parse, Typing}

-- the byte at which the first fault of a text stands, and what it is
pub record ExpressionFault : Type 0 where
  pub at : ℕ
  pub kind : QueryKind

abbrev pub expression_fault : ℕ → QueryKind → ExpressionFault
expression_fault at kind = record { at = at; kind = kind }

abbrev pub typed_tree : Tree → Result ValueType TypeFault → Result Tree ExpressionFault
typed_tree t (Ok type) = Ok t
typed_tree t (Err f) = Err (expression_fault f.at (Typing f.kind))

abbrev pub expression_by : Parsed → Result Tree ExpressionFault
expression_by (gives_tree t) = typed_tree t (checked t)
expression_by (gives_lex_fault at kind) = Err (expression_fault at (Lex kind))
expression_by (gives_fault at kind) = Err (expression_fault at (Parse kind))

-- The tree of a text that is an expression with a type, or the first fault.
unfoldable pub expression_of : List ℕ → Result Tree ExpressionFault
expression_of text = expression_by (parsed text)

-- The error is the fault. Nothing is said where memory runs out.
abbrev pub IsExpressionFault : Result Tree ExpressionFault → QueryError → Type 0
IsExpressionFault r (Fault at kind) = r ≡ Err (expression_fault at kind)
IsExpressionFault r Memory = Unit {0}
