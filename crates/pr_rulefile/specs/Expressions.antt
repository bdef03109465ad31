-- Expressions: the text of one, and the field `expr` of a map.
use Rattle.std.specs.Prelude.{ℕ, List, [], ◌∷◌, codes, Option, Some, None, Result, Ok, Err, if◌then◌else◌}
use Rattle.pr_ast.specs.declared.tree.Expr.{Expr}
use Rattle.pr_ast.specs.Tree.{Tree, tree_of}
use Rattle.pr_parse.specs.Expressions.{ExpressionFault, expression_of}
use Rattle.pr_yaml.specs.Tree.{Tree as Node}
use Rattle.pr_rulefile.specs.declared.fields.problem.Problem.{Problem}
use Rattle.pr_rulefile.specs.declared.fields.problem.ProblemKind.{ProblemKind}
use Rattle.pr_rulefile.specs.declared.fields.problem.ProblemKind.TheVariants.{WantText, Missing, Expression}
use Rattle.pr_rulefile.specs.Nodes.{line_of, text_of, says_nothing}
use Rattle.pr_rulefile.specs.Problems.{problem}

abbrev pub expression_answer : Result Tree ExpressionFault → Result Tree ProblemKind
expression_answer (Ok t) = Ok t
expression_answer (Err f) = Err (Expression f.kind f.at)

-- The tree of a text that is an expression with a type; else what is wrong with it first.
unfoldable pub typed_expression : List ℕ → Result Tree ProblemKind
typed_expression text = expression_answer (expression_of text)

-- what the code's answer says
abbrev pub tree_answered : Result Expr ProblemKind → Result Tree ProblemKind
tree_answered (Ok e) = Ok (tree_of e)
tree_answered (Err kind) = Err kind

-- the same for the value of a field, which has to be there
abbrev pub on_line : ℕ → Result Tree ProblemKind → Result Tree Problem
on_line line (Ok t) = Ok t
on_line line (Err kind) = Err (problem line kind)

abbrev pub by_written : ℕ → Option (List ℕ) → Result Tree Problem
by_written line (Some text) = on_line line (typed_expression text)
by_written line None = Err (problem line WantText)

unfoldable pub expression_under : ℕ → Option Node → Result Tree Problem
expression_under line None = Err (problem line (Missing (codes "expr")))
expression_under line (Some n) = by_written (line_of n) (text_of n)

-- the one problem, if there is one, and the tree
abbrev pub expression_problems : Result Tree Problem → List Problem
expression_problems (Ok t) = []
expression_problems (Err p) = p ∷ []

abbrev pub tree_found : Result Tree Problem → Option Tree
tree_found (Ok t) = Some t
tree_found (Err p) = None

-- the same of a value, where an empty text is told as missing
unfoldable pub expression_value_problems : Node → List Problem
expression_value_problems n = if says_nothing n then [] else expression_problems (by_written (line_of n) (text_of n))
