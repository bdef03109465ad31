-- The expression of a check.
use Rattle.std.proofs.Common.{◌≡◌, ℕ, List, Option, Some, None, Result, Ok, Err, refl, ap, sym, ◌∙◌}
use Rattle.pr_ast.specs.Tree.{Tree}
use Rattle.pr_rulefile.specs.declared.fields.problem.ProblemKind.{ProblemKind}
use Rattle.pr_rulefile.specs.Expressions.{typed_expression, by_written, on_line, tree_found}

pub some_tree : (line : ℕ) (text : List ℕ) (t : Tree) → Ok t ≡ typed_expression text → tree_found (by_written line (Some text)) ≡ Some t
some_tree line text t h = ap (λ (r : Result Tree ProblemKind). tree_found (on_line line r)) (sym h)

pub no_tree : (line : ℕ) (text : List ℕ) (kind : ProblemKind) → Err kind ≡ typed_expression text → tree_found (by_written line (Some text)) ≡ None
no_tree line text kind h = ap (λ (r : Result Tree ProblemKind). tree_found (on_line line r)) (sym h)
