-- An argument has fewer nodes than all arguments.
use Rattle.std.proofs.Common.{◌≡◌, ℕ, zero, suc, ◌+◌, ◌<◌, ◌≤◌, List, [], ◌∷◌, length, map, get_or, ap, arith}
use Rattle.pr_ast.specs.declared.tree.Expr.{Expr}
use Rattle.pr_ast.specs.Tree.{Tree, more, more_from, none, tree_of, trees_of}
use Rattle.pr_eval.specs.private.Sizes.{node_count}

grown : (es : List Expr) (before : Tree) → node_count before ≤ node_count (more_from before (map tree_of es))
grown [] before = omega arith
grown (x ∷ es) before = let rest : suc (node_count before + node_count (tree_of x)) ≤ node_count (more_from (more before (tree_of x)) (map tree_of es)) = grown es (more before (tree_of x)) in omega (arith, rest)

smaller_from : (i : ℕ) (es : List Expr) (e : Expr) (before : Tree) → i < length es → e ≡ get_or es i e → node_count (tree_of e) < node_count (more_from before (map tree_of es))
smaller_from i [] e before lt is = absurd (omega arith)
smaller_from zero (x ∷ es) e before lt is =
    let same : node_count (tree_of e) ≡ node_count (tree_of x) = ap (λ u. node_count (tree_of u)) is in
    let rest : suc (node_count before + node_count (tree_of x)) ≤ node_count (more_from (more before (tree_of x)) (map tree_of es)) = grown es (more before (tree_of x)) in
    omega (arith, same, rest)
smaller_from (suc i) (x ∷ es) e before lt is = smaller_from i es e (more before (tree_of x)) (omega arith) is

pub argument_smaller : (i : ℕ) (es : List Expr) (e : Expr) → i < length es → e ≡ get_or es i e → node_count (tree_of e) < node_count (trees_of es)
argument_smaller i es e lt is = smaller_from i es e none lt is
