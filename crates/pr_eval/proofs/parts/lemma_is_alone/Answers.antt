use Rattle.std.proofs.Common.{◌≡◌, ◌+◌, suc, ap, arith}
use Rattle.pr_eval.specs.private.Sizes.{node_count}
use Rattle.pr_ast.specs.Tree.{tree_of, trees_of}
use Rattle.pr_eval.proofs.Trees.{counts_of_one, one_part, single_of}
use Rattle.pr_eval.proofs.parts.lemma_is_alone.Goals as goal

pub returns-clause-one : goal.returns-clause-one
returns-clause-one c = single_of (trees_of c.args.args.now) (tree_of c.args.only.now) c.requires

pub returns-clause-part : goal.returns-clause-part
returns-clause-part c = λ whole n. one_part whole n (trees_of c.args.args.now) (tree_of c.args.only.now) _ _ (single_of (trees_of c.args.args.now) (tree_of c.args.only.now) c.requires)

pub returns-clause-count : goal.returns-clause-count
returns-clause-count c = λ n m. counts_of_one n m (trees_of c.args.args.now) (tree_of c.args.only.now) _ (single_of (trees_of c.args.args.now) (tree_of c.args.only.now) c.requires)

pub returns-clause-smaller : goal.returns-clause-smaller
returns-clause-smaller c =
    let is : node_count (trees_of c.args.args.now) ≡ suc (0 + node_count (tree_of c.args.only.now)) = ap node_count c.requires in
    omega (arith, is)
