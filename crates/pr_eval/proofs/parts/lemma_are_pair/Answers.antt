use Rattle.std.proofs.Common.{◌≡◌, ◌+◌, suc, ap, arith}
use Rattle.pr_eval.specs.private.Sizes.{node_count}
use Rattle.pr_ast.specs.Tree.{tree_of, trees_of}
use Rattle.pr_eval.proofs.Trees.{counts_of_two, first_part, pair_of, second_part}
use Rattle.pr_eval.proofs.parts.lemma_are_pair.Goals as goal

pub returns-clause-two : goal.returns-clause-two
returns-clause-two c = pair_of (trees_of c.args.args.now) (tree_of c.args.first.now) (tree_of c.args.second.now) c.requires

pub returns-clause-first_part : goal.returns-clause-first_part
returns-clause-first_part c = λ whole n. first_part whole n (trees_of c.args.args.now) (tree_of c.args.first.now) (tree_of c.args.second.now) (pair_of (trees_of c.args.args.now) (tree_of c.args.first.now) (tree_of c.args.second.now) c.requires)

pub returns-clause-second_part : goal.returns-clause-second_part
returns-clause-second_part c = λ whole n m. second_part whole n m (trees_of c.args.args.now) (tree_of c.args.first.now) (tree_of c.args.second.now) (pair_of (trees_of c.args.args.now) (tree_of c.args.first.now) (tree_of c.args.second.now) c.requires)

pub returns-clause-count : goal.returns-clause-count
returns-clause-count c = λ n m k. counts_of_two n m k (trees_of c.args.args.now) (tree_of c.args.first.now) (tree_of c.args.second.now) (pair_of (trees_of c.args.args.now) (tree_of c.args.first.now) (tree_of c.args.second.now) c.requires)

pub returns-clause-first_smaller : goal.returns-clause-first_smaller
returns-clause-first_smaller c =
    let is : node_count (trees_of c.args.args.now) ≡ suc (suc (0 + node_count (tree_of c.args.first.now)) + node_count (tree_of c.args.second.now)) = ap node_count c.requires in
    omega (arith, is)

pub returns-clause-second_smaller : goal.returns-clause-second_smaller
returns-clause-second_smaller c =
    let is : node_count (trees_of c.args.args.now) ≡ suc (suc (0 + node_count (tree_of c.args.first.now)) + node_count (tree_of c.args.second.now)) = ap node_count c.requires in
    omega (arith, is)
