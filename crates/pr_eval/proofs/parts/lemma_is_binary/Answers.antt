use Rattle.std.proofs.Common.{◌≡◌, ◌+◌, suc, ap, arith}
use Rattle.pr_ast.specs.Tree.{tree_of}
use Rattle.pr_eval.specs.private.Sizes.{node_count}
use Rattle.pr_eval.proofs.Trees.{binary_of, counts_of_two, first_part, left_valued, right_valued, second_part}
use Rattle.pr_eval.proofs.parts.lemma_is_binary.Goals as goal

pub returns-clause-two : goal.returns-clause-two
returns-clause-two c =
    binary_of (tree_of c.args.e.now) c.args.e.now.place c.args.op c.args.with_bool c.args.matching.now (tree_of c.args.left.now) (tree_of c.args.right.now) c.requires

pub returns-clause-left_part : goal.returns-clause-left_part
returns-clause-left_part c =
    λ whole n. first_part whole n (tree_of c.args.e.now) (tree_of c.args.left.now) (tree_of c.args.right.now) (binary_of (tree_of c.args.e.now) c.args.e.now.place c.args.op c.args.with_bool c.args.matching.now (tree_of c.args.left.now) (tree_of c.args.right.now) c.requires)

pub returns-clause-right_part : goal.returns-clause-right_part
returns-clause-right_part c =
    λ whole n m. second_part whole n m (tree_of c.args.e.now) (tree_of c.args.left.now) (tree_of c.args.right.now) (binary_of (tree_of c.args.e.now) c.args.e.now.place c.args.op c.args.with_bool c.args.matching.now (tree_of c.args.left.now) (tree_of c.args.right.now) c.requires)

pub returns-clause-left_valued : goal.returns-clause-left_valued
returns-clause-left_valued c =
    left_valued (tree_of c.args.e.now) c.args.e.now.place c.args.op c.args.with_bool c.args.matching.now (tree_of c.args.left.now) (tree_of c.args.right.now) c.requires

pub returns-clause-right_valued : goal.returns-clause-right_valued
returns-clause-right_valued c =
    right_valued (tree_of c.args.e.now) c.args.e.now.place c.args.op c.args.with_bool c.args.matching.now (tree_of c.args.left.now) (tree_of c.args.right.now) c.requires

pub returns-clause-count : goal.returns-clause-count
returns-clause-count c =
    λ n m k. counts_of_two n m k (tree_of c.args.e.now) (tree_of c.args.left.now) (tree_of c.args.right.now) (binary_of (tree_of c.args.e.now) c.args.e.now.place c.args.op c.args.with_bool c.args.matching.now (tree_of c.args.left.now) (tree_of c.args.right.now) c.requires)

pub returns-clause-left_smaller : goal.returns-clause-left_smaller
returns-clause-left_smaller c =
    let is : node_count (tree_of c.args.e.now) ≡ suc (node_count (tree_of c.args.left.now) + node_count (tree_of c.args.right.now)) = ap node_count c.requires in
    omega (arith, is)

pub returns-clause-right_smaller : goal.returns-clause-right_smaller
returns-clause-right_smaller c =
    let is : node_count (tree_of c.args.e.now) ≡ suc (node_count (tree_of c.args.left.now) + node_count (tree_of c.args.right.now)) = ap node_count c.requires in
    omega (arith, is)
