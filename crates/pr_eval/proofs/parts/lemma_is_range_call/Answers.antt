use Rattle.std.proofs.Common.{◌≡◌, suc, ap, arith}
use Rattle.pr_eval.specs.private.Sizes.{node_count}
use Rattle.pr_ast.specs.Tree.{tree_of, trees_of}
use Rattle.pr_eval.proofs.Trees.{counts_of_one, one_part, range_call_of}
use Rattle.pr_eval.proofs.parts.lemma_is_range_call.Goals as goal

pub returns-clause-one : goal.returns-clause-one
returns-clause-one c = range_call_of (tree_of c.args.e.now) c.args.e.now.place c.args.func (trees_of c.args.args.now) c.requires.tree c.requires.range

pub returns-clause-part : goal.returns-clause-part
returns-clause-part c = λ whole n. one_part whole n (tree_of c.args.e.now) (trees_of c.args.args.now) _ _ (range_call_of (tree_of c.args.e.now) c.args.e.now.place c.args.func (trees_of c.args.args.now) c.requires.tree c.requires.range)

pub returns-clause-count : goal.returns-clause-count
returns-clause-count c = λ n m. counts_of_one n m (tree_of c.args.e.now) (trees_of c.args.args.now) _ (range_call_of (tree_of c.args.e.now) c.args.e.now.place c.args.func (trees_of c.args.args.now) c.requires.tree c.requires.range)

pub returns-clause-smaller : goal.returns-clause-smaller
returns-clause-smaller c =
    let is : node_count (tree_of c.args.e.now) ≡ suc (node_count (trees_of c.args.args.now)) = ap node_count c.requires.tree in
    omega (arith, is)
