use Rattle.pr_ast.specs.Tree.{tree_of}
use Rattle.pr_eval.proofs.RangeKinds.{range_node}
use Rattle.pr_eval.proofs.parts.lemma_is_a_range.Goals as goal

pub returns : goal.returns
returns c = range_node (tree_of c.args.e.now) c.requires
