use Rattle.pr_types.proofs.Parts.{node_tells}
use Rattle.pr_types.proofs.laws.outermost_nodes_tell_types.Goals as goal

pub returns : goal.returns
returns c = node_tells
