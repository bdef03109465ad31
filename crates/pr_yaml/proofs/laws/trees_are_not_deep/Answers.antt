use Rattle.pr_yaml.proofs.Depths.{low_tree}
use Rattle.pr_yaml.proofs.laws.trees_are_not_deep.Goals as goal

pub returns : goal.returns
returns c = low_tree
