use Rattle.pr_yaml.proofs.ReadLaws.{tree_both, fault_both}
use Rattle.pr_yaml.proofs.laws.reading_is_tree_or_fault.Goals as goal

pub returns-clause-tree : goal.returns-clause-tree
returns-clause-tree c = tree_both

pub returns-clause-fault : goal.returns-clause-fault
returns-clause-fault c = fault_both
