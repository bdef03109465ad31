use Rattle.pr_yaml.proofs.ReadLaws.{one_reading, one_line, one_kind, tree_or_fault}
use Rattle.pr_yaml.proofs.laws.text_has_one_reading.Goals as goal

pub returns-clause-tree : goal.returns-clause-tree
returns-clause-tree c = one_reading

pub returns-clause-line : goal.returns-clause-line
returns-clause-line c = one_line

pub returns-clause-kind : goal.returns-clause-kind
returns-clause-kind c = one_kind

pub returns-clause-not_both : goal.returns-clause-not_both
returns-clause-not_both c = tree_or_fault
