use Rattle.pr_rule.proofs.Whole.{records_stand, stands_alone, stands_unsent}
use Rattle.pr_rule.proofs.alert.laws.records_of_a_lineage_stand_for_it.Goals as goal

pub returns-clause-stand : goal.returns-clause-stand
returns-clause-stand c = records_stand

pub returns-clause-alone : goal.returns-clause-alone
returns-clause-alone c = stands_alone

pub returns-clause-unsent : goal.returns-clause-unsent
returns-clause-unsent c = stands_unsent
