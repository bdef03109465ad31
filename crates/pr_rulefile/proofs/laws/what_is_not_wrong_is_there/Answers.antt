use Rattle.pr_rulefile.proofs.Whole.{rule_there, group_there}
use Rattle.pr_rulefile.proofs.laws.what_is_not_wrong_is_there.Goals as goal

pub returns-clause-rule : goal.returns-clause-rule
returns-clause-rule c = rule_there

pub returns-clause-group : goal.returns-clause-group
returns-clause-group c = group_there
