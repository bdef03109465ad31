use Rattle.pr_rule.proofs.Whole.{none_after}
use Rattle.pr_rule.proofs.alert.laws.no_records_stand_after_the_limit.Goals as goal

pub returns : goal.returns
returns c = none_after
