use Rattle.pr_rule.proofs.Moves.{failed_stands}
use Rattle.pr_rule.proofs.alert.laws.a_fault_leaves_the_records.Goals as goal

pub returns : goal.returns
returns c = failed_stands
