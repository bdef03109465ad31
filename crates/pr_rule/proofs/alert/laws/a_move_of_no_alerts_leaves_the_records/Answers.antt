use Rattle.pr_rule.proofs.Moves.{none_moved_stands}
use Rattle.pr_rule.proofs.alert.laws.a_move_of_no_alerts_leaves_the_records.Goals as goal

pub returns : goal.returns
returns c = none_moved_stands
