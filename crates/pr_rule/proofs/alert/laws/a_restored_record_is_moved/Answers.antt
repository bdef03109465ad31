use Rattle.pr_rule.proofs.Moves.{moved_as_one, moved_stands}
use Rattle.pr_rule.proofs.alert.laws.a_restored_record_is_moved.Goals as goal

pub returns-clause-moved : goal.returns-clause-moved
returns-clause-moved c = moved_stands

pub returns-clause-as_one : goal.returns-clause-as_one
returns-clause-as_one c = moved_as_one
