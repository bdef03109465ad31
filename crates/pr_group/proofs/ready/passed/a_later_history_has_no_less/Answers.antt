use Rattle.pr_group.proofs.Falling.{later_falls_not, later_within}
use Rattle.pr_group.proofs.ready.passed.a_later_history_has_no_less.Goals as goal

pub returns-clause-within : goal.returns-clause-within
returns-clause-within c = later_within

pub returns-clause-falls : goal.returns-clause-falls
returns-clause-falls c = later_falls_not
