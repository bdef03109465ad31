use Rattle.pr_group.proofs.Falling.{carried_is, carried_within}
use Rattle.pr_group.proofs.ready.passed.a_carry_keeps_what_was_passed.Goals as goal

pub returns-clause-within : goal.returns-clause-within
returns-clause-within c = carried_within

pub returns-clause-is : goal.returns-clause-is
returns-clause-is c = carried_is
