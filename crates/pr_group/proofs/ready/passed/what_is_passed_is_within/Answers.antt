use Rattle.pr_group.proofs.Falling.{asked_within}
use Rattle.pr_group.proofs.ready.passed.what_is_passed_is_within.Goals as goal

pub returns : goal.returns
returns c = asked_within
