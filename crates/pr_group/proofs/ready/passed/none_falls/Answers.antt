use Rattle.pr_group.proofs.Falling.{asked_falls_not}
use Rattle.pr_group.proofs.ready.passed.none_falls.Goals as goal

pub returns : goal.returns
returns c = asked_falls_not
