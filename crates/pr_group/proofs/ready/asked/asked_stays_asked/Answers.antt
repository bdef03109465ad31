use Rattle.pr_group.proofs.ReadyReady.{asked_still}
use Rattle.pr_group.proofs.ready.asked.asked_stays_asked.Goals as goal

pub returns : goal.returns
returns c = asked_still
