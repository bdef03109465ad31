use Rattle.pr_group.proofs.ReadyReady.{asks_ready}
use Rattle.pr_group.proofs.ready.asked.later_asks_are_ready.Goals as goal

pub returns : goal.returns
returns c = asks_ready
