use Rattle.pr_group.proofs.ReadyReady.{asks_asked}
use Rattle.pr_group.proofs.ready.asked.what_is_asked_was_asked.Goals as goal

pub returns : goal.returns
returns c = asks_asked
