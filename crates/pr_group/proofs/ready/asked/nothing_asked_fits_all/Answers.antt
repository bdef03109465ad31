use Rattle.pr_group.proofs.ReadyReady.{fresh_asked}
use Rattle.pr_group.proofs.ready.asked.nothing_asked_fits_all.Goals as goal

pub returns : goal.returns
returns c = fresh_asked
