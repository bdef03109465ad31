use Rattle.pr_slide.proofs.Successions.{lost_some}
use Rattle.pr_slide.proofs.successive.lost.Goals as goal

pub returns-in-Some-clause-value : goal.returns-in-Some-clause-value
returns-in-Some-clause-value g c = lost_some c.args.fallen.now.items c.in-Some.total c.in-Some.ensures.value
