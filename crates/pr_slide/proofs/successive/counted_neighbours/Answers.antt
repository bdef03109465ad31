use Rattle.std.proofs.Common.{refl}
use Rattle.pr_slide.proofs.Successions.{counts_fold}
use Rattle.pr_slide.proofs.successive.counted_neighbours.Goals as goal

pub returns-clause-value : goal.returns-clause-value
returns-clause-value g c = counts_fold c.args.first.now c.args.rest.now c.args.counts.now _ c.requires.counted refl c.last_of.ensures c.requires.all c.lost.ensures.value c.len.ensures refl refl
