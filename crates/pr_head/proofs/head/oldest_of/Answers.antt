use Rattle.std.proofs.Common.{arith}
use Rattle.pr_head.proofs.Oldest.{since_next}
use Rattle.pr_head.proofs.Trimming.{below_length}
use Rattle.pr_head.proofs.head.oldest_of.Goals as goal

pub loop-number-preserved : goal.loop-number-preserved
loop-number-preserved c =
    since_next c.earlier-oldest.result c.loop-number.oldest c.oldest.result c.loop-number.number c.args.series.now.entries c.index.result.now c.earlier-oldest.ensures.first c.earlier-oldest.ensures.second
    c.oldest.ensures c.index.ensures c.loop-number.invariant

pub returns : goal.returns
returns c = λ i e at. let within = below_length c.args.series.now.entries i e at in c.loop-number.invariant i e (omega arith) at
