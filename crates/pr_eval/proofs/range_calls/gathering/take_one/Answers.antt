use Rattle.pr_eval.specs.private.Taken.{item_at}
use Rattle.pr_eval.proofs.SeriesGathered.{one_added}
use Rattle.pr_eval.proofs.range_calls.gathering.take_one.Goals as goal

pub returns-clause-gathered : goal.returns-clause-gathered
returns-clause-gathered c = λ front h.
    one_added front (item_at c.args.time c.args.item) c.args.series.now c.add_spot.new.series c.add_spot.result c.add_spot.ensures.known c.add_spot.ensures.updates c.add_spot.ensures.ordered h
