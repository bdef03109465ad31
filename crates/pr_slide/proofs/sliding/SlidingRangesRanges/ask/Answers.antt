use Rattle.pr_slide.specs.private.Windows.{passed_of}
use Rattle.pr_slide.proofs.Keeping.{answer_inside, ready_plain}
use Rattle.pr_slide.proofs.sliding.SlidingRangesRanges.ask.Goals as goal

pub returns-then-ask-clause-answer : goal.returns-then-ask-clause-answer
returns-then-ask-clause-answer g c = λ history labels may fits ready.
    answer_inside history labels c.args.ask.now (passed_of c.args.self.now c.args.node c.args.series) c.args.reads.now c.ask.new.reads c.ask.result c.if-ask.true
    (c.ask.ensures.answer history labels may tt (ready_plain c.args.node c.args.series c.args.ask.now))

pub returns-clause-answer : goal.returns-clause-answer
returns-clause-answer g c = λ history labels may fits ready. c.ask_uncounted.ensures.answer history labels may fits ready

pub returns-clause-fits : goal.returns-clause-fits
returns-clause-fits g c = λ history labels may fits ready other. c.ask_uncounted.ensures.fits history labels may fits ready other

pub returns-clause-moved : goal.returns-clause-moved
returns-clause-moved g c = λ history labels may fits ready other. c.ask_uncounted.ensures.moved history labels may fits ready other
