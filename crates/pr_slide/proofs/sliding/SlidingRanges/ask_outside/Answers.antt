use Rattle.std.proofs.Common.{◌+◌, ◌*◌, ◌-◌, ◌≤◌, max, subst}
use Rattle.pr_head.specs.private.Stored.{position_of}
use Rattle.pr_range.specs.spec_vectors.Ranges.{over}
use Rattle.pr_range.specs.private.Answers.{AnswersAsk}
use Rattle.pr_range.specs.private.Spots.{AreWithin}
use Rattle.pr_slide.specs.private.Kinds.{saved_in}
use Rattle.pr_slide.specs.private.Windows.{passed_in, saved_by, slid_spots, spots_in}
use Rattle.pr_slide.proofs.Nodes.{put_after}
use Rattle.pr_slide.proofs.sliding.SlidingRanges.ask_outside.Goals as goal

pub returns-in-Ok-clause-answer : goal.returns-in-Ok-clause-answer
returns-in-Ok-clause-answer g c = λ e at first last.
    subst (λ w. AreWithin c.args.ask.now.from c.args.ask.now.to (slid_spots e.1 c.args.ask.now (passed_in w) (spots_in w)) → AnswersAsk (over c.args.ask.now (slid_spots e.1 c.args.ask.now (passed_in w) (spots_in w))) c.ask_at.result)
    (c.in-Ok.ensures.same c.args.node c.args.series) (c.ask_at.ensures.answer e at first last)

pub returns-in-Ok-clause-put : goal.returns-in-Ok-clause-put
returns-in-Ok-clause-put g c = λ e at first last other.
    put_after e.1 c.args.ask.now c.args.node c.args.series c.args.self.now c.place_for.new.self c.ask_at.new.self c.in-Ok.ensures.same (c.ask_at.ensures.put e at first last other)

pub returns-in-Ok-clause-reads : goal.returns-in-Ok-clause-reads
returns-in-Ok-clause-reads g c = λ e at.
    subst (λ w. c.ask_at.new.reads ≤ c.args.reads.now + (position_of e.1 c.args.ask.now.to - max (position_of e.1 c.args.ask.now.from) (passed_in w)))
    (c.in-Ok.ensures.same c.args.node c.args.series) (c.ask_at.ensures.reads e at)

pub returns-in-Ok-clause-looks : goal.returns-in-Ok-clause-looks
returns-in-Ok-clause-looks g c = λ w at told other.
    subst (λ o. c.ask_at.new.looks + saved_in w.spots + 3 * c.args.reads.now ≤ c.args.looks.now + saved_by o + 3 * c.ask_at.new.reads + 1)
    (c.in-Ok.ensures.same c.args.node c.args.series) (c.ask_at.ensures.looks w at told other)
