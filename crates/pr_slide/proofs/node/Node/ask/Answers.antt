use Rattle.std.proofs.Common.{◌+◌, ◌-◌, ◌≤◌, max, refl, sym, ap, subst, ◌∙◌}
use Rattle.pr_head.specs.private.Stored.{position_of}
use Rattle.pr_range.specs.spec_vectors.Ranges.{over}
use Rattle.pr_range.specs.private.Answers.{AnswersAsk}
use Rattle.pr_range.specs.private.Spots.{AreWithin}
use Rattle.pr_slide.specs.private.Windows.{IsSlid, passed_in, slid_spots, spots_in}
use Rattle.pr_slide.proofs.Nodes.{Row}
use Rattle.pr_slide.proofs.Windows.{looks_there, there}
use Rattle.pr_slide.proofs.node.Node.ask.Goals as goal

pub returns-in-Some-clause-answer : goal.returns-in-Some-clause-answer
returns-in-Some-clause-answer g c = λ e at first last.
    let is = there c.self.inside.windows c.args.self.now.1 c.go_to-place.result c.args.series c.in-Some.window.now (ap (λ (n : Row). n.1) (c.self.view_is ∙ c.go_to-place.ensures.same))
    c.in-Some.ensures.unique (c.in-Some.ensures.found.0 refl) c.go_to-place.ensures.there c.in-Some.ensures.value in
    subst (λ w. AreWithin c.args.ask.now.from c.args.ask.now.to (slid_spots e.1 c.args.ask.now (passed_in w) (spots_in w)) → AnswersAsk (over c.args.ask.now (slid_spots e.1 c.args.ask.now (passed_in w) (spots_in w))) c.ask.result)
    (sym is.found) (c.ask.ensures.answer e at first last)

pub returns-in-Some-clause-put : goal.returns-in-Some-clause-put
returns-in-Some-clause-put g c = λ e at first last other.
    let is = there c.self.inside.windows c.args.self.now.1 c.go_to-place.result c.args.series c.in-Some.window.now (ap (λ (n : Row). n.1) (c.self.view_is ∙ c.go_to-place.ensures.same))
    c.in-Some.ensures.unique (c.in-Some.ensures.found.0 refl) c.go_to-place.ensures.there c.in-Some.ensures.value in
    record {
      window = c.ask.new.self;
      slid = subst (λ w. IsSlid e.1 c.args.ask.now w c.ask.new.self) (sym is.found) (record {
        last = c.ask.ensures.last other;
        passed = c.ask.ensures.passed e at other;
        spots = c.ask.ensures.spots e at first last other;
        told = c.ask.ensures.told other;
      });
      put = is.put c.ask.new.self;
    }

pub returns-in-Some-clause-reads : goal.returns-in-Some-clause-reads
returns-in-Some-clause-reads g c = λ e at.
    let is = there c.self.inside.windows c.args.self.now.1 c.go_to-place.result c.args.series c.in-Some.window.now (ap (λ (n : Row). n.1) (c.self.view_is ∙ c.go_to-place.ensures.same))
    c.in-Some.ensures.unique (c.in-Some.ensures.found.0 refl) c.go_to-place.ensures.there c.in-Some.ensures.value in
    subst (λ w. c.ask.new.reads ≤ c.args.reads.now + (position_of e.1 c.args.ask.now.to - max (position_of e.1 c.args.ask.now.from) (passed_in w))) (sym is.found) (c.ask.ensures.reads e at)

pub returns-in-Some-clause-looks : goal.returns-in-Some-clause-looks
returns-in-Some-clause-looks g c = λ w at tells other.
    let is = there c.self.inside.windows c.args.self.now.1 c.go_to-place.result c.args.series c.in-Some.window.now (ap (λ (n : Row). n.1) (c.self.view_is ∙ c.go_to-place.ensures.same))
    c.in-Some.ensures.unique (c.in-Some.ensures.found.0 refl) c.go_to-place.ensures.there c.in-Some.ensures.value in
    looks_there c.args.series c.args.self.now.1 _ c.in-Some.window.now c.ask.new.self w c.args.ask.now.func c.args.reads.now c.ask.new.reads c.args.looks.now c.ask.new.looks is.found
    (is.put c.ask.new.self c.args.series) at tells c.ask.ensures.looks
