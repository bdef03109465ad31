use Rattle.std.proofs.Common.{◌≡◌, ◌+◌, ◌*◌, ◌-◌, ◌<◌, ◌≤◌, max, length, get_or, set, nat_eq, ap, sym, subst, ◌∙◌}
use Rattle.std.specs.Map.{lookup}
use Rattle.pr_head.specs.private.Stored.{position_of}
use Rattle.pr_range.specs.spec_vectors.Ranges.{over}
use Rattle.pr_range.specs.private.Answers.{AnswersAsk}
use Rattle.pr_range.specs.private.Spots.{AreWithin}
use Rattle.pr_slide.specs.private.Places.{AreStandingAt, IsNodePlace, numbers_of}
use Rattle.pr_slide.specs.private.Kinds.{saved_in}
use Rattle.pr_slide.specs.private.Windows.{IsPut, IsPutIn, found, passed_in, saved_by, slid_spots, spots_in}
use Rattle.pr_slide.proofs.Nodes.{Row, found_new, found_there, place_within, put_at}
use Rattle.pr_slide.proofs.Placing.{numbers_kept}
use Rattle.pr_slide.proofs.sliding.SlidingRanges.ask_at.Goals as goal

pub index_mut-requires : goal.index_mut-requires
index_mut-requires g c =
    let within : c.args.place < length c.self.inside.nodes.items = subst (λ l. c.args.place < length l) (sym c.self.view_is) (place_within c.args.node c.args.place c.args.self.now c.requires.place) in
    subst (λ n. c.args.place < n) (sym c.self.inside.nodes.ok.0) within

pub returns-clause-answer : goal.returns-clause-answer
returns-clause-answer g c = λ e at first last.
    let there : found c.args.self.now c.args.node c.args.series ≡ lookup (nat_eq c.args.series) c.index_mut.result.now.1 =
    found_there c.args.node c.args.place c.args.series c.args.self.now c.index_mut.result.now c.requires.place
    ∙ (λ i. lookup (nat_eq c.args.series) (get_or (sym c.self.view_is i) c.args.place c.index_mut.result.now).1) ∙ ap (λ (r : Row). lookup (nat_eq c.args.series) r.1) (sym c.index_mut.ensures.value) in
    subst (λ w. AreWithin c.args.ask.now.from c.args.ask.now.to (slid_spots e.1 c.args.ask.now (passed_in w) (spots_in w)) → AnswersAsk (over c.args.ask.now (slid_spots e.1 c.args.ask.now (passed_in w) (spots_in w))) c.ask.result)
    (sym there) (c.ask.ensures.answer e at first last)

pub returns-clause-put : goal.returns-clause-put
returns-clause-put g c = λ e at first last other.
    let place = subst (IsNodePlace c.args.node c.args.place) (sym c.self.view_is) c.requires.place in
    subst (λ l. IsPut e.1 c.args.ask.now c.args.node c.args.series l (set c.self.inside.nodes.items c.args.place c.ask.new.self)) c.self.view_is
    (put_at e.1 c.args.ask.now c.args.node c.args.series c.args.place c.self.inside.nodes.items c.ask.new.self c.index_mut.result.now place
    (c.ask.ensures.number ∙ ap (λ (r : Row). r.0) c.index_mut.ensures.value)
    (subst (λ (r : Row). IsPutIn e.1 c.args.ask.now c.args.series r.1 c.ask.new.self.1) c.index_mut.ensures.value (c.ask.ensures.put e at first last other)))

pub returns-clause-reads : goal.returns-clause-reads
returns-clause-reads g c = λ e at.
    let there : found c.args.self.now c.args.node c.args.series ≡ lookup (nat_eq c.args.series) c.index_mut.result.now.1 =
    found_there c.args.node c.args.place c.args.series c.args.self.now c.index_mut.result.now c.requires.place
    ∙ (λ i. lookup (nat_eq c.args.series) (get_or (sym c.self.view_is i) c.args.place c.index_mut.result.now).1) ∙ ap (λ (r : Row). lookup (nat_eq c.args.series) r.1) (sym c.index_mut.ensures.value) in
    subst (λ w. c.ask.new.reads ≤ c.args.reads.now + (position_of e.1 c.args.ask.now.to - max (position_of e.1 c.args.ask.now.from) (passed_in w))) (sym there) (c.ask.ensures.reads e at)

pub invariant_of-self : goal.invariant_of-self
invariant_of-self g c =
    let number : c.ask.new.self.0 ≡ (get_or c.self.inside.nodes.items c.args.place c.index_mut.result.now).0 = c.ask.ensures.number ∙ ap (λ (r : Row). r.0) c.index_mut.ensures.value in
    let same : numbers_of (set c.self.inside.nodes.items c.args.place c.ask.new.self) ≡ numbers_of c.self.inside.nodes.items =
    numbers_kept c.self.inside.nodes.items c.args.place c.ask.new.self c.index_mut.result.now number in
    subst (AreStandingAt c.self.inside.places) (sym same) c.self.invariant

pub returns-clause-looks : goal.returns-clause-looks
returns-clause-looks g c = λ w at told other.
    let place = subst (IsNodePlace c.args.node c.args.place) (sym c.self.view_is) c.requires.place in
    let there : found c.args.self.now c.args.node c.args.series ≡ lookup (nat_eq c.args.series) c.index_mut.result.now.1 =
    found_there c.args.node c.args.place c.args.series c.args.self.now c.index_mut.result.now c.requires.place
    ∙ (λ i. lookup (nat_eq c.args.series) (get_or (sym c.self.view_is i) c.args.place c.index_mut.result.now).1) ∙ ap (λ (r : Row). lookup (nat_eq c.args.series) r.1) (sym c.index_mut.ensures.value) in
    let new : found (set c.self.inside.nodes.items c.args.place c.ask.new.self) c.args.node c.args.series ≡ lookup (nat_eq c.args.series) c.ask.new.self.1 =
    found_new c.args.node c.args.place c.args.series c.self.inside.nodes.items c.ask.new.self c.index_mut.result.now place (c.ask.ensures.number ∙ ap (λ (r : Row). r.0) c.index_mut.ensures.value) in
    subst (λ o. c.ask.new.looks + saved_in w.spots + 3 * c.args.reads.now ≤ c.args.looks.now + saved_by o + 3 * c.ask.new.reads + 1) (sym there) (c.ask.ensures.looks w (sym new ∙ at) told other)
