use Rattle.std.proofs.Common.{◌≡◌, slice_get, Some, sym, ap, subst, ◌∙◌}
use Rattle.std.proofs.lemmas.Option.{slice_get-get_or}
use borrow.Author.Tests.{eqb-true}
use Rattle.pr_slide.specs.private.Places.{IsNodePlace}
use Rattle.pr_slide.proofs.Placing.{node_first}
use Rattle.pr_slide.proofs.sliding.SlidingRanges.stands_at.Goals as goal

pub returns-in-Some : goal.returns-in-Some
returns-in-Some c = λ same.
    let there = c.in-Some.ensures.lookup in
    let at : slice_get c.self.inside.nodes.items c.args.place ≡ Some c.in-Some.found.now =
    subst (λ l. slice_get l c.args.place ≡ Some c.in-Some.found.now) c.deref.ensures.value (slice_get-get_or c.deref.result.now c.args.place c.in-Some.found.now there.3.0 ∙ ap Some (sym there.1)) in
    subst (IsNodePlace c.args.node c.args.place) c.self.view_is
    (node_first c.self.inside.nodes.items c.args.node c.args.place c.in-Some.found.now c.self.invariant.apart at (sym c.number.ensures ∙ eqb-true c.number.result c.args.node same))
