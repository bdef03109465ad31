use Rattle.std.proofs.Common.{◌+◌, ◌∷◌, ◌++◌, ap, ◌∙◌, arith}
use Rattle.pr_head.specs.spec_history.declared.spot.Spot.{Spot}
use Rattle.pr_range.specs.spec_vectors.Ranges.{differ}
use Rattle.pr_range.specs.pr_window.private.Neighbours.{one_if}
use Rattle.pr_slide.specs.private.Successions.{before_fall}
use Rattle.pr_slide.proofs.Successions.{changes_few, counted_more, specials_few}
use Rattle.pr_slide.proofs.successive.count_behind.Goals as goal

pub one_more-counts-requires : goal.one_more-counts-requires
one_more-counts-requires g c = omega (arith, c.requires.counted.changes, changes_few (c.args.first.now ∷ c.args.rest.now))

pub one_more-counts-requires-2 : goal.one_more-counts-requires-2
one_more-counts-requires-2 g c = omega (arith, c.requires.counted.special, specials_few (c.args.first.now ∷ c.args.rest.now))

pub returns-clause-counted : goal.returns-clause-counted
returns-clause-counted g c =
    let last = c.last_of-last.ensures in
    counted_more c.args.first.now c.args.rest.now c.args.spot.now c.args.counts.now _ c.requires.counted c.requires.later
    (c.in_ok-push_fallen.ensures.items ∙ ap (λ (s : Spot). c.args.counts.now.fallen.items ++ before_fall s c.args.spot.now) last)
    (c.one_more-counts.ensures ∙ ap (λ b. c.args.counts.now.changes + one_if b) c.differ.ensures ∙ ap (λ (s : Spot). c.args.counts.now.changes + one_if (differ (s.value, c.args.spot.now.value))) last)
    (c.one_more-counts-2.ensures ∙ ap (λ b. c.args.counts.now.special + one_if b) c.is_special.ensures)
