use Rattle.std.proofs.Common.{◌≡◌, ap, ◌∙◌, arith, w64, to_z, of_z}
use Rattle.std.proofs.lemmas.Int.{to_z-of_z}
use Rattle.pr_slide.specs.private.Later.{later}
use Rattle.pr_slide.specs.private.Successions.{changes_in, specials_in}
use Rattle.pr_slide.proofs.Successions.{counted_later}
use Rattle.pr_slide.proofs.successive.uncount_until.Goals as goal

pub returns-clause-counted : goal.returns-clause-counted
returns-clause-counted g c =
    let time : to_z w64 (of_z w64 c.args.time) ≡ c.args.time = grind (arith, to_z-of_z) in
    counted_later c.args.time c.args.spots.now c.args.counts.now _ c.requires
    (c.drop_until.ensures.items ∙ ap (λ t. later t c.uncount_leading.new.counts.fallen.items) time ∙ (λ i. later c.args.time (c.uncount_leading.ensures.fallen i).items))
    (c.uncount_leading.ensures.changes ∙ ap (λ t. changes_in (later t c.args.spots.now)) time)
    (c.uncount_leading.ensures.special ∙ ap (λ t. specials_in (later t c.args.spots.now)) time)
