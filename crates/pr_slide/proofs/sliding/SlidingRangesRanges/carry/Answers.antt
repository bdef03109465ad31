use Rattle.std.proofs.Common.{◌≡◌, ap, sym, subst, ◌∙◌}
use Rattle.pr_range.specs.private.Carried.{IsCarried}
use Rattle.pr_slide.specs.private.Carried.{carried}
use Rattle.pr_slide.specs.private.Places.{AreApart, numbers_of}
use Rattle.pr_slide.specs.private.Windows.{AreWindowsOf, last_asks, passed_of}
use Rattle.pr_slide.proofs.Carrying.{apart_carried, fits_carried, is_carried}
use Rattle.pr_slide.proofs.sliding.SlidingRangesRanges.carry.Goals as goal

pub returns-clause-carried : goal.returns-clause-carried
returns-clause-carried c =
    let is : c.renumber_all.new.nodes.items ≡ carried c.args.from.now c.args.old = c.renumber_all.ensures ∙ ap (carried c.args.from.now) c.old.view_is in
    subst (λ l. IsCarried c.args.from.now (last_asks c.args.old) (last_asks l) (passed_of c.args.old) (passed_of l)) (sym is) (is_carried c.args.from.now c.args.old c.requires.once)

pub returns-clause-fits : goal.returns-clause-fits
returns-clause-fits c = λ history fits.
    let is : c.renumber_all.new.nodes.items ≡ carried c.args.from.now c.args.old = c.renumber_all.ensures ∙ ap (carried c.args.from.now) c.old.view_is in
    subst (λ l. AreWindowsOf l history) (sym is) (fits_carried c.args.from.now c.args.old history c.requires.once fits)

pub invariant_of-self : goal.invariant_of-self
invariant_of-self c = record {
  known = c.new.ensures (numbers_of c.renumber_all.new.nodes.items);
  apart = subst (λ l. AreApart (numbers_of l)) (sym c.renumber_all.ensures) (apart_carried c.args.from.now c.old.inside.nodes.items c.old.invariant.apart);
}
