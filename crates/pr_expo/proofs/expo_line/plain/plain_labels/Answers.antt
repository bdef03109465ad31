use Rattle.std.proofs.Common.{◌≡◌, refl, sym, ap, ◌∙◌, subst, false}
use Prim.Native.Char.{code}
use Rattle.pr_expo.specs.declared.expo_line.place.LineCursor.TheVariants.{AfterValue, BeforeLabel}
use Rattle.pr_expo.specs.Line.{stands_before, with_label}
use Rattle.pr_expo.specs.private.Runs.{LeadsTo}
use Rattle.pr_expo.proofs.PlainFronts.{mark_leads, on}
use Rattle.pr_expo.proofs.expo_line.plain.plain_labels.Goals as goal

pub loop-name-preserved : goal.loop-name-preserved
loop-name-preserved c =
    let before = c.loop-name.head in
    let head = c.in_ok-head.head in
    let rest = c.loop-name.rest.now in
    let after = c.in-Some.after.now in
    let next = c.in-Some-past.next.now in
    let new : stands_before before c.in-Some.name.now ≡ false = ap (stands_before before) (sym c.in_ok-name.ensures) ∙ sym c.stands_before.ensures ∙ c.if-stands_before.false in
    let is : head ≡ with_label before c.in-Some.name.now c.in-Some.value.now =
    cc (c.in_ok-head.ensures, c.name.view_is, c.in_ok-name.ensures, c.in_ok-from_str.ensures) in
    let labelled : LeadsTo (BeforeLabel before) rest (AfterValue head) after =
    subst (λ h. LeadsTo (BeforeLabel before) rest (AfterValue h) after) (sym is) (c.in-Some.ensures.leads before new) in
    let comma = mark_leads (AfterValue head) (BeforeLabel head) (code ",") after next labelled.is_text c.in-Some-past.ensures.parts refl in
    on (BeforeLabel c.args.head) (BeforeLabel before) (BeforeLabel head) c.args.text.now rest next c.loop-name.invariant
    (on (BeforeLabel before) (AfterValue head) (BeforeLabel head) rest after next labelled comma)
