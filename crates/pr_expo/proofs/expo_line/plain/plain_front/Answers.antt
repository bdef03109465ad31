use Rattle.std.proofs.Common.{refl, sym, ap, ◌∙◌, subst}
use Prim.Native.Char.{code}
use Rattle.pr_expo.specs.declared.expo_line.place.LineCursor.TheVariants.{BeforeLabel, InName, Start}
use Rattle.pr_expo.specs.Line.{bare}
use Rattle.pr_expo.specs.private.Runs.{LeadsTo}
use Rattle.pr_expo.proofs.PlainFronts.{mark_leads, on, then_on}
use Rattle.pr_expo.proofs.expo_line.plain.plain_front.Goals as goal

pub returns-in-Some-past : goal.returns-in-Some-past
returns-in-Some-past c =
    let text = c.args.text.now in
    let name = c.in-Some.name.now in
    let rest = c.in-Some.rest.now in
    let list = c.in-Some-past.list.now in
    let named : LeadsTo Start text (InName name) rest = c.in-Some.ensures in
    let braced = mark_leads (InName name) (BeforeLabel (bare name)) (code "{") rest list named.is_text c.in-Some-past.ensures.parts refl in
    let is = c.bare.ensures ∙ ap bare c.in_ok-name-in-Some.ensures in
    then_on Start (BeforeLabel c.bare.result) text list c.plain_labels.result
    (subst (λ h. LeadsTo Start text (BeforeLabel h) list) (sym is) (on Start (InName name) (BeforeLabel (bare name)) text rest list named braced)) c.plain_labels.ensures
