use Rattle.std.proofs.Common.{refl}
use Prim.Native.Char.{code}
use Rattle.pr_expo.specs.declared.expo_line.place.LineCursor.TheVariants.{AfterList, AfterValue, BeforeNumber}
use Rattle.pr_expo.proofs.PlainFronts.{mark_leads, on, then_on}
use Rattle.pr_expo.proofs.expo_line.plain.after_labels.Goals as goal

pub returns-in-Some-past : goal.returns-in-Some-past
returns-in-Some-past c =
    let head = c.args.head in
    let text = c.args.text.now in
    let behind = c.in-Some.behind.now in
    let closed = mark_leads (AfterValue head) (AfterList head) (code "}") text behind c.utf8.text c.in-Some.ensures.parts refl in
    let spaced = mark_leads (AfterList head) (BeforeNumber head) (code " ") behind c.in-Some-past.number.now closed.is_text c.in-Some-past.ensures.parts refl in
    then_on (AfterValue head) (BeforeNumber head) text c.in-Some-past.number.now c.plain_number.result
    (on (AfterValue head) (AfterList head) (BeforeNumber head) text behind c.in-Some-past.number.now closed spaced) c.plain_number.ensures

pub returns-in-None-past : goal.returns-in-None-past
returns-in-None-past c =
    mark_leads (AfterValue c.args.head) (AfterList c.args.head) (code "}") c.args.text.now c.in-Some.behind.now c.utf8.text c.in-Some.ensures.parts refl
