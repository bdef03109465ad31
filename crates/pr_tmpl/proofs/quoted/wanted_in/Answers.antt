use Rattle.pr_labels.specs.pr_forms.Form.{rule}
use Rattle.pr_tmpl.specs.declared.kind.TemplateByte.TheVariants.{Percent, SmallF, Point}
use Rattle.pr_tmpl.specs.TemplateText.{Wanted, Places}
use Rattle.pr_tmpl.proofs.TextKept.{same_kind, word_kind}
use Rattle.pr_tmpl.proofs.FormatWays.{break_exit, fail_exit, wanted_breaks, unwanted_end, unwanted, wanted_percent, wanted_f, wanted_word, wanted_point, wanted_places}
use Rattle.pr_tmpl.proofs.quoted.wanted_in.Goals as goal

pub returns-in_err-kind-clause-read : goal.returns-in_err-kind-clause-read
returns-in_err-kind-clause-read c = break_exit _ (rule Wanted) c.args.text.now c.args.text.now _ c.in_err-kind.field-0.0 c.from_residual.ensures.1 (wanted_breaks c.args.text.now) c.in_err-kind.ensures.read

pub returns-in_default-clause-read : goal.returns-in_default-clause-read
returns-in_default-clause-read c = unwanted_end c.args.text.now (rw c.in_default.is at c.in_ok-kind.ensures.read)

pub returns-in_err-places-in-Point-clause-read : goal.returns-in_err-places-in-Point-clause-read
returns-in_err-places-in-Point-clause-read c = fail_exit _ (rule Wanted) (rule Places) c.args.text.now c.in-Some.rest.now _ c.in_err-places-in-Point.field-0.0 c.from_residual-in_err-places-in-Point.ensures.1 (λ end k. (wanted_point c.args.text.now c.in-Some.rest.now c.in-Some.kind c.in-Some._byte (rw c.in-Some.is at c.in_ok-kind.ensures.read) c.in-Point.is).fails end k) c.in_err-places-in-Point.ensures.read

pub returns-in-Percent-clause-read : goal.returns-in-Percent-clause-read
returns-in-Percent-clause-read c = wanted_percent c.args.text.now c.in-Some.rest.now c.in-Some.kind c.in-Some._byte (rw c.in-Some.is at c.in_ok-kind.ensures.read) c.in-Percent.is

pub returns-in-SmallF-clause-read : goal.returns-in-SmallF-clause-read
returns-in-SmallF-clause-read c = wanted_f c.args.text.now c.in-Some.rest.now c.in-Some.kind c.in-Some._byte (rw c.in-Some.is at c.in_ok-kind.ensures.read) c.in-SmallF.is

pub returns-in-SmallV-clause-read : goal.returns-in-SmallV-clause-read
returns-in-SmallV-clause-read c = wanted_word c.args.text.now c.in-Some.rest.now c.in-Some.kind c.in-Some._byte (rw c.in-Some.is at c.in_ok-kind.ensures.read) c.in-SmallV.is

pub returns-in_ok-places-in-Point-clause-read : goal.returns-in_ok-places-in-Point-clause-read
returns-in_ok-places-in-Point-clause-read c = wanted_places c.args.text.now c.in-Some.rest.now c.in_ok-places-in-Point.after.now c.in-Some.kind c.in-Some._byte c.in_ok-places-in-Point.places (rw c.in-Some.is at c.in_ok-kind.ensures.read) c.in-Point.is c.in_ok-places-in-Point.ensures.read

pub returns-in_default-kind : goal.returns-in_default-kind
returns-in_default-kind c = record { read = unwanted c.args.text.now c.in-Some.rest.now c.in-Some.kind c.in-Some._byte (rw c.in-Some.is at c.in_ok-kind.ensures.read) c.in_default-kind.not-Percent c.in_default-kind.not-SmallF c.in_default-kind.not-SmallV c.in_default-kind.not-SmallS c.in_default-kind.not-Point; few = tt; shorter = tt; text = tt }

pub returns-in-Percent-clause-text : goal.returns-in-Percent-clause-text
returns-in-Percent-clause-text c = same_kind c.in-Some.kind Percent c.args.text.now c.in-Some.rest.now c.in-Percent.is (rw c.in-Some.is at c.in_ok-kind.ensures.text)

pub returns-in-SmallF-clause-text : goal.returns-in-SmallF-clause-text
returns-in-SmallF-clause-text c = same_kind c.in-Some.kind SmallF c.args.text.now c.in-Some.rest.now c.in-SmallF.is (rw c.in-Some.is at c.in_ok-kind.ensures.text)

pub returns-in-SmallV-clause-text : goal.returns-in-SmallV-clause-text
returns-in-SmallV-clause-text c = word_kind c.in-Some.kind c.args.text.now c.in-Some.rest.now c.in-SmallV.is (rw c.in-Some.is at c.in_ok-kind.ensures.text)

pub returns-in_ok-places-in-Point-clause-text : goal.returns-in_ok-places-in-Point-clause-text
returns-in_ok-places-in-Point-clause-text c = λ u. c.in_ok-places-in-Point.ensures.text (same_kind c.in-Some.kind Point c.args.text.now c.in-Some.rest.now c.in-Point.is (rw c.in-Some.is at c.in_ok-kind.ensures.text) u)
