use Rattle.pr_labels.specs.pr_forms.Form.{rule}
use Rattle.pr_tmpl.specs.TemplateText.{AfterVerb, SecondPercent}
use Rattle.pr_tmpl.proofs.FormatWays.{fail_exit, goes_on, second_fails, text_ends, text_fails}
use Rattle.pr_tmpl.proofs.quoted.up_to_percent.Goals as goal

pub returns-in_err-rest-in-Some-clause-read : goal.returns-in_err-rest-in-Some-clause-read
returns-in_err-rest-in-Some-clause-read c = fail_exit _ (rule AfterVerb) (rule SecondPercent) c.args.text.now c.in-Some.after.now _ c.in_err-rest-in-Some.field-0.0 c.from_residual-in_err-rest-in-Some.ensures.1 (second_fails c.args.text.now c.in_ok-means.at.now c.in-Some.after.now c.in_ok-means.means c.in-Some._byte c.in_ok-means.ensures.read.0 c.in_ok-means.ensures.read.1 (rw c.in-Some.is at c.in_ok-_byte.ensures.read)) c.in_err-rest-in-Some.ensures.read

pub returns-in_ok-rest-in-Some-clause-read : goal.returns-in_ok-rest-in-Some-clause-read
returns-in_ok-rest-in-Some-clause-read c = goes_on c.args.text.now c.in_ok-means.at.now c.in-Some.after.now c.in_ok-rest-in-Some.rest.now c.in_ok-means.means c.in-Some._byte c.in_ok-means.ensures.read.0 c.in_ok-means.ensures.read.1 (rw c.in-Some.is at c.in_ok-_byte.ensures.read) c.in_ok-rest-in-Some.ensures.read

pub returns-in-Some-sign_in-clause-read : goal.returns-in-Some-sign_in-clause-read
returns-in-Some-sign_in-clause-read c = text_ends c.args.text.now c.in_ok-means.at.now c.in-Some-sign_in.after.now c.in_ok-means.means c.in_ok-means.ensures.read.0 c.in_ok-means.ensures.read.1 (rw c.in-None.is at c.in_ok-_byte.ensures.read) c.in-Some-sign_in.ensures.read

pub returns-in-None-sign_in-clause-read : goal.returns-in-None-sign_in-clause-read
returns-in-None-sign_in-clause-read c = text_fails c.args.text.now c.in_ok-means.at.now c.in_ok-means.means c.in_ok-means.ensures.read.0 c.in_ok-means.ensures.read.1 (rw c.in-None.is at c.in_ok-_byte.ensures.read) c.in-None-sign_in.ensures.read
