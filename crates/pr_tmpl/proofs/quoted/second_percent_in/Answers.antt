use Rattle.pr_labels.specs.pr_forms.Form.{rule}
use Rattle.pr_tmpl.specs.TemplateText.{SecondPercent}
use Rattle.pr_tmpl.proofs.FormatWays.{break_exit, second_breaks, second_read, no_second}
use Rattle.pr_tmpl.proofs.quoted.second_percent_in.Goals as goal

pub returns-in_err-_byte-clause-read : goal.returns-in_err-_byte-clause-read
returns-in_err-_byte-clause-read c = break_exit _ (rule SecondPercent) c.args.text.now c.args.text.now _ c.in_err-_byte.field-0.0 c.from_residual.ensures.1 (second_breaks c.args.text.now) c.in_err-_byte.ensures.read

pub returns-in-Some-clause-read : goal.returns-in-Some-clause-read
returns-in-Some-clause-read c = second_read c.args.text.now c.in-Some.rest.now c.in-Some._byte (rw c.in-Some.is at c.in_ok-_byte.ensures.read)

pub returns-in-None-clause-read : goal.returns-in-None-clause-read
returns-in-None-clause-read c = no_second c.args.text.now (rw c.in-None.is at c.in_ok-_byte.ensures.read)
