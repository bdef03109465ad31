use Rattle.pr_labels.specs.pr_forms.Form.{rule}
use Rattle.pr_tmpl.specs.TemplateText.{Places}
use Rattle.pr_tmpl.proofs.FormatWays.{break_exit, digit_breaks, digit_read, no_digit}
use Rattle.pr_tmpl.proofs.quoted.digit_in.Goals as goal

pub returns-in_err-byte-clause-read : goal.returns-in_err-byte-clause-read
returns-in_err-byte-clause-read c = break_exit _ (rule Places) c.args.text.now c.args.text.now _ c.in_err-byte.field-0.0 c.from_residual.ensures.1 (digit_breaks c.args.text.now) c.in_err-byte.ensures.read

pub returns-in-Some-clause-read : goal.returns-in-Some-clause-read
returns-in-Some-clause-read c = digit_read c.args.text.now c.in-Some.rest.now c.in-Some.byte c.saturating_sub.result c.saturating_sub.ensures (rw c.in-Some.is at c.in_ok-byte.ensures.read)

pub returns-in-None-clause-read : goal.returns-in-None-clause-read
returns-in-None-clause-read c = no_digit c.args.text.now (rw c.in-None.is at c.in_ok-byte.ensures.read)
