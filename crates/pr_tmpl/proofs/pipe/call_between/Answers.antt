use Rattle.pr_labels.specs.pr_forms.Form.{rule}
use Rattle.pr_tmpl.specs.TemplateText.{ACall}
use Rattle.pr_tmpl.specs.private.Pipes.{after_bar}
use Rattle.pr_tmpl.proofs.FormatWays.{fail_exit}
use Rattle.pr_tmpl.proofs.CallWays.{call_between, between_fails}
use Rattle.pr_tmpl.proofs.pipe.call_between.Goals as goal

pub returns-in_err-call-clause-read : goal.returns-in_err-call-clause-read
returns-in_err-call-clause-read c = fail_exit _ after_bar (rule ACall) c.args.text.now c.blanks_in-at.result.now _ c.in_err-call.field-0.0 c.from_residual.ensures.1 (between_fails c.args.text.now c.blanks_in-at.result.now c.blanks_in-at.ensures.read) c.in_err-call.ensures.read

pub returns-clause-read : goal.returns-clause-read
returns-clause-read c = call_between c.args.text.now c.blanks_in-at.result.now c.in_ok-call.after.now c.blanks_in.result.now c.in_ok-call.call c.blanks_in-at.ensures.read c.in_ok-call.ensures.read c.blanks_in.ensures.read
