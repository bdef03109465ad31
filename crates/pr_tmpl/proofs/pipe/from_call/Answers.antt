use Rattle.pr_labels.specs.pr_forms.Form.{rule}
use Rattle.std.proofs.Common.{◌∙◌, ap, ◌++◌, ◌∷◌, [], List}
use Rattle.pr_tmpl.specs.declared.template.Call.{Call}
use Rattle.pr_tmpl.specs.TemplateText.{production, FromOperand, FromCall, ACall}
use Rattle.pr_tmpl.proofs.FormatWays.{fail_exit}
use Rattle.pr_tmpl.proofs.CallWays.{call_then, no_gap_fails, call_first_fails}
use Rattle.pr_tmpl.proofs.pipe.from_call.Goals as goal

pub returns-in_err-call-clause-read : goal.returns-in_err-call-clause-read
returns-in_err-call-clause-read c = fail_exit _ (production FromCall) (rule ACall) c.args.text.now c.args.text.now _ c.in_err-call.field-0.0 c.from_residual.ensures.1 (call_first_fails c.args.text.now) c.in_err-call.ensures.read

pub returns-in-Ok-clause-read : goal.returns-in-Ok-clause-read
returns-in-Ok-clause-read c = call_then c.args.text.now c.in_ok-call.after.now c.in-Ok.rest.now c.in_ok-call.call c.push.new.self c.from_operand.result (c.in_ok-push.ensures.ok ∙ ap (λ (xs : List Call). xs ++ c.in_ok-call.call ∷ []) c.empty-calls.ensures) c.in_ok-call.ensures.read (c.in-Ok.ensures.read (rule FromOperand)) c.from_operand.ensures.read

pub returns-clause-read : goal.returns-clause-read
returns-clause-read c = no_gap_fails c.args.text.now c.in_ok-call.after.now c.in-Err.rest.now c.in_ok-call.call c.in_ok-call.ensures.read (c.in-Err.ensures.read (rule FromOperand))
