use Rattle.pr_labels.specs.pr_forms.Form.{rule}
use Rattle.pr_tmpl.specs.TemplateText.{production, FromOperand, AnOperand, After}
use Rattle.pr_tmpl.proofs.FormatWays.{fail_exit}
use Rattle.pr_tmpl.proofs.CallWays.{operand_then, operand_fails, after_operand_fails}
use Rattle.pr_tmpl.proofs.pipe.from_operand.Goals as goal

pub returns-in_err-operand-clause-read : goal.returns-in_err-operand-clause-read
returns-in_err-operand-clause-read c = fail_exit _ (production FromOperand) (rule AnOperand) c.args.text.now c.args.text.now _ c.in_err-operand.field-0.0 c.from_residual.ensures.1 (operand_fails c.args.text.now) c.in_err-operand.ensures.read

pub returns-in_err-calls-clause-read : goal.returns-in_err-calls-clause-read
returns-in_err-calls-clause-read c = fail_exit _ (production FromOperand) (rule After) c.args.text.now c.in_ok-operand.rest.now _ c.in_err-calls.field-0.0 c.from_residual-in_err-calls.ensures.1 (after_operand_fails c.args.text.now c.in_ok-operand.rest.now c.in_ok-operand.operand c.in_ok-operand.ensures.read) c.in_err-calls.ensures.read

pub returns-clause-read : goal.returns-clause-read
returns-clause-read c = operand_then c.args.before c.args.text.now c.in_ok-operand.rest.now c.in_ok-calls.end.now c.in_ok-operand.operand c.in_ok-calls.calls c.in_ok-operand.ensures.read c.in_ok-calls.ensures.read
