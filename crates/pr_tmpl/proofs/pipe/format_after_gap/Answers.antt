use Rattle.pr_labels.specs.pr_forms.Form.{rule}
use Rattle.pr_tmpl.specs.Pieces.{pieces}
use Rattle.pr_tmpl.specs.TemplateText.{Formatted, call}
use Rattle.pr_tmpl.specs.declared.template.Call.TheVariants.{Printf}
use Rattle.pr_tmpl.specs.private.Pipes.{after_gap}
use Rattle.pr_tmpl.proofs.FormatWays.{fail_exit}
use Rattle.pr_tmpl.proofs.pipe.format_after_gap.Goals as goal

pub returns-in_err-format-in-Ok-clause-read : goal.returns-in_err-format-in-Ok-clause-read
returns-in_err-format-in-Ok-clause-read c = fail_exit _ (after_gap (rule Formatted)) (rule Formatted) c.args.text.now c.in-Ok.at.now _ c.in_err-format-in-Ok.field-0.0 c.from_residual.ensures.1 (λ end k. (c.in-Ok.ensures.read (rule Formatted)).fails end k) c.in_err-format-in-Ok.ensures.read

pub returns-in_ok-format-in-Ok-clause-read : goal.returns-in_ok-format-in-Ok-clause-read
returns-in_ok-format-in-Ok-clause-read c = (c.in-Ok.ensures.read (rule Formatted)).reads (call (Printf c.in_ok-format-in-Ok.format)) (pieces c.in_ok-format-in-Ok.rest.now) c.in_ok-format-in-Ok.ensures.read

pub returns-in-Err-clause-read : goal.returns-in-Err-clause-read
returns-in-Err-clause-read c = c.in-Err.ensures.read (rule Formatted)
