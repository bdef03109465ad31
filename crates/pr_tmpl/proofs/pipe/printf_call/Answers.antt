use Rattle.pr_labels.specs.pr_forms.Form.{rule}
use Rattle.std.specs.Prelude.{codes}
use Rattle.pr_tmpl.specs.TemplateText.{call, spelled, Formatted}
use Rattle.pr_tmpl.specs.private.Pipes.{after_gap}
use Rattle.pr_tmpl.proofs.WordWays.{handed}
use Rattle.pr_tmpl.proofs.pipe.printf_call.Goals as goal

pub returns-in-Ok-clause-read : goal.returns-in-Ok-clause-read
returns-in-Ok-clause-read c = handed (spelled (codes "rintf") (after_gap (rule Formatted))) (after_gap (rule Formatted)) c.args.text.now c.in-Ok.rest.now (λ x. call x.0) (λ x. x.1.now) c.format_after_gap.result (c.in-Ok.ensures.read (after_gap (rule Formatted))) c.format_after_gap.ensures.read

pub returns-in-Err-clause-read : goal.returns-in-Err-clause-read
returns-in-Err-clause-read c = c.in-Err.ensures.read (after_gap (rule Formatted))
