use Rattle.std.specs.Prelude.{codes}
use Rattle.pr_labels.specs.pr_forms.Form.{rule}
use Rattle.pr_tmpl.specs.TemplateText.{call, spelled, Scale}
use Rattle.pr_tmpl.proofs.TextKept.{handed_text}
use Rattle.pr_tmpl.proofs.WordWays.{handed}
use Rattle.pr_tmpl.proofs.pipe.humanize_call.Goals as goal

pub returns-in-Ok-clause-read : goal.returns-in-Ok-clause-read
returns-in-Ok-clause-read c = handed (spelled (codes "umanize") (rule Scale)) (rule Scale) c.args.text.now c.in-Ok.rest.now (λ x. call x.0) (λ x. x.1.now) c.scale_in.result (c.in-Ok.ensures.read (rule Scale)) c.scale_in.ensures.read

pub returns-in-Err-clause-read : goal.returns-in-Err-clause-read
returns-in-Err-clause-read c = c.in-Err.ensures.read (rule Scale)

pub returns-in-Ok-clause-text : goal.returns-in-Ok-clause-text
returns-in-Ok-clause-text c = handed_text c.args.text.now c.in-Ok.rest.now c.scale_in.result (λ x. x.1.now) c.in-Ok.ensures.text c.scale_in.ensures.text
