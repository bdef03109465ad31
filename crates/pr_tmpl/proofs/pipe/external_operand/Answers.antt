use Rattle.std.specs.Prelude.{codes}
use Rattle.pr_labels.specs.pr_forms.Form.{chosen}
use Rattle.pr_tmpl.specs.TemplateText.{operand, spelled, external_rule, name_goes_on}
use Rattle.pr_tmpl.proofs.TextKept.{handed_text}
use Rattle.pr_tmpl.proofs.WordWays.{handed}
use Rattle.pr_tmpl.proofs.pipe.external_operand.Goals as goal

pub returns-in-Ok-clause-read : goal.returns-in-Ok-clause-read
returns-in-Ok-clause-read c = handed (spelled (codes "xternal") (chosen external_rule name_goes_on)) (chosen external_rule name_goes_on) c.args.text.now c.in-Ok.rest.now (λ x. operand x.0) (λ x. x.1.now) c.external_part.result (c.in-Ok.ensures.read (chosen external_rule name_goes_on)) c.external_part.ensures.read

pub returns-in-Err-clause-read : goal.returns-in-Err-clause-read
returns-in-Err-clause-read c = c.in-Err.ensures.read (chosen external_rule name_goes_on)

pub returns-in-Ok-clause-text : goal.returns-in-Ok-clause-text
returns-in-Ok-clause-text c = handed_text c.args.text.now c.in-Ok.rest.now c.external_part.result (λ x. x.1.now) c.in-Ok.ensures.text c.external_part.ensures.text
