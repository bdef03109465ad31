use Rattle.pr_labels.specs.pr_forms.Form.{rule}
use Rattle.pr_tmpl.specs.TemplateText.{Name, bytes, spelled}
use Rattle.std.specs.Prelude.{codes}
use Rattle.pr_tmpl.proofs.WordWays.{handed}
use Rattle.pr_tmpl.proofs.words.label_in.Goals as goal

pub returns-in-Ok-clause-read : goal.returns-in-Ok-clause-read
returns-in-Ok-clause-read c = handed (spelled (codes "abels.") (rule Name)) (rule Name) c.args.text.now c.in-Ok.rest.now (λ x. bytes x.0) (λ x. x.1.now) c.name_in.result (c.in-Ok.ensures.read (rule Name)) c.name_in.ensures.read

pub returns-in-Err-clause-read : goal.returns-in-Err-clause-read
returns-in-Err-clause-read c = c.in-Err.ensures.read (rule Name)
