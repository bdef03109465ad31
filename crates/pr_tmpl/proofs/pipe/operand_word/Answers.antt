use Rattle.pr_tmpl.specs.TemplateText.{operand}
use Rattle.pr_tmpl.proofs.WordWays.{word_value}
use Rattle.pr_tmpl.proofs.pipe.operand_word.Goals as goal

pub returns-in-Ok-clause-read : goal.returns-in-Ok-clause-read
returns-in-Ok-clause-read c = word_value c.args.word.now c.args.text.now c.in-Ok.rest.now (operand c.args.found) c.in-Ok.ensures.read
