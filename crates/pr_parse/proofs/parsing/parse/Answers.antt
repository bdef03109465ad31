use Rattle.pr_parse.proofs.ParsedLaws.{answered, steps_answered}
use Rattle.pr_parse.proofs.parsing.parse.Goals as goal

pub returns-clause-parsed : goal.returns-clause-parsed
returns-clause-parsed c = answered c.args.text.now c.read_text.result c.read_text.ensures.tree c.read_text.ensures.fault

pub returns-clause-steps : goal.returns-clause-steps
returns-clause-steps c = steps_answered c.args.text.now c.read_text.result c.read_text.ensures.tree
