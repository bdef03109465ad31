use Rattle.pr_parse.proofs.StepsLaw.{read_has_steps}
use Rattle.pr_parse.proofs.laws.expressions_have_steps.Goals as goal

pub returns : goal.returns
returns c = λ text tree x. read_has_steps x.tokens x.derives.0 tree x.derives.1
