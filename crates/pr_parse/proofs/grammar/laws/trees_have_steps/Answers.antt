use Rattle.pr_parse.proofs.StepsLaw.{read_has_steps}
use Rattle.pr_parse.proofs.grammar.laws.trees_have_steps.Goals as goal

pub returns : goal.returns
returns c = λ ts t d. read_has_steps ts d.0 t d.1
