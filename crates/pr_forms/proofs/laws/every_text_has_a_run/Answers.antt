use Rattle.pr_forms.proofs.Ending.{rule_answered}
use Rattle.pr_forms.proofs.laws.every_text_has_a_run.Goals as goal

pub returns : goal.returns
returns g c = λ G S rank limit n ts known ends. let a = rule_answered G S known rank limit ends n ts in (a.outcome, a.runs)
