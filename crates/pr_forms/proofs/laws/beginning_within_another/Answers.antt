use Rattle.pr_forms.proofs.Within.{begins_good}
use Rattle.pr_forms.proofs.laws.beginning_within_another.Goals as goal

pub returns : goal.returns
returns g c = λ p L K f ts rest h b. begins_good h ts rest b
