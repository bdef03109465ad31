use Rattle.pr_forms.proofs.Parts.{begins_other_rest}
use Rattle.pr_forms.proofs.laws.beginning_before_another_rest.Goals as goal

pub returns : goal.returns
returns g c = λ G f front r s b. begins_other_rest G f front r s b
