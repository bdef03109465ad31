use Rattle.pr_forms.proofs.Parts.{other_rest}
use Rattle.pr_forms.proofs.laws.reading_before_another_rest.Goals as goal

pub returns : goal.returns
returns g c = λ G f front r s v d. other_rest G f front r s v d
