use Rattle.pr_forms.proofs.Within.{reads_good}
use Rattle.pr_forms.proofs.laws.reading_within_another.Goals as goal

pub returns : goal.returns
returns g c = λ p L K f ts rest v h d. reads_good h ts rest d
