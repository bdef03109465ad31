use Rattle.pr_forms.proofs.Parts.{part_place}
use Rattle.pr_forms.proofs.laws.bad_place_of_a_front.Goals as goal

pub returns : goal.returns
returns g c = λ G f ts m k h l p. part_place G f ts m k h l p
