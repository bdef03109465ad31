use Rattle.pr_forms.proofs.Places.{one_place}
use Rattle.pr_forms.proofs.laws.first_bad_place_is_one.Goals as goal

pub returns : goal.returns
returns g c = λ G f ts j k p q. one_place G f ts j k p q
