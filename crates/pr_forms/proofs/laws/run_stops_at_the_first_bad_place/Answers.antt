use Rattle.pr_forms.proofs.Places.{run_place}
use Rattle.pr_forms.proofs.laws.run_stops_at_the_first_bad_place.Goals as goal

pub returns : goal.returns
returns g c = λ G S n ts o h q. run_place G S h n ts o q
