use Rattle.pr_forms.proofs.Ending.{given_place}
use Rattle.pr_forms.proofs.laws.bad_place_is_a_function.Goals as goal

pub returns : goal.returns
returns g c = λ G S rank limit n ts h k. given_place G S h rank limit k n ts
