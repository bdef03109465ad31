use Rattle.pr_forms.proofs.Fronts.{same_good, none_good}
use Rattle.pr_forms.proofs.laws.front_is_read_in_one_way.Goals as goal

pub returns-clause-one : goal.returns-clause-one
returns-clause-one g c = λ G S f ts r s v w h d k q x. same_good G S h d k q x

pub returns-clause-none : goal.returns-clause-none
returns-clause-none g c = λ G S f ts r s w h d k q x. none_good G S h d k q x
