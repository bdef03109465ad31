use Rattle.pr_forms.proofs.Sound.{meets, begins}
use Rattle.pr_forms.proofs.laws.bad_run_begins.Goals as goal

pub returns : goal.returns
returns g c = λ G S f ts rest q. begins (meets q)
