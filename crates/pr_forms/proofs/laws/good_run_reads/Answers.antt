use Rattle.pr_forms.proofs.Sound.{meets, reads}
use Rattle.pr_forms.proofs.laws.good_run_reads.Goals as goal

pub returns : goal.returns
returns g c = λ G S f ts rest v q. reads (meets q)
