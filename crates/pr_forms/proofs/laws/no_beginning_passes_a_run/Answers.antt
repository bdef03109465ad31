use Rattle.pr_forms.proofs.Places.{no_beginning_passes}
use Rattle.pr_forms.proofs.laws.no_beginning_passes_a_run.Goals as goal

pub returns : goal.returns
returns g c = λ G S n ts rest o h q b. no_beginning_passes G S h n ts rest o q b
