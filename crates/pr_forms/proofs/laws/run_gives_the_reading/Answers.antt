use Rattle.pr_forms.proofs.Places.{only_reading}
use Rattle.pr_forms.proofs.laws.run_gives_the_reading.Goals as goal

pub returns : goal.returns
returns g c = λ G S n ts o v h q d. only_reading G S h n ts o v q d
