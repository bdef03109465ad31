use Rattle.pr_forms.proofs.Readings.{one_reading}
use Rattle.pr_forms.proofs.laws.two_readings_agree.Goals as goal

pub returns : goal.returns
returns g c = λ G S n ts v w h d e. one_reading G S h n ts v w d e
