use Rattle.pr_forms.proofs.Places.{cut_short}
use Rattle.pr_forms.proofs.laws.shorter_front_begins.Goals as goal

pub returns : goal.returns
returns g c = λ G f ts j k h b. cut_short G f ts j k h b
