use Rattle.pr_forms.proofs.Within.{place_within}
use Rattle.pr_forms.proofs.laws.bad_place_within_another.Goals as goal

pub returns : goal.returns
returns g c = λ p G S H Z rank limit us n k holds tables h j ends b. place_within p G H holds S Z tables h j rank limit ends us n k b
