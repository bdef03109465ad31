use Rattle.pr_forms.proofs.Taking.{missed, missed_at_end}
use Rattle.pr_forms.proofs.reader.take.Goals as goal

pub returns : goal.returns
returns g c = missed _ _ _ c.in-Some.first c.in-Some.ensures.cases.0 c.in-None.ensures

pub returns-in_default : goal.returns-in_default
returns-in_default g c = missed_at_end _ _ c.in_default.ensures.cases
