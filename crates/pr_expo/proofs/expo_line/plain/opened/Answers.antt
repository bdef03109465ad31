use Rattle.pr_expo.proofs.PlainFronts.{opened_leads}
use Rattle.pr_expo.proofs.expo_line.plain.opened.Goals as goal

pub returns-in-Some-past-clause-leads : goal.returns-in-Some-past-clause-leads
returns-in-Some-past-clause-leads c = λ head name s. opened_leads head name _ _ _ c.utf8.text c.in-Some.ensures.parts c.in-Some-past.ensures.parts s
