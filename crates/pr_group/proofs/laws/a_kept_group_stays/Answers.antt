use Rattle.pr_group.proofs.Lasting.{group_passed, group_stays}
use Rattle.pr_group.proofs.laws.a_kept_group_stays.Goals as goal

pub returns-clause-keeps : goal.returns-clause-keeps
returns-clause-keeps g c = λ k history more group kept lawful. group_stays g.R.Ranges.fits g.R.Ranges.last g.R.Ranges.passed k history more group kept g.met.R.Ranges.stays lawful

pub returns-clause-passed : goal.returns-clause-passed
returns-clause-passed g c = λ k history more group kept. group_passed g.R.Ranges.fits g.R.Ranges.last g.R.Ranges.passed k history more group kept
