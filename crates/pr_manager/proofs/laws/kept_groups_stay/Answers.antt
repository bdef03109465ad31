use Rattle.pr_manager.specs.private.Keeping.{settings_in}
use Rattle.pr_manager.proofs.Each.{all_stay}
use Rattle.pr_manager.proofs.Passing.{each_stays_passed}
use Rattle.pr_manager.proofs.laws.kept_groups_stay.Goals as goal

pub returns-clause-keeps : goal.returns-clause-keeps
returns-clause-keeps g c = all_stay g.R.Ranges.fits g.R.Ranges.last g.R.Ranges.passed c.a_kept_group_stays.ensures.keeps

pub returns-clause-passed : goal.returns-clause-passed
returns-clause-passed g c = λ k history more groups reloaded keeps. λ i f n.
    each_stays_passed g.R.Ranges.fits g.R.Ranges.last g.R.Ranges.passed c.a_kept_group_stays.ensures.passed (settings_in k) history more f n k.groups groups keeps.each i
