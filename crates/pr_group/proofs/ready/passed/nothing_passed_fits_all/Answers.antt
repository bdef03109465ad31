use Rattle.pr_group.proofs.Falling.{fresh_within}
use Rattle.pr_group.proofs.ready.passed.nothing_passed_fits_all.Goals as goal

pub returns : goal.returns
returns c = fresh_within
