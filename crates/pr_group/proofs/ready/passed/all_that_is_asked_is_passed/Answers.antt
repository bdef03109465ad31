use Rattle.pr_group.proofs.Passing.{all_passed}
use Rattle.pr_group.proofs.ready.passed.all_that_is_asked_is_passed.Goals as goal

pub returns : goal.returns
returns c = all_passed
