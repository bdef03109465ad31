use Rattle.pr_expo.proofs.Endings.{ending_is}
use Rattle.pr_expo.proofs.families.without_ending.Goals as goal

pub returns : goal.returns
returns c = ending_is _ _ _ c.strip_suffix.ensures.cases
