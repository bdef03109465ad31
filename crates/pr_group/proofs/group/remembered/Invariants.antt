use Rattle.pr_group.specs.private.Evaluating.{AreNew}
use Rattle.pr_group.proofs.group.remembered.Given as goal

-- the first ones are new
abbrev pub invariant-loop-index : goal.invariant-loop-index
invariant-loop-index g l = AreNew g.R.Ranges.fits g.R.Ranges.last g.R.Ranges.passed l.definitions l.rules.items l.index
