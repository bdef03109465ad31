use Rattle.pr_manager.specs.private.Naming.{value_of}
use Rattle.pr_manager.proofs.Continued.{AreGoingOn}
use Rattle.pr_manager.proofs.continuing.go_on.Given as goal

abbrev pub invariant-loop-new : goal.invariant-loop-new
invariant-loop-new g l = AreGoingOn g.R.Ranges.fits g.R.Ranges.last g.R.Ranges.passed (value_of l.fn.waiting) (value_of l.waiting) l.new-iterator.rest.items l.fn.news.items l.done.items
