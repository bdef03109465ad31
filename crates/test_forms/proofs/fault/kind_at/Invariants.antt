use Rattle.std.proofs.Common.{◌≡◌, length}
use Rattle.test_forms.specs.private.Tree.{seen}
use Rattle.test_forms.specs.private.Faults.{kind_at, kind_after}
use Rattle.test_forms.proofs.fault.kind_at.Given as goal

abbrev pub invariant-loop-first : goal.invariant-loop-first
invariant-loop-first l = kind_at (seen l.fn.tokens) l.fn.place ≡ kind_after l.ended (seen l.left) l.before

abbrev pub decreases-loop-first : goal.decreases-loop-first
decreases-loop-first l = length l.left
