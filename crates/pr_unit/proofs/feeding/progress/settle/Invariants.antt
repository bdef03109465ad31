use Rattle.std.proofs.Common.{ℕ, ◌-◌, length}
use Rattle.pr_unit.specs.private.Feeding.{IsAt}
use Rattle.pr_unit.proofs.feeding.progress.settle.Given as goal

-- it stands where it stood
abbrev pub invariant-ended : goal.invariant-ended
invariant-ended l = (place : ℕ) → IsAt l.stretches place l.fn.progress → IsAt l.stretches place l.progress

abbrev pub decreases-ended : goal.decreases-ended
decreases-ended l = length l.stretches - l.progress.stretch
