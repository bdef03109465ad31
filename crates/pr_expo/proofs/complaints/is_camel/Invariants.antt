use Rattle.std.proofs.Common.{◌≡◌, length}
use Rattle.pr_expo.specs.Lint.{is_camel}
use Rattle.pr_expo.proofs.complaints.is_camel.Given as goal

-- no small letter stood before a capital so far
abbrev pub invariant-loop-first : goal.invariant-loop-first
invariant-loop-first l = is_camel l.rest ≡ is_camel l.bytes

abbrev pub decreases-loop-first : goal.decreases-loop-first
decreases-loop-first l = length l.rest
