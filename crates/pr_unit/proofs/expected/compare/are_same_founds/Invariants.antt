use Rattle.std.proofs.Common.{◌≡◌, length}
use Rattle.std.specs.Cmp.Lexicographic.{pointwise}
use Rattle.spec_tests.specs.Verdict.{same_found}
use Rattle.pr_unit.proofs.expected.compare.are_same_founds.Given as goal

-- what is left decides
abbrev pub invariant-pairs : goal.invariant-pairs
invariant-pairs l = pointwise same_found l.left l.right ≡ pointwise same_found l.expected l.got

abbrev pub decreases-pairs : goal.decreases-pairs
decreases-pairs l = length l.left
