use Rattle.std.proofs.Common.{◌≡◌, ◌*◌, ◌^◌, ◌≤◌, take}
use Rattle.spec_tests.specs.pr_testfile.Points.{total}
use Rattle.pr_unit.proofs.feeding.longest.total.Given as goal

-- the places of the first ones
abbrev pub invariant-loop-number : goal.invariant-loop-number
invariant-loop-number l = (l.total ≡ total (take l.number l.stretches)) × (l.total ≤ l.number * 2 ^ 32)
