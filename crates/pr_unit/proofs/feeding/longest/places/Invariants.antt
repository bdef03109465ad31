use Rattle.std.proofs.Common.{◌≡◌, fold, take}
use Rattle.spec_tests.specs.pr_testfile.Series.{longer}
use Rattle.pr_unit.proofs.feeding.longest.places.Given as goal

-- the longest of the first ones
abbrev pub invariant-loop-one : goal.invariant-loop-one
invariant-loop-one l = l.most ≡ fold longer 0 (take l.one-index l.series)
