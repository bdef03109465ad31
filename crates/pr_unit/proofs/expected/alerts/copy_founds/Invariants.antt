use Rattle.std.proofs.Common.{◌≡◌, take}
use Rattle.pr_unit.proofs.expected.alerts.copy_founds.Given as goal

-- the copies are those of the first ones
abbrev pub invariant-loop-found : goal.invariant-loop-found
invariant-loop-found l = l.copies.items ≡ take l.found-index l.founds
