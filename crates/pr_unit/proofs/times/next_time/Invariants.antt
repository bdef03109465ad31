use Rattle.std.proofs.Common.{◌≡◌, fold, take, None}
use Rattle.pr_unit.specs.private.Times.{earlier_of}
use Rattle.pr_unit.proofs.times.next_time.Given as goal

-- the first of those so far
abbrev pub invariant-loop-time : goal.invariant-loop-time
invariant-loop-time l = l.next ≡ fold (earlier_of l.from) None (take l.time-index l.times)
