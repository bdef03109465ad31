use Rattle.std.proofs.Common.{◌≡◌, ◌+◌, ◌≤◌}
use Rattle.pr_slide.proofs.listed.look_at.Given as goal

-- a look for each time
abbrev pub invariant-loop : goal.invariant-loop
invariant-loop g l = record { looks : l.looks ≡ l.fn.looks + l.counter; within : l.counter ≤ l.count }
