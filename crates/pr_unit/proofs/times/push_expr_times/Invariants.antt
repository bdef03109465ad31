use Rattle.std.proofs.Common.{◌≡◌, ◌++◌, length, map}
use Rattle.pr_unit.proofs.times.push_expr_times.Given as goal

-- the times so far, and those to come
abbrev pub invariant-checks : goal.invariant-checks
invariant-checks l = l.times.items ++ map (λ c. c.time) l.rest ≡ l.fn.times.items ++ map (λ c. c.time) l.checks

abbrev pub decreases-checks : goal.decreases-checks
decreases-checks l = length l.rest
