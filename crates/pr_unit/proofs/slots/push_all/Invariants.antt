use Rattle.std.proofs.Common.{◌≡◌, ◌++◌}
use Rattle.pr_unit.proofs.slots.push_all.Given as goal

-- those so far, and those to come
abbrev pub invariant-loop-failure : goal.invariant-loop-failure
invariant-loop-failure l = l.failures.items ++ l.failure-iterator.rest.items ≡ l.initial.failures.items ++ l.fn.list
