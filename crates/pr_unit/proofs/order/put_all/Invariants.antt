use Rattle.std.proofs.Common.{◌≡◌, ◌++◌}
use Rattle.pr_unit.proofs.order.put_all.Given as goal

-- the groups so far, and those to come
abbrev pub invariant-loop-group : goal.invariant-loop-group
invariant-loop-group g l = l.named.items ++ l.group-iterator.rest.items ≡ l.initial.named.items ++ l.fn.groups.items
