use Rattle.std.proofs.Common.{◌≡◌, ◌++◌, length}
use Rattle.pr_unit.specs.private.Kept.{name_of}
use Rattle.pr_unit.specs.private.Ordered.{named_first}
use Rattle.pr_unit.proofs.order.in_order.Given as goal

-- the groups of the names so far, and those to come
abbrev pub invariant-names : goal.invariant-names
invariant-names g l = l.named.items ++ named_first name_of l.rest l.others.items ≡ named_first name_of l.names l.fn.groups.items

abbrev pub decreases-names : goal.decreases-names
decreases-names g l = length l.rest
