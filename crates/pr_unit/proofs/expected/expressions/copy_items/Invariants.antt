use Rattle.std.proofs.Common.{◌≡◌, take}
use Rattle.pr_unit.proofs.expected.expressions.copy_items.Given as goal

-- the copies are those of the first ones
abbrev pub invariant-loop-item : goal.invariant-loop-item
invariant-loop-item l = l.copies.items ≡ take l.item-index l.items
