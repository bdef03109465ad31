use Rattle.std.proofs.Common.{◌≡◌, take}
use Rattle.pr_rule.proofs.alert.written.copies.Given as goal

-- the elements so far again
abbrev pub invariant-loop-item : goal.invariant-loop-item
invariant-loop-item l = l.copies.items ≡ take l.item-index l.items
