use Rattle.std.proofs.Common.{◌≡◌, take}
use Rattle.pr_join.proofs.sets.copies_of.Given as goal

-- the elements so far again
abbrev pub invariant-loop-item : goal.invariant-loop-item
invariant-loop-item l = l.copies.items ≡ take l.item-index l.side
