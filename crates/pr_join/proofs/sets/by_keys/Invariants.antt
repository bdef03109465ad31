use Rattle.std.proofs.Common.{◌≡◌, take}
use Rattle.pr_join.specs.private.Sets.{with_match}
use Rattle.pr_join.proofs.sets.by_keys.Given as goal

-- the wanted ones of the elements so far
abbrev pub invariant-loop-item : goal.invariant-loop-item
invariant-loop-item l = l.chosen.items ≡ with_match l.how l.other l.wanted (take l.item-index l.side)
