use Rattle.std.proofs.Common.{◌≡◌, ◌++◌, take}
use Rattle.pr_labels.proofs.labels.copies.push_copies.Given as goal

-- copies of those that were gone over stand behind what there was
abbrev pub invariant-loop-pair : goal.invariant-loop-pair
invariant-loop-pair l = l.copies.items ≡ l.initial.copies.items ++ take l.pair-index l.pairs
