use Rattle.std.proofs.Common.{◌≡◌, take, filter}
use Rattle.pr_labels.specs.private.Chosen.{is_chosen}
use Rattle.pr_labels.proofs.labels.choose.copies_of.Given as goal

-- the pairs so far are the chosen ones of those that were gone over
abbrev pub invariant-loop-pair : goal.invariant-loop-pair
invariant-loop-pair l = l.copies.items ≡ filter (is_chosen l.listed l.names) (take l.pair-index l.pairs)
