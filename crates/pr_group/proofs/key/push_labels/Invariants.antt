use Rattle.std.proofs.Common.{◌≡◌, ◌++◌, drop}
use Rattle.pr_group.specs.private.Matching.{labels_key}
use Rattle.pr_group.proofs.key.push_labels.Given as goal

-- what is written, and what is to come
abbrev pub invariant-loop-pair : goal.invariant-loop-pair
invariant-loop-pair l = l.out.items ++ labels_key (drop l.pair-index l.labels) ≡ l.fn.out.items ++ labels_key l.labels
