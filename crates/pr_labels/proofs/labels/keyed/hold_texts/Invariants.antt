use Rattle.std.proofs.Common.{◌≡◌}
use Rattle.pr_labels.proofs.labels.keyed.hold_texts.Given as goal

-- texts that are parts of the key are the same texts
abbrev pub invariant-loop-pair : goal.invariant-loop-pair
invariant-loop-pair l = l.pair-items ≡ l.fn.pairs
