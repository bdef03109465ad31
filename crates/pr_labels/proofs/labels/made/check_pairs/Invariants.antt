use Rattle.std.proofs.Common.{◌≡◌, ℕ, List, drop, take}
use Rattle.std.specs.List.{list_any}
use Rattle.pr_words.specs.Names.{knows}
use Rattle.pr_labels.specs.Edits.{fault_after, first_fault}
use Rattle.pr_labels.specs.LabelSet.{has_name}
use Rattle.pr_labels.proofs.labels.made.check_pairs.Given as goal

-- the names so far are known, and no pair so far has a fault
abbrev pub invariant-loop-index : goal.invariant-loop-index
invariant-loop-index l =
    ((name : List ℕ) → knows l.names name ≡ list_any (has_name name) (take l.index l.pairs)) × (fault_after (take l.index l.pairs) (drop l.index l.pairs) ≡ first_fault l.pairs)
