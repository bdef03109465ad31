use Rattle.std.proofs.Common.{take}
use Rattle.pr_window.specs.spec_vectors.Aggregation.{value_group}
use Rattle.pr_agg.specs.private.Counts.{both_parts, one_each}
use Rattle.pr_agg.specs.private.Parts.{AreGrouped}
use Rattle.pr_agg.proofs.counts.count_parts.Given as goal

-- the elements so far are counted
abbrev pub invariant-loop-item : goal.invariant-loop-item
invariant-loop-item l = AreGrouped one_each both_parts (value_group l.label l.by) (take l.item-index l.vector) l.counts
