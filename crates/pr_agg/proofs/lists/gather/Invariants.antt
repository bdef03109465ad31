use Rattle.std.proofs.Common.{take}
use Rattle.pr_window.specs.spec_vectors.Aggregation.{group_of}
use Rattle.pr_agg.specs.private.Lists.{alone, one_after_other}
use Rattle.pr_agg.specs.private.Parts.{AreGrouped}
use Rattle.pr_agg.proofs.lists.gather.Given as goal

-- the elements so far are gathered
abbrev pub invariant-loop-item : goal.invariant-loop-item
invariant-loop-item l = AreGrouped alone one_after_other (group_of l.by) (take l.item-index l.vector) l.parts
