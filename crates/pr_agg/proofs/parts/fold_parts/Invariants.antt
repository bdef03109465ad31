use Rattle.std.proofs.Common.{take}
use Rattle.pr_window.specs.spec_vectors.Aggregation.{group_of}
use Rattle.pr_agg.specs.private.Parts.{AreGrouped}
use Rattle.pr_agg.proofs.parts.fold_parts.Given as goal

-- the elements so far are in their parts
abbrev pub invariant-loop-item : goal.invariant-loop-item
invariant-loop-item g l = AreGrouped g.M.Fold.lift g.M.Fold.combine (group_of l.by) (take l.item-index l.vector) l.parts
