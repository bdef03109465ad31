use Rattle.std.proofs.Common.{map, take}
use Rattle.pr_fn.specs.private.Rows.{AreRows, without_metric}
use Rattle.pr_fn.proofs.values.without_metrics.Given as goal

-- the elements so far, without the name
abbrev pub invariant-loop-item : goal.invariant-loop-item
invariant-loop-item l = AreRows (map without_metric (take l.item-index l.vector)) l.rows
