use Rattle.std.proofs.Common.{map, take}
use Rattle.spec_vectors.specs.LabelFunctions.{with_joined}
use Rattle.pr_fn.specs.private.Rows.{AreRows}
use Rattle.pr_fn.proofs.label_functions.label_join.Given as goal

-- the elements so far, with the label set
abbrev pub invariant-loop-item : goal.invariant-loop-item
invariant-loop-item l = AreRows (map (with_joined l.dst l.separator l.names) (take l.item-index l.vector)) l.rows
