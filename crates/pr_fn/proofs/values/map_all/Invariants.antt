use Rattle.std.proofs.Common.{◌≡◌, false, take}
use Rattle.std.specs.List.{filter_map, list_any}
use Rattle.spec_vectors.specs.Functions.{ValueFunction, is_too_wide, with_value}
use Rattle.pr_fn.specs.private.Rows.{AreRows}
use Rattle.pr_fn.specs.private.ValueFunctions.{WorksBy}
use Rattle.pr_fn.proofs.values.map_all.Given as goal

-- none so far was too wide, and what they gave is among the rows
abbrev pub invariant-loop-item : goal.invariant-loop-item
invariant-loop-item g l = (f : ValueFunction) → WorksBy g.O.Fn l.op f → (list_any (is_too_wide f) (take l.item-index l.vector) ≡ false) × AreRows (filter_map (with_value f) (take l.item-index l.vector)) l.rows
