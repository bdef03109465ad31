use Rattle.std.proofs.Common.{◌≡◌, take}
use Rattle.pr_outside.proofs.packed_rows.PackedRows.to_vec.Given as goal

abbrev pub invariant-loop-index : goal.invariant-loop-index
invariant-loop-index l = l.rows.items ≡ take l.index l.self
