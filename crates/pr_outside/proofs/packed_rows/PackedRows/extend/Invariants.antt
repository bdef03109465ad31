use Rattle.std.proofs.Common.{◌≡◌, ◌++◌, take}
use Rattle.pr_outside.proofs.packed_rows.PackedRows.extend.Given as goal

abbrev pub invariant-loop-row : goal.invariant-loop-row
invariant-loop-row l = l.self ≡ l.fn.self ++ take l.row-index l.rows
