-- A value as its own summary.
use Rattle.std.specs.Prelude.{◌≤◌}
use Rattle.std.proofs.Common.{arith}
use Rattle.pr_num.specs.declared.value.Num.{Num}
use Rattle.pr_window.specs.private.Extremes.{no_weight}

abbrev pub itself : Num → Num
itself v = v

pub itself_weightless : (v : Num) → no_weight (itself v) ≤ 1
itself_weightless v = omega arith
