-- An operator with a scalar on one of its sides, as a function of the value on the other.
use Rattle.std.specs.Prelude.{Bool, Result, if◌then◌else◌}
use Rattle.pr_num.specs.declared.value.Num.{Num}
use Rattle.pr_num.specs.declared.value.TooWide.{TooWide}
use Rattle.pr_range.specs.spec_vectors.Operators.{holds}
use Rattle.spec_meaning.specs.Operators.{comparison_of, result_of}
use Rattle.pr_eval.specs.declared.values.operators.Beside.{Beside}

abbrev pub holds_beside : Beside → Num → Bool
holds_beside b v = if b.scalar_is_left then holds (comparison_of b.op) b.scalar v else holds (comparison_of b.op) v b.scalar

abbrev pub result_beside : Beside → Num → Result Num TooWide
result_beside b v = if b.scalar_is_left then result_of b.op b.scalar v else result_of b.op v b.scalar
