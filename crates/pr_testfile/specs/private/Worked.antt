-- Words for the worked texts.
use Rattle.std.specs.Prelude.{ℕ, ℤ, Option, Some}
use Rattle.pr_num.specs.declared.value.Point.{Point}
use Rattle.pr_num.specs.declared.value.Point.TheVariants.{Value}
use Rattle.pr_num.specs.Arithmetic.{whole_of}
use Rattle.pr_testfile.specs.declared.inputs.stretch.Stretch.{Stretch}
use Rattle.pr_testfile.specs.declared.inputs.stretch.Stretch.TheVariants.{Steps}

abbrev pub some_value : ℤ → Option Point
some_value n = Some (Value (whole_of n))

-- so many steps from a whole number by another
abbrev pub from_by : ℤ → ℤ → ℕ → Stretch
from_by first by n = Steps (whole_of first) (whole_of by) n
