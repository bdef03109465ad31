-- What computes numbers that are written out.
use Rattle.std.specs.Prelude.{⊤}
use Rattle.pr_num.specs.Arithmetic.{sum_of}
use Rattle.pr_num.specs.Half.{half, half_abs}
use Rattle.pr_num.specs.Reads.{reads}
use Rattle.pr_testfile.specs.Numbers.{number_of, count_of}
use Rattle.pr_testfile.specs.Items.{step_behind, steps_of, stretch_of}
use Rattle.pr_testfile.specs.Points.{points_in, points}
use Rattle.pr_testfile.specs.Values.{stretches_of, are_too_many, values_of}

unfoldable pub computing : ⊤
unfolding sum_of half half_abs reads number_of count_of step_behind steps_of stretch_of points_in points stretches_of are_too_many values_of
computing = tt
