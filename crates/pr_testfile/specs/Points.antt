-- What stretches of values stand for: the points of a series, place by place.
use Rattle.std.specs.Prelude.{ℕ, ◌+◌, List, map, sum_by, Option, Some, None, Result, Ok, Err}
use Rattle.std.specs.List.{flat_map, range_with_len}
use Rattle.pr_num.specs.declared.value.Num.{Num}
use Rattle.pr_num.specs.declared.value.Point.{Point}
use Rattle.pr_num.specs.declared.value.Point.TheVariants.{Value, Stale}
use Rattle.pr_num.specs.declared.value.TooWide.{TooWide}
use Rattle.pr_testfile.specs.declared.inputs.stretch.Stretch.{Stretch}
use Rattle.pr_testfile.specs.declared.inputs.stretch.Stretch.TheVariants.{Steps, Missing, Marker}
use Rattle.pr_testfile.specs.Steps.{value_at}

-- how many places a stretch takes, those that have no value among them
abbrev pub size : Stretch → ℕ
size (Steps first by n) = n + 1
size (Missing n) = n
size Marker = 1

abbrev pub if_value : Result Num TooWide → Option Point
if_value (Ok v) = Some (Value v)
if_value (Err wide) = None

-- the point at a place of a stretch, from 0
abbrev pub point_in : Stretch → ℕ → Option Point
point_in (Steps first by n) i = if_value (value_at first by i)
point_in (Missing n) i = None
point_in Marker i = Some Stale

unfoldable pub points_in : Stretch → List (Option Point)
points_in s = map (point_in s) (range_with_len 0 (size s))

-- how many places stretches take, and the points at them
abbrev pub total : List Stretch → ℕ
total stretches = sum_by size stretches

unfoldable pub points : List Stretch → List (Option Point)
points stretches = flat_map points_in stretches
