-- The straight line through values by least squares, and where it is at a moment.
use Rattle.std.specs.Prelude.{ℕ, ◌+◌, ◌-◌, ◌*◌, ◌^◌, nat_le, nat_lt, Bool, if◌then◌else◌, ℤ, pos, ◌+ℤ◌, ◌-ℤ◌, ◌*ℤ◌, unsigned_abs, List, [], ◌∷◌, length, map, sum_by, Result, Ok, Err}
use Rattle.pr_num.specs.declared.value.Num.{Num}
use Rattle.pr_num.specs.declared.value.Num.TheVariants.{Finite, NaN, PosInf, NegInf}
use Rattle.pr_num.specs.declared.value.TooWide.{TooWide}
use Rattle.pr_num.specs.Arithmetic.{fitted, too_wide}
use Rattle.pr_num.specs.Half.{half}
use Rattle.spec_history.specs.declared.spot.Spot.{Spot}
use Rattle.spec_vectors.specs.Spots.{units_in}
use Rattle.spec_vectors.specs.Extrapolation.{over_all}

-- the sum of whole numbers
abbrev pub sum_of_units : List ℤ → ℤ
sum_of_units [] = pos 0
sum_of_units (z ∷ zs) = z +ℤ sum_of_units zs

-- Milliseconds and units from the first value on.
abbrev pub time_from : Spot → Spot → ℕ
time_from first s = s.time - first.time

abbrev pub units_from : Spot → Spot → ℤ
units_from first s = units_in s.value -ℤ units_in first.value

-- The sums of x, of x squared, of y, and of x y over all values, the first one among them; and
-- those of the magnitudes of the last two.
abbrev pub sum_x : Spot → List Spot → ℕ
sum_x first rest = sum_by (time_from first) (first ∷ rest)

abbrev pub sum_xx : Spot → List Spot → ℕ
sum_xx first rest = sum_by (λ s. time_from first s * time_from first s) (first ∷ rest)

abbrev pub sum_y : Spot → List Spot → ℤ
sum_y first rest = sum_of_units (map (units_from first) (first ∷ rest))

abbrev pub sum_xy : Spot → List Spot → ℤ
sum_xy first rest = sum_of_units (map (λ s. pos (time_from first s) *ℤ units_from first s) (first ∷ rest))

abbrev pub sum_abs_y : Spot → List Spot → ℕ
sum_abs_y first rest = sum_by (λ s. unsigned_abs (units_from first s)) (first ∷ rest)

abbrev pub sum_abs_xy : Spot → List Spot → ℕ
sum_abs_xy first rest = sum_by (λ s. time_from first s * unsigned_abs (units_from first s)) (first ∷ rest)

abbrev pub count : List Spot → ℕ
count rest = length rest + 1

-- The slope is A over B, in units a millisecond.
abbrev pub slope_top : Spot → List Spot → ℤ
slope_top first rest = pos (count rest) *ℤ sum_xy first rest -ℤ pos (sum_x first rest) *ℤ sum_y first rest

abbrev pub slope_bottom : Spot → List Spot → ℤ
slope_bottom first rest = pos (count rest * sum_xx first rest) -ℤ pos (sum_x first rest * sum_x first rest)

-- What is refused before the slope is worked out: parts that reach 10^38.
abbrev pub is_slope_wide : Spot → List Spot → Bool
is_slope_wide first rest = nat_le (10 ^ 38) (1000 * (count rest * sum_abs_xy first rest + sum_x first rest * sum_abs_y first rest))

-- The slope a second, rounded.
abbrev pub slope_of : Spot → List Spot → Result Num TooWide
slope_of first rest =
    if is_slope_wide first rest then Err too_wide
    else fitted (half (pos 1000 *ℤ slope_top first rest) (slope_bottom first rest))

unfoldable pub deriv_of : Spot → List Spot → Result Num TooWide
deriv_of first rest = over_all first rest (slope_of first rest)

-- Seconds ahead as whole milliseconds, rounded; more than 2^40 of them are refused.
abbrev pub ms_ahead : ℤ → ℤ
ms_ahead seconds = half seconds (pos (10 ^ 6))

-- How far a moment, so many milliseconds after the end of the range, is from the mean of the times,
-- as often as there are values.
abbrev pub times_ahead : ℤ → ℤ → Spot → List Spot → ℤ
times_ahead ahead to first rest = ((to -ℤ pos first.time) +ℤ ahead) *ℤ pos (count rest) -ℤ pos (sum_x first rest)

-- Where the line is at that moment: the first value, the mean of all from it on, and the slope over
-- the time from the mean of theirs.
abbrev pub line_at : ℤ → ℤ → Spot → List Spot → Num → Result Num TooWide
line_at ahead to first rest slope =
    fitted ((units_in first.value +ℤ half (sum_y first rest) (pos (count rest)))
    +ℤ half (units_in slope *ℤ times_ahead ahead to first rest) (pos (1000 * count rest)))

abbrev pub with_slope : (Num → Result Num TooWide) → Result Num TooWide → Result Num TooWide
with_slope line (Ok slope) = line slope
with_slope line (Err e) = Err e

abbrev pub line_after : ℤ → ℤ → Spot → List Spot → Result Num TooWide
line_after ahead to first rest =
    if nat_lt (2 ^ 40) (unsigned_abs ahead) then Err too_wide
    else with_slope (line_at ahead to first rest) (slope_of first rest)

abbrev pub line_in : Num → ℤ → Spot → List Spot → Result Num TooWide
line_in (Finite seconds) to first rest = line_after (ms_ahead seconds) to first rest
line_in NaN to first rest = Ok NaN
line_in PosInf to first rest = Ok NaN
line_in NegInf to first rest = Ok NaN

unfoldable pub predicted : Num → ℤ → Spot → List Spot → Result Num TooWide
predicted seconds to first rest = over_all first rest (line_in seconds to first rest)
