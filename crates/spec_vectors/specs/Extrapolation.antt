-- What a counter or a gauge gains in a range, and how fast.
use Rattle.std.specs.Prelude.{ℕ, ◌+◌, ◌-◌, ◌*◌, nat_le, Bool, true, false, not, ◌&&◌, if◌then◌else◌, ℤ, pos, ◌+ℤ◌, ◌-ℤ◌, ◌*ℤ◌, int_lt, unsigned_abs, List, [], ◌∷◌, length, map, filter, Result, Ok}
use Rattle.pr_num.specs.declared.value.Num.{Num}
use Rattle.pr_num.specs.declared.value.Num.TheVariants.{NaN}
use Rattle.pr_num.specs.declared.value.TooWide.{TooWide}
use Rattle.pr_num.specs.Arithmetic.{fitted}
use Rattle.pr_num.specs.Half.{half}
use Rattle.pr_num.specs.Total.{total_of}
use Rattle.spec_history.specs.declared.spot.Spot.{Spot}
use Rattle.spec_vectors.specs.Spots.{falls, has_special, last_of, neighbours, numbers_of, units_in}

-- an exact fraction, a whole number as one, and the sum of two
pub record Fraction : Type 0 where
  pub top : ℕ
  pub bottom : ℕ

abbrev pub fraction : ℕ → ℕ → Fraction
fraction top bottom = record { top = top; bottom = bottom }

abbrev pub plus : Fraction → Fraction → Fraction
plus a b = fraction (a.top * b.bottom + b.top * a.bottom) (a.bottom * b.bottom)

-- how many milliseconds lie between two moments
abbrev pub ms_between : ℤ → ℤ → ℕ
ms_between from to = unsigned_abs (to -ℤ from)

-- The milliseconds from the first value to the last.
abbrev pub covered : Spot → List Spot → ℕ
covered first rest = (last_of first rest).time - first.time

-- How far the values are taken to go on past the first or the last of them, at a distance from the
-- end of the range: up to that end; but half a mean step where the distance is 1.1 mean steps or
-- more.
abbrev pub reach : ℕ → ℕ → ℕ → Fraction
reach distance covered steps = if nat_le (11 * covered) (10 * steps * distance) then fraction covered (2 * steps) else fraction distance 1

abbrev pub reach_before : ℤ → Spot → List Spot → Fraction
reach_before from first rest = reach (ms_between from (pos first.time)) (covered first rest) (length rest)

abbrev pub reach_after : ℤ → Spot → List Spot → Fraction
reach_after to first rest = reach (ms_between (pos (last_of first rest).time) to) (covered first rest) (length rest)

-- The units that were lost at falls: those of each value that stands before one.
abbrev pub lost : List Num → ℤ
lost values = (total_of (map (λ p. p.0) (filter falls (neighbours values)))).units

-- What was gained from the first value to the last: a gauge's difference, and for a counter what it
-- lost besides.
abbrev pub difference : Spot → List Spot → ℤ
difference first rest = units_in (last_of first rest).value -ℤ units_in first.value

abbrev pub gained : Spot → List Spot → ℤ
gained first rest = difference first rest +ℤ lost (numbers_of (first ∷ rest))

-- Such a gain, taken to go on as evenly for a time longer, rounded.
abbrev pub extended : ℤ → ℕ → Fraction → ℤ
extended gain covered longer = half (gain *ℤ pos (plus (fraction covered 1) longer).top) (pos ((plus (fraction covered 1) longer).bottom * covered))

-- A counter does not begin below zero: whether a gain of this many units, taken to go on as evenly
-- before the first value, would have been zero within the range.
abbrev pub begins_at_zero : ℤ → ℤ → ℕ → Fraction → Bool
begins_at_zero gain first covered before =
    int_lt (pos 0) gain && not (int_lt first (pos 0)) && int_lt (first *ℤ pos (covered * before.bottom)) (gain *ℤ pos before.top)

-- The gain of a gauge and that of a counter in the range, in units. A counter that begins at zero
-- gains its first value before it, and nothing more.
abbrev pub gauge_gain : ℤ → ℤ → Spot → List Spot → ℤ
gauge_gain from to first rest = extended (difference first rest) (covered first rest) (plus (reach_before from first rest) (reach_after to first rest))

abbrev pub counter_gain : ℤ → ℤ → Spot → List Spot → ℤ
counter_gain from to first rest =
    if begins_at_zero (gained first rest) (units_in first.value) (covered first rest) (reach_before from first rest)
    then extended (gained first rest) (covered first rest) (reach_after to first rest) +ℤ units_in first.value
    else extended (gained first rest) (covered first rest) (plus (reach_before from first rest) (reach_after to first rest))

-- A formula over finite values gives no number where one of them is none.
abbrev pub unless_special : Bool → Result Num TooWide → Result Num TooWide
unless_special true result = Ok NaN
unless_special false result = result

abbrev pub over_all : Spot → List Spot → Result Num TooWide → Result Num TooWide
over_all first rest result = unless_special (has_special (numbers_of (first ∷ rest))) result

-- `delta`, `increase`, and `rate`, which is the rounded increase over the seconds of the range.
unfoldable pub delta_of : ℤ → ℤ → Spot → List Spot → Result Num TooWide
delta_of from to first rest = over_all first rest (fitted (gauge_gain from to first rest))

unfoldable pub increase_of : ℤ → ℤ → Spot → List Spot → Result Num TooWide
increase_of from to first rest = over_all first rest (fitted (counter_gain from to first rest))

unfoldable pub rate_of : ℤ → ℤ → Spot → List Spot → Result Num TooWide
rate_of from to first rest = over_all first rest (fitted (half (counter_gain from to first rest *ℤ pos 1000) (pos (ms_between from to))))

-- The last two values; of one alone, that one twice.
abbrev pub last_two : Spot → List Spot → Spot × Spot
last_two first [] = (first, first)
last_two first (second ∷ []) = (first, second)
last_two first (second ∷ third ∷ rest) = last_two second (third ∷ rest)

-- What was gained from one value to the next: for a counter that fell, all that it is.
abbrev pub step_gauge : Num → Num → ℤ
step_gauge before last = units_in last -ℤ units_in before

abbrev pub step_counter : Num → Num → ℤ
step_counter before last = if falls (before, last) then units_in last else step_gauge before last

abbrev pub idelta_step : Spot × Spot → Result Num TooWide
idelta_step p = unless_special (has_special (p.0.value ∷ p.1.value ∷ [])) (fitted (step_gauge p.0.value p.1.value))

abbrev pub irate_step : Spot × Spot → Result Num TooWide
irate_step p = unless_special (has_special (p.0.value ∷ p.1.value ∷ [])) (fitted (half (step_counter p.0.value p.1.value *ℤ pos 1000) (pos (p.1.time - p.0.time))))

-- `idelta` and `irate` are of the last two values alone.
unfoldable pub idelta_of : Spot → List Spot → Result Num TooWide
idelta_of first rest = idelta_step (last_two first rest)

unfoldable pub irate_of : Spot → List Spot → Result Num TooWide
irate_of first rest = irate_step (last_two first rest)
