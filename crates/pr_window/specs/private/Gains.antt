-- The formulas over two values or more, by the first and the last of them, how many steps lie between,
-- what was lost at falls, and whether a value is special.
use Rattle.std.specs.Prelude.{ℕ, ◌-◌, Bool, if◌then◌else◌, ℤ, pos, ◌+ℤ◌, ◌-ℤ◌, ◌*ℤ◌, Result}
use Rattle.pr_num.specs.declared.value.Num.{Num}
use Rattle.pr_num.specs.declared.value.TooWide.{TooWide}
use Rattle.pr_num.specs.Arithmetic.{fitted}
use Rattle.pr_num.specs.Half.{half}
use Rattle.spec_vectors.specs.spec_history.declared.spot.Spot.{Spot}
use Rattle.spec_vectors.specs.Extrapolation.{Fraction, begins_at_zero, extended, ms_between, plus, reach, unless_special}
use Rattle.spec_vectors.specs.Spots.{units_in}

abbrev pub covered_between : Spot → Spot → ℕ
covered_between first last = last.time - first.time

abbrev pub reach_before_first : ℤ → Spot → Spot → ℕ → Fraction
reach_before_first from first last steps = reach (ms_between from (pos first.time)) (covered_between first last) steps

abbrev pub reach_after_last : ℤ → Spot → Spot → ℕ → Fraction
reach_after_last to first last steps = reach (ms_between (pos last.time) to) (covered_between first last) steps

abbrev pub difference_between : Spot → Spot → ℤ
difference_between first last = units_in last.value -ℤ units_in first.value

abbrev pub gauge_gain_between : ℤ → ℤ → Spot → Spot → ℕ → ℤ
gauge_gain_between from to first last steps =
    extended (difference_between first last) (covered_between first last) (plus (reach_before_first from first last steps) (reach_after_last to first last steps))

abbrev pub counter_gain_between : ℤ → ℤ → Spot → Spot → ℕ → ℤ → ℤ
counter_gain_between from to first last steps gained =
    if begins_at_zero gained (units_in first.value) (covered_between first last) (reach_before_first from first last steps)
    then extended gained (covered_between first last) (reach_after_last to first last steps) +ℤ units_in first.value
    else extended gained (covered_between first last) (plus (reach_before_first from first last steps) (reach_after_last to first last steps))

abbrev pub delta_between : ℤ → ℤ → Spot → Spot → ℕ → Bool → Result Num TooWide
delta_between from to first last steps special = unless_special special (fitted (gauge_gain_between from to first last steps))

abbrev pub increase_between : ℤ → ℤ → Spot → Spot → ℕ → ℤ → Bool → Result Num TooWide
increase_between from to first last steps lost special =
    unless_special special (fitted (counter_gain_between from to first last steps (difference_between first last +ℤ lost)))

abbrev pub rate_between : ℤ → ℤ → Spot → Spot → ℕ → ℤ → Bool → Result Num TooWide
rate_between from to first last steps lost special =
    unless_special special (fitted (half (counter_gain_between from to first last steps (difference_between first last +ℤ lost) *ℤ pos 1000) (pos (ms_between from to))))
