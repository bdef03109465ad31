-- What functions of a range are of the summaries of its values.
use Rattle.std.specs.Prelude.{◌-◌, ◌<◌, ◌<ℤ◌, pos, ℤ, Bool, true, false, cond, nat_lt, Option, Some, None, Result, Ok}
use Rattle.pr_num.specs.declared.value.Num.{Num}
use Rattle.pr_num.specs.declared.value.Num.TheVariants.{NaN}
use Rattle.pr_num.specs.declared.value.TooWide.{TooWide}
use Rattle.pr_num.specs.Arithmetic.{whole_of}
use Rattle.pr_num.specs.Total.{Tally, mean_of, value_of}
use Rattle.spec_vectors.specs.declared.range.Ask.{Ask}
use Rattle.spec_vectors.specs.declared.range.RangeFn.{RangeFn}
use Rattle.spec_vectors.specs.declared.range.RangeFn.TheVariants.{Rate, Increase, Delta, Changes, Resets, SumOverTime, AvgOverTime, CountOverTime, LastOverTime, PresentOverTime}
use Rattle.spec_vectors.specs.Spots.{some_value}
use Rattle.pr_window.specs.declared.folds.neighbours.Neighbours.{Neighbours}
use Rattle.pr_window.specs.private.Gains.{delta_between, increase_between, rate_between}

-- whether a function is one of the total, and which one
abbrev pub is_of_total : RangeFn → Bool
is_of_total SumOverTime = true
is_of_total AvgOverTime = true
is_of_total CountOverTime = true
is_of_total PresentOverTime = true
is_of_total _ = false

abbrev pub from_total : RangeFn → Tally → Result (Option Num) TooWide
from_total SumOverTime t = some_value (value_of t)
from_total AvgOverTime t = Ok (Some (mean_of t))
from_total CountOverTime t = Ok (Some (whole_of (pos t.count)))
from_total PresentOverTime t = Ok (Some (whole_of (pos 1)))
from_total _ t = Ok None

-- The range has a length, and the last value comes after the first, where there are two or more.
abbrev pub IsSpread : Ask → Neighbours → Type 0
IsSpread a s = 1 < s.count → (a.from <ℤ a.to) × (s.first.time < s.last.time)

-- a formula of two values at least
abbrev pub of_two_at_least : Neighbours → Result Num TooWide → Result (Option Num) TooWide
of_two_at_least s result = cond (nat_lt 1 s.count) (some_value result) (Ok None)

-- whether a function is a gain, and which one
abbrev pub is_gain : RangeFn → Bool
is_gain Rate = true
is_gain Increase = true
is_gain Delta = true
is_gain _ = false

abbrev pub gain_from : RangeFn → ℤ → ℤ → Neighbours → Result Num TooWide
gain_from Rate from to s = rate_between from to s.first s.last (s.count - 1) s.lost.units s.special
gain_from Increase from to s = increase_between from to s.first s.last (s.count - 1) s.lost.units s.special
gain_from Delta from to s = delta_between from to s.first s.last (s.count - 1) s.special
gain_from _ from to s = Ok NaN

-- whether a function is one of what is kept of neighbours, and which one
abbrev pub is_of_neighbours : RangeFn → Bool
is_of_neighbours LastOverTime = true
is_of_neighbours Changes = true
is_of_neighbours Resets = true
is_of_neighbours Rate = true
is_of_neighbours Increase = true
is_of_neighbours Delta = true
is_of_neighbours _ = false

abbrev pub from_neighbours : RangeFn → ℤ → ℤ → Neighbours → Result (Option Num) TooWide
from_neighbours LastOverTime from to s = Ok (Some s.last.value)
from_neighbours Changes from to s = Ok (Some (whole_of (pos s.changes)))
from_neighbours Resets from to s = Ok (Some (whole_of (pos s.resets)))
from_neighbours Rate from to s = of_two_at_least s (gain_from Rate from to s)
from_neighbours Increase from to s = of_two_at_least s (gain_from Increase from to s)
from_neighbours Delta from to s = of_two_at_least s (gain_from Delta from to s)
from_neighbours _ from to s = Ok None
