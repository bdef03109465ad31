-- Functions of the values of a series in a range.
use Rattle.std.specs.Prelude.{ℕ, ◌^◌, pos, Bool, not, cond, nat_lt, List, [], ◌∷◌, length, count_by, Option, Some, None, unwrap_or, Result, Ok, Err}
use Rattle.pr_num.specs.declared.value.Num.{Num}
use Rattle.pr_num.specs.declared.value.Num.TheVariants.{NaN}
use Rattle.pr_num.specs.declared.value.TooWide.{TooWide}
use Rattle.pr_num.specs.Arithmetic.{whole_of}
use Rattle.pr_num.specs.Same.{same_num}
use Rattle.spec_history.specs.declared.spot.Spot.{Spot}
use Rattle.spec_vectors.specs.declared.range.Ask.{Ask}
use Rattle.spec_vectors.specs.declared.range.AskFault.{AskFault}
use Rattle.spec_vectors.specs.declared.range.AskFault.TheVariants as fault
use Rattle.spec_vectors.specs.declared.range.RangeFn.{RangeFn}
use Rattle.spec_vectors.specs.declared.range.RangeFn.TheVariants.{Rate, Increase, Delta, Irate, Idelta, Deriv, PredictLinear, Changes, Resets, SumOverTime, AvgOverTime, MinOverTime, MaxOverTime, CountOverTime, LastOverTime, PresentOverTime, QuantileOverTime}
use Rattle.spec_vectors.specs.Spots.{last_of, neighbours, numbers_of, falls, of_two, some_value}
use Rattle.spec_vectors.specs.Aggregation.{count_of_values, greatest_of_values, least_of_values, mean_of_values, one_of_values, quantile_of_values, sum_of_values}
use Rattle.spec_vectors.specs.Extrapolation.{delta_of, idelta_of, increase_of, irate_of, rate_of}
use Rattle.spec_vectors.specs.Regression.{deriv_of, predicted}

-- the most values of a range
abbrev pub longest : ℕ
longest = 2 ^ 20

-- the fault of a value that is too wide
abbrev pub with_fault : Result (Option Num) TooWide → Result (Option Num) AskFault
with_fault (Ok value) = Ok value
with_fault (Err e) = Err fault.TooWide

-- How many values differ from the one before, where NaN is NaN, and how many are below the one
-- before.
abbrev pub differ : Num × Num → Bool
differ p = not (same_num p.0 p.1)

abbrev pub changes_of : List Num → Num
changes_of values = whole_of (pos (count_by differ (neighbours values)))

abbrev pub resets_of : List Num → Num
resets_of values = whole_of (pos (count_by falls (neighbours values)))

-- the argument of a function that takes one
abbrev pub argument : Ask → Num
argument a = unwrap_or a.arg NaN

-- A function of values of which there is one at least.
unfoldable pub function_of : RangeFn → Ask → Spot → List Spot → Result (Option Num) TooWide
function_of SumOverTime a first rest = some_value (sum_of_values (numbers_of (first ∷ rest)))
function_of AvgOverTime a first rest = Ok (Some (mean_of_values (numbers_of (first ∷ rest))))
function_of MinOverTime a first rest = Ok (Some (least_of_values (numbers_of (first ∷ rest))))
function_of MaxOverTime a first rest = Ok (Some (greatest_of_values (numbers_of (first ∷ rest))))
function_of CountOverTime a first rest = Ok (Some (count_of_values (numbers_of (first ∷ rest))))
function_of LastOverTime a first rest = Ok (Some (last_of first rest).value)
function_of PresentOverTime a first rest = Ok (Some (one_of_values (numbers_of (first ∷ rest))))
function_of QuantileOverTime a first rest = Ok (Some (quantile_of_values (argument a) (numbers_of (first ∷ rest))))
function_of Changes a first rest = Ok (Some (changes_of (numbers_of (first ∷ rest))))
function_of Resets a first rest = Ok (Some (resets_of (numbers_of (first ∷ rest))))
function_of Rate a first rest = of_two (rate_of a.from a.to) first rest
function_of Increase a first rest = of_two (increase_of a.from a.to) first rest
function_of Delta a first rest = of_two (delta_of a.from a.to) first rest
function_of Irate a first rest = of_two irate_of first rest
function_of Idelta a first rest = of_two idelta_of first rest
function_of Deriv a first rest = of_two deriv_of first rest
function_of PredictLinear a first rest = of_two (predicted (argument a) a.to) first rest

-- Without values there is nothing.
abbrev pub over_some : Ask → List Spot → Result (Option Num) AskFault
over_some a [] = Ok None
over_some a (first ∷ rest) = with_fault (function_of a.func a first rest)

-- The answer over the values of a range, with their times. More than 2^20 of them are refused.
unfoldable pub over : Ask → List Spot → Result (Option Num) AskFault
over a spots = cond (nat_lt longest (length spots)) (Err (fault.RangeTooLong (length spots))) (over_some a spots)
