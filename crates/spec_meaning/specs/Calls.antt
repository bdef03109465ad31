-- What calls of functions give.
use Rattle.std.specs.Prelude.{ℕ, ◌*◌, ◌^◌, pos, drop, List, [], ◌∷◌, map, Option, Some, None, Result, Ok}
use Rattle.pr_num.specs.declared.value.Num.{Num}
use Rattle.pr_num.specs.declared.value.Num.TheVariants.{Finite}
use Rattle.pr_num.specs.Arithmetic.{whole_of}
use Rattle.pr_ast.specs.pr_labels.declared.item.Item.{Item}
use Rattle.pr_ast.specs.pr_labels.SeriesText.{unnamed}
use Rattle.spec_vectors.specs.spec_history.declared.entry.Entry.{Entry}
use Rattle.spec_vectors.specs.spec_history.declared.spot.Spot.{Spot}
use Rattle.pr_match.specs.Pattern.{expanded}
use Rattle.pr_ast.specs.declared.place.Place.{Place}
use Rattle.pr_ast.specs.declared.selector.Selector.{Selector}
use Rattle.pr_ast.specs.declared.names.Func.{Func}
use Rattle.pr_ast.specs.declared.names.Func.TheVariants.{Abs, Ceil, Floor, Sgn, Round, Clamp, ClampMin, ClampMax, Time, Vector, Scalar, Timestamp, Absent, AbsentOverTime, Minute, Hour, DayOfWeek, DayOfMonth, DayOfYear, DaysInMonth, Month, Year, LabelReplace, LabelJoin, HistogramQuantile, Rate, Increase, Delta, Irate, Idelta, Deriv, PredictLinear, Changes, Resets, SumOverTime, AvgOverTime, MinOverTime, MaxOverTime, CountOverTime, LastOverTime, PresentOverTime, QuantileOverTime}
use Rattle.pr_ast.specs.Tree.{Tree, select, none, more}
use Rattle.pr_types.specs.Typed.{content_at, contents}
use Rattle.spec_vectors.specs.declared.function_fault.FunctionFault.{FunctionFault}
use Rattle.spec_vectors.specs.declared.part.Part.{Part}
use Rattle.spec_vectors.specs.declared.part.Part.TheVariants as part
use Rattle.spec_vectors.specs.declared.range.RangeFn.TheVariants as range
use Rattle.spec_vectors.specs.Calendar.{calendar_of}
use Rattle.spec_vectors.specs.Functions.{abs_of, ceils_of, clamped, clamped_max, clamped_min, floors_of, mapped, rounded_all, scalar_of, signs_of, told_apart}
use Rattle.spec_vectors.specs.Histogram.{histogram_quantiles}
use Rattle.spec_vectors.specs.LabelFunctions.{label_joined, label_replaced}
use Rattle.spec_vectors.specs.Vectors.{element}
use Rattle.spec_meaning.specs.declared.fault.Fault.{Fault}
use Rattle.spec_meaning.specs.declared.value.Value.{Value}
use Rattle.spec_meaning.specs.declared.value.Value.TheVariants as value
use Rattle.spec_meaning.specs.Answers.{function_at, go_on}
use Rattle.spec_meaning.specs.Absence.{absent_of, labels_of_argument}
use Rattle.spec_meaning.specs.Given.{Given, Ranged, elements_given, elements_in, number_given, number_or, ranges_given}
use Rattle.spec_meaning.specs.RangeCalls.{answers_over, over_given, question}
use Rattle.spec_meaning.specs.Selection.{selected_spots}

-- a time in seconds
abbrev pub seconds_of : ℕ → Num
seconds_of time = Finite (pos (time * 10 ^ 6))

abbrev pub vector_at : List (Item Num) → Result Value Fault
vector_at items = Ok (value.Vector items)

-- An element of a selector has the time of its sample, and every other element the time of the
-- query.
abbrev pub with_time : Item Spot → Item Num
with_time e = element (unnamed e.labels) (seconds_of e.value.time)

-- the selector that is the one argument of a call, where it is one
abbrev pub selector_in : Tree → Option Selector
selector_in (select p s) = Some s
selector_in _ = None

abbrev pub selector_argument : Tree → Option Selector
selector_argument (more none t) = selector_in t
selector_argument _ = None

abbrev pub stamped : List Entry → ℕ → List (Item Num) → Option Selector → Result (List (Item Num)) FunctionFault
stamped history time items None = mapped (λ v. Ok (seconds_of time)) items
stamped history time items (Some s) = told_apart (map with_time (selected_spots history s time))

abbrev pub timestamps : List Entry → Tree → ℕ → List (Item Num) → Result (List (Item Num)) FunctionFault
timestamps history ts time items = stamped history time items (selector_argument ts)

-- without an argument the calendar tells the time of the query
abbrev pub instants : ℕ → List Given → List (Item Num)
instants time [] = element [] (seconds_of time) ∷ []
instants time (g ∷ gs) = elements_in g.value

abbrev pub calendars : Part → ℕ → List Given → Result (List (Item Num)) FunctionFault
calendars field time gs = mapped (λ v. Ok (calendar_of field v)) (instants time gs)

-- `absent_over_time` has one element where no series has a value in the range. Its series are asked
-- in order as those of any function of a range, and their labels are not told apart.
abbrev pub absent_given : Place → Tree → Option Ranged → Result Value Fault
absent_given p ts None = Ok (value.Vector [])
absent_given p ts (Some r) = go_on (λ items. vector_at (absent_of (labels_of_argument ts) items)) (answers_over p r.place (question range.PresentOverTime None r) r.series)

-- A call, by what its arguments give and by their tree, in which texts are looked up.
abbrev pub value_of_call : List Entry → Place → Func → Tree → ℕ → List Given → Result Value Fault
value_of_call history p Abs ts time gs = function_at p (abs_of (elements_given gs 0))
value_of_call history p Ceil ts time gs = function_at p (ceils_of (elements_given gs 0))
value_of_call history p Floor ts time gs = function_at p (floors_of (elements_given gs 0))
value_of_call history p Sgn ts time gs = function_at p (signs_of (elements_given gs 0))
value_of_call history p Round ts time gs = function_at p (rounded_all (number_or (whole_of (pos 1)) gs 1) (elements_given gs 0))
value_of_call history p Clamp ts time gs = function_at p (clamped (number_given gs 1) (number_given gs 2) (elements_given gs 0))
value_of_call history p ClampMin ts time gs = function_at p (clamped_min (number_given gs 1) (elements_given gs 0))
value_of_call history p ClampMax ts time gs = function_at p (clamped_max (number_given gs 1) (elements_given gs 0))
value_of_call history p Time ts time gs = Ok (value.Scalar (seconds_of time))
value_of_call history p Vector ts time gs = vector_at (element [] (number_given gs 0) ∷ [])
value_of_call history p Scalar ts time gs = Ok (value.Scalar (scalar_of (elements_given gs 0)))
value_of_call history p Timestamp ts time gs = function_at p (timestamps history ts time (elements_given gs 0))
value_of_call history p Absent ts time gs = vector_at (absent_of (labels_of_argument ts) (elements_given gs 0))
value_of_call history p AbsentOverTime ts time gs = absent_given p ts (ranges_given gs 0)
value_of_call history p Minute ts time gs = function_at p (calendars part.Minute time gs)
value_of_call history p Hour ts time gs = function_at p (calendars part.Hour time gs)
value_of_call history p DayOfWeek ts time gs = function_at p (calendars part.DayOfWeek time gs)
value_of_call history p DayOfMonth ts time gs = function_at p (calendars part.DayOfMonth time gs)
value_of_call history p DayOfYear ts time gs = function_at p (calendars part.DayOfYear time gs)
value_of_call history p DaysInMonth ts time gs = function_at p (calendars part.DaysInMonth time gs)
value_of_call history p Month ts time gs = function_at p (calendars part.Month time gs)
value_of_call history p Year ts time gs = function_at p (calendars part.Year time gs)
value_of_call history p LabelReplace ts time gs =
    function_at p (label_replaced (content_at ts 1) (content_at ts 3) (λ text. expanded (content_at ts 4) text (content_at ts 2)) (elements_given gs 0))
value_of_call history p LabelJoin ts time gs = function_at p (label_joined (content_at ts 1) (content_at ts 2) (drop 3 (contents ts)) (elements_given gs 0))
value_of_call history p HistogramQuantile ts time gs = function_at p (histogram_quantiles (number_given gs 0) (elements_given gs 1))
value_of_call history p Rate ts time gs = over_given p range.Rate None (ranges_given gs 0)
value_of_call history p Increase ts time gs = over_given p range.Increase None (ranges_given gs 0)
value_of_call history p Delta ts time gs = over_given p range.Delta None (ranges_given gs 0)
value_of_call history p Irate ts time gs = over_given p range.Irate None (ranges_given gs 0)
value_of_call history p Idelta ts time gs = over_given p range.Idelta None (ranges_given gs 0)
value_of_call history p Deriv ts time gs = over_given p range.Deriv None (ranges_given gs 0)
value_of_call history p PredictLinear ts time gs = over_given p range.PredictLinear (Some (number_given gs 1)) (ranges_given gs 0)
value_of_call history p Changes ts time gs = over_given p range.Changes None (ranges_given gs 0)
value_of_call history p Resets ts time gs = over_given p range.Resets None (ranges_given gs 0)
value_of_call history p SumOverTime ts time gs = over_given p range.SumOverTime None (ranges_given gs 0)
value_of_call history p AvgOverTime ts time gs = over_given p range.AvgOverTime None (ranges_given gs 0)
value_of_call history p MinOverTime ts time gs = over_given p range.MinOverTime None (ranges_given gs 0)
value_of_call history p MaxOverTime ts time gs = over_given p range.MaxOverTime None (ranges_given gs 0)
value_of_call history p CountOverTime ts time gs = over_given p range.CountOverTime None (ranges_given gs 0)
value_of_call history p LastOverTime ts time gs = over_given p range.LastOverTime None (ranges_given gs 0)
value_of_call history p PresentOverTime ts time gs = over_given p range.PresentOverTime None (ranges_given gs 0)
value_of_call history p QuantileOverTime ts time gs = over_given p range.QuantileOverTime (Some (number_given gs 0)) (ranges_given gs 1)
