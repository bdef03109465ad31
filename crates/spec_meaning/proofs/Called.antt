-- What calls and aggregations give is a vector, or a scalar, where what they are given is.
use Rattle.std.proofs.Common.{◌≡◌, ℕ, pos, drop, List, [], ◌∷◌, map, filter, slice_get, Option, Some, None, unwrap_or, Result, Ok, Err, IfOk, refl}
use Rattle.std.specs.Option.{option_map}
use Rattle.pr_num.specs.declared.value.Num.{Num}
use Rattle.pr_num.specs.declared.value.TooWide.{TooWide}
use Rattle.pr_ast.specs.pr_labels.declared.grouping.Grouping.{Grouping}
use Rattle.pr_ast.specs.pr_labels.declared.item.Item.{Item}
use Rattle.spec_vectors.specs.spec_history.declared.entry.Entry.{Entry}
use Rattle.pr_ast.specs.declared.place.Place.{Place}
use Rattle.pr_ast.specs.declared.names.AggOp.{AggOp}
use Rattle.pr_ast.specs.declared.names.AggOp.TheVariants as agg
use Rattle.pr_ast.specs.declared.names.Func.{Func}
use Rattle.pr_ast.specs.declared.names.Func.TheVariants as func
use Rattle.pr_ast.specs.declared.selector.Selector.{Selector}
use Rattle.pr_ast.specs.Tree.{Tree}
use Rattle.spec_vectors.specs.declared.part.Part.TheVariants as part
use Rattle.spec_vectors.specs.declared.range.RangeFn.{RangeFn}
use Rattle.spec_vectors.specs.declared.range.RangeFn.TheVariants as range_fn
use Rattle.pr_match.specs.Pattern.{expanded}
use Rattle.pr_num.specs.Arithmetic.{absolute, whole_of}
use Rattle.pr_num.specs.Multiples.{ceil_of, floor_of, rounded_to}
use Rattle.pr_types.specs.Typed.{content_at, contents}
use Rattle.spec_vectors.specs.Calendar.{calendar_of}
use Rattle.spec_vectors.specs.LabelFunctions.{with_expansion, with_joined}
use Rattle.spec_vectors.specs.Aggregation.{of_groups, always, count_of_values, greatest_first, greatest_of_values, is_within, least_first, least_of_values, mean_of_values, one_of_values, quantile_of_values, rank, sum_of_values}
use Rattle.spec_meaning.specs.Selection.{selected_spots}
use Rattle.spec_vectors.specs.Functions.{ValueFunction, at_least, at_most, clamped, mapped, sign_of, told_apart}
use Rattle.spec_vectors.specs.Histogram.{buckets_in, histogram_labels, histogram_quantiles, histogram_value, histograms, is_bucket}
use Rattle.spec_vectors.specs.private.Laws.{IsVector}
use Rattle.pr_ast.proofs.LabelsLabelOrder.{rising_fold}
use Rattle.spec_vectors.proofs.Aggregation.{aggregated_is_vector, counted_is_vector}
use Rattle.spec_vectors.proofs.FunctionAnswers.{apart_vector, clamped_vector, mapped_vector, rising_answer}
use Rattle.spec_vectors.proofs.Vectors.{vector_filter}
use Rattle.spec_meaning.specs.declared.fault.Fault.{Fault}
use Rattle.spec_meaning.specs.declared.value.Value.{Value}
use Rattle.spec_meaning.specs.declared.value.Value.TheVariants.{Scalar, Vector}
use Rattle.spec_meaning.specs.private.Laws.{IsAnswer}
use Rattle.spec_meaning.specs.Answers.{function_at, go_on}
use Rattle.spec_meaning.specs.Absence.{absent_of, labels_of_argument}
use Rattle.spec_meaning.specs.Aggregations.{aggregated_at, summed_up}
use Rattle.spec_meaning.specs.Calls.{absent_given, value_of_call, instants, seconds_of, selector_argument, stamped, vector_at, with_time}
use Rattle.spec_meaning.specs.Given.{Given, Ranged, elements_given, elements_in, number_given, number_or, ranges_given}
use Rattle.spec_meaning.specs.RangeCalls.{answers_over, over_given, question}
use Rattle.spec_meaning.proofs.Vectors.{function_answer}

-- what is given is in label order
abbrev pub AreAnswers : List Given → Type 0
AreAnswers gs = (i : ℕ) (g : Given) → slice_get gs i ≡ Some g → IsAnswer g.value

elements_vector : (v : Value) → IsAnswer v → IsVector (elements_in v)
elements_vector (Scalar v) h = tt
elements_vector (Vector items) h = h

given_vector : (gs : List Given) (i : ℕ) → AreAnswers gs → IsVector (elements_given gs i)
given_vector gs i h = by (slice_get gs i) (h i) where
  by : (o : Option Given) → ((g : Given) → o ≡ Some g → IsAnswer g.value) → IsVector (unwrap_or (option_map (λ g. elements_in g.value) o) [])
  by None k = tt
  by (Some g) k = elements_vector g.value (k g refl)

-- aggregations
aggregated_answer : (p : Place) (r : Result (List (Item Num)) TooWide) → IfOk r IsVector → IfOk (aggregated_at p r) IsAnswer
aggregated_answer p (Ok items) h = h
aggregated_answer p (Err e) h = tt

by_values : (p : Place) (f : List Num → Result Num TooWide) (by : Grouping) (items : List (Item Num)) → IfOk (aggregated_at p (of_groups f by items)) IsAnswer
by_values p f by items = aggregated_answer p (of_groups f by items) (aggregated_is_vector f by items)

pub summed_answer : (p : Place) (o : AggOp) (by : Grouping) (ts : Tree) (gs : List Given) → AreAnswers gs → IfOk (summed_up p o by ts gs) IsAnswer
summed_answer p agg.Sum by ts gs h = by_values p sum_of_values by (elements_given gs 0)
summed_answer p agg.Avg by ts gs h = by_values p (always mean_of_values) by (elements_given gs 0)
summed_answer p agg.Min by ts gs h = by_values p (always least_of_values) by (elements_given gs 0)
summed_answer p agg.Max by ts gs h = by_values p (always greatest_of_values) by (elements_given gs 0)
summed_answer p agg.Count by ts gs h = by_values p (always count_of_values) by (elements_given gs 0)
summed_answer p agg.Group by ts gs h = by_values p (always one_of_values) by (elements_given gs 0)
summed_answer p agg.TopK by ts gs h = vector_filter (λ e. is_within (number_given gs 0) (rank greatest_first by (elements_given gs 1) e)) (elements_given gs 1) (given_vector gs 1 h)
summed_answer p agg.BottomK by ts gs h = vector_filter (λ e. is_within (number_given gs 0) (rank least_first by (elements_given gs 1) e)) (elements_given gs 1) (given_vector gs 1 h)
summed_answer p agg.Quantile by ts gs h = by_values p (always (quantile_of_values (number_given gs 0))) by (elements_given gs 1)
summed_answer p agg.CountValues by ts gs h = counted_is_vector (content_at ts 0) by (elements_given gs 1)

-- functions of vectors
by_function : (p : Place) (f : ValueFunction) (items : List (Item Num)) → IfOk (function_at p (mapped f items)) IsAnswer
by_function p f items = function_answer p (mapped f items) (mapped_vector f items)

by_labels : (p : Place) (items : List (Item Num)) → IfOk (function_at p (told_apart items)) IsAnswer
by_labels p items = function_answer p (told_apart items) (apart_vector items)

stamped_answer : (p : Place) (history : List Entry) (time : ℕ) (items : List (Item Num)) (o : Option Selector) → IfOk (function_at p (stamped history time items o)) IsAnswer
stamped_answer p history time items None = by_function p (λ v. Ok (seconds_of time)) items
stamped_answer p history time items (Some s) = by_labels p (map with_time (selected_spots history s time))

quantiles_vector : (phi : Num) (items : List (Item Num)) → IfOk (histogram_quantiles phi items) IsVector
quantiles_vector phi items =
    rising_answer (λ labels. histogram_value phi (buckets_in labels items)) (histograms items) (rising_fold [] (map histogram_labels (filter is_bucket items)) tt)

absent_vector : (ts : Tree) (items : List (Item Num)) → IsVector (absent_of (labels_of_argument ts) items)
absent_vector ts [] = (tt, tt)
absent_vector ts (e ∷ items) = tt

-- functions of ranges
over_answer : (p : Place) (f : RangeFn) (arg : Option Num) (o : Option Ranged) → IfOk (over_given p f arg o) IsAnswer
over_answer p f arg None = tt
over_answer p f arg (Some r) = by (answers_over p r.place (question f arg r) r.series) where
  by : (a : Result (List (Item Num)) Fault) → IfOk (go_on (λ items. function_at p (told_apart items)) a) IsAnswer
  by (Ok items) = by_labels p items
  by (Err e) = tt

absent_answer : (p : Place) (ts : Tree) (o : Option Ranged) → IfOk (absent_given p ts o) IsAnswer
absent_answer p ts None = tt
absent_answer p ts (Some r) = by (answers_over p r.place (question range_fn.PresentOverTime None r) r.series) where
  by : (a : Result (List (Item Num)) Fault) → IfOk (go_on (λ items. vector_at (absent_of (labels_of_argument ts) items)) a) IsAnswer
  by (Ok items) = absent_vector ts items
  by (Err e) = tt

-- a call
pub called_answer : (history : List Entry) (p : Place) (f : Func) (ts : Tree) (time : ℕ) (gs : List Given) → AreAnswers gs → IfOk (value_of_call history p f ts time gs) IsAnswer
called_answer history p func.Abs ts time gs h = by_function p (λ v. Ok (absolute v)) (elements_given gs 0)
called_answer history p func.Ceil ts time gs h = by_function p ceil_of (elements_given gs 0)
called_answer history p func.Floor ts time gs h = by_function p floor_of (elements_given gs 0)
called_answer history p func.Sgn ts time gs h = by_function p (λ v. Ok (sign_of v)) (elements_given gs 0)
called_answer history p func.Round ts time gs h = by_function p (λ v. rounded_to v (number_or (whole_of (pos 1)) gs 1)) (elements_given gs 0)
called_answer history p func.ClampMin ts time gs h = by_function p (λ v. Ok (at_least (number_given gs 1) v)) (elements_given gs 0)
called_answer history p func.ClampMax ts time gs h = by_function p (λ v. Ok (at_most (number_given gs 1) v)) (elements_given gs 0)
called_answer history p func.Clamp ts time gs h = function_answer p (clamped (number_given gs 1) (number_given gs 2) (elements_given gs 0)) (clamped_vector (number_given gs 1) (number_given gs 2) (elements_given gs 0))
called_answer history p func.Time ts time gs h = tt
called_answer history p func.Vector ts time gs h = (tt, tt)
called_answer history p func.Scalar ts time gs h = tt
called_answer history p func.Timestamp ts time gs h = stamped_answer p history time (elements_given gs 0) (selector_argument ts)
called_answer history p func.Absent ts time gs h = absent_vector ts (elements_given gs 0)
called_answer history p func.AbsentOverTime ts time gs h = absent_answer p ts (ranges_given gs 0)
called_answer history p func.Minute ts time gs h = by_function p (λ v. Ok (calendar_of part.Minute v)) (instants time gs)
called_answer history p func.Hour ts time gs h = by_function p (λ v. Ok (calendar_of part.Hour v)) (instants time gs)
called_answer history p func.DayOfWeek ts time gs h = by_function p (λ v. Ok (calendar_of part.DayOfWeek v)) (instants time gs)
called_answer history p func.DayOfMonth ts time gs h = by_function p (λ v. Ok (calendar_of part.DayOfMonth v)) (instants time gs)
called_answer history p func.DayOfYear ts time gs h = by_function p (λ v. Ok (calendar_of part.DayOfYear v)) (instants time gs)
called_answer history p func.DaysInMonth ts time gs h = by_function p (λ v. Ok (calendar_of part.DaysInMonth v)) (instants time gs)
called_answer history p func.Month ts time gs h = by_function p (λ v. Ok (calendar_of part.Month v)) (instants time gs)
called_answer history p func.Year ts time gs h = by_function p (λ v. Ok (calendar_of part.Year v)) (instants time gs)
called_answer history p func.LabelReplace ts time gs h = by_labels p (map (with_expansion (content_at ts 1) (content_at ts 3) (λ text. expanded (content_at ts 4) text (content_at ts 2))) (elements_given gs 0))
called_answer history p func.LabelJoin ts time gs h = by_labels p (map (with_joined (content_at ts 1) (content_at ts 2) (drop 3 (contents ts))) (elements_given gs 0))
called_answer history p func.HistogramQuantile ts time gs h = function_answer p (histogram_quantiles (number_given gs 0) (elements_given gs 1)) (quantiles_vector (number_given gs 0) (elements_given gs 1))
called_answer history p func.Rate ts time gs h = over_answer p range_fn.Rate None (ranges_given gs 0)
called_answer history p func.Increase ts time gs h = over_answer p range_fn.Increase None (ranges_given gs 0)
called_answer history p func.Delta ts time gs h = over_answer p range_fn.Delta None (ranges_given gs 0)
called_answer history p func.Irate ts time gs h = over_answer p range_fn.Irate None (ranges_given gs 0)
called_answer history p func.Idelta ts time gs h = over_answer p range_fn.Idelta None (ranges_given gs 0)
called_answer history p func.Deriv ts time gs h = over_answer p range_fn.Deriv None (ranges_given gs 0)
called_answer history p func.Changes ts time gs h = over_answer p range_fn.Changes None (ranges_given gs 0)
called_answer history p func.Resets ts time gs h = over_answer p range_fn.Resets None (ranges_given gs 0)
called_answer history p func.SumOverTime ts time gs h = over_answer p range_fn.SumOverTime None (ranges_given gs 0)
called_answer history p func.AvgOverTime ts time gs h = over_answer p range_fn.AvgOverTime None (ranges_given gs 0)
called_answer history p func.MinOverTime ts time gs h = over_answer p range_fn.MinOverTime None (ranges_given gs 0)
called_answer history p func.MaxOverTime ts time gs h = over_answer p range_fn.MaxOverTime None (ranges_given gs 0)
called_answer history p func.CountOverTime ts time gs h = over_answer p range_fn.CountOverTime None (ranges_given gs 0)
called_answer history p func.LastOverTime ts time gs h = over_answer p range_fn.LastOverTime None (ranges_given gs 0)
called_answer history p func.PresentOverTime ts time gs h = over_answer p range_fn.PresentOverTime None (ranges_given gs 0)
called_answer history p func.PredictLinear ts time gs h = over_answer p range_fn.PredictLinear (Some (number_given gs 1)) (ranges_given gs 0)
called_answer history p func.QuantileOverTime ts time gs h = over_answer p range_fn.QuantileOverTime (Some (number_given gs 0)) (ranges_given gs 1)
