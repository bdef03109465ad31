-- What a function gives over the series of a subquery.
use Rattle.std.proofs.Common.{◌≡◌, List, None, ap, sym, ◌∙◌}
use Rattle.std.specs.BTreeMap.{BTreeMap}
use Rattle.pr_labels.specs.declared.pair.Pair.{Pair}
use Rattle.pr_range.specs.spec_history.declared.spot.Spot.{Spot}
use Rattle.pr_ast.specs.declared.place.Place.{Place}
use Rattle.pr_range.specs.spec_vectors.declared.range.RangeFn.TheVariants.{PresentOverTime}
use Rattle.pr_range.specs.spec_vectors.Functions.{told_apart}
use Rattle.spec_meaning.specs.Absence.{absent_of}
use Rattle.spec_meaning.specs.Answers.{function_at, go_on}
use Rattle.spec_meaning.specs.Calls.{vector_at}
use Rattle.spec_meaning.specs.RangeCalls.{answers_over, over_ranges, question}
use Rattle.spec_meaning.specs.Subqueries.{Taken}
use Rattle.pr_eval.specs.declared.range_calls.call.RangeCall.{RangeCall}
use Rattle.pr_eval.specs.declared.range_calls.of_subquery.SubqueryRange.{SubqueryRange}
use Rattle.pr_eval.specs.private.Answering.{elements_of, relabelled, fault_placed}
use Rattle.pr_eval.specs.private.Taken.{AreTaken, ranged_of, series_in}
use Rattle.pr_eval.proofs.Named.{after_answers_is, over_is}
use Rattle.pr_eval.proofs.SeriesGathered.{series_taken_are}

pub subquery_is : (call : RangeCall) (range : SubqueryRange) (ts : List Taken) (m : BTreeMap (List Pair) (List Spot)) → AreTaken ts m → over_ranges call.place call.func call.arg (ranged_of range ts)
    ≡ go_on (λ items. function_at call.place (told_apart (relabelled call.func items))) (fault_placed call.place range.place (elements_of (question call.func call.arg (ranged_of range ts)) (series_in m)))
subquery_is call range ts m h =
    over_is call.place call.func call.arg (ranged_of range ts)
    ∙ ap (λ l. go_on (λ items. function_at call.place (told_apart (relabelled call.func items))) (fault_placed call.place range.place (elements_of (question call.func call.arg (ranged_of range ts)) l))) (sym (series_taken_are ts m h))

pub absent_subquery_is : (labels : List Pair) (p : Place) (range : SubqueryRange) (ts : List Taken) (m : BTreeMap (List Pair) (List Spot)) → AreTaken ts m → let r = ranged_of range ts in
    go_on (λ items. vector_at (absent_of labels items)) (answers_over p r.place (question PresentOverTime None r) r.series)
    ≡ go_on (λ items. vector_at (absent_of labels (relabelled PresentOverTime items))) (fault_placed p range.place (elements_of (question PresentOverTime None r) (series_in m)))
absent_subquery_is labels p range ts m h =
    let r = ranged_of range ts in
    after_answers_is (λ items. vector_at (absent_of labels items)) p (question PresentOverTime None r) r.place r.series
    ∙ ap (λ l. go_on (λ items. vector_at (absent_of labels (relabelled PresentOverTime items))) (fault_placed p range.place (elements_of (question PresentOverTime None r) l))) (sym (series_taken_are ts m h))
