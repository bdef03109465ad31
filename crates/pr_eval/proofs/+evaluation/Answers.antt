use Rattle.std.proofs.lemmas.Option.{slice_get-get_or}
use Rattle.std.proofs.Common.{◌≡◌, ◌+◌, ◌<◌, length, [], ◌∷◌, take, Some, None, Result, Ok, Err, ◌∙◌, sym, ap, subst, refl, arith, ◌++◌, ◌≤◌, sum_by}
use Rattle.pr_ast.specs.declared.names.Func.TheVariants.{PredictLinear}
use Rattle.pr_ast.specs.Tree.{call, more, none, tree_of, trees_of}
use Rattle.pr_ast.proofs.Args.{trees_of-next}
use Rattle.spec_meaning.specs.pr_types.declared.counting.SelectorCounts.{SelectorCounts}
use Rattle.spec_meaning.specs.pr_types.private.Built.{own_patterns}
use Rattle.spec_meaning.specs.pr_types.private.Numbers.{ranges_in}
use Rattle.pr_range.specs.spec_vectors.declared.range.RangeFn.TheVariants.{PredictLinear as Predict, PresentOverTime}
use Rattle.spec_meaning.specs.declared.value.Value.{Value}
use Rattle.spec_meaning.specs.Aggregations.{summed_up}
use Rattle.spec_meaning.specs.Calls.{value_of_call}
use Rattle.spec_meaning.specs.Meaning.{given, meaning, operands, ranges, ranges as series_meant}
use Rattle.spec_meaning.specs.Operations.{negated_value, operated}
use Rattle.spec_meaning.specs.Answers.{go_on, fault}
use Rattle.pr_eval.specs.declared.values.error.EvalError.{EvalError}
use Rattle.pr_eval.specs.declared.values.error.EvalError.TheVariants as error
use Rattle.pr_eval.specs.private.Answers.{AnswersTo}
use Rattle.pr_eval.specs.private.Plain.{all_plain}
use Rattle.pr_eval.specs.private.Asking.{asked_for}
use Rattle.pr_eval.specs.private.Evaluated.{IsEvaluated, MayTake, kept_by}
use Rattle.pr_eval.specs.private.Parts.{counts_after}
use Rattle.pr_eval.specs.private.Ranged.{call_in, made_of, prediction_by, quantile_by, use_alone, AreSeries}
use Rattle.pr_eval.proofs.Answering.{both_give, ends, ends_right, gives}
use Rattle.pr_eval.proofs.Fronts.{all_args, args_may, args_part, args_taken}
use Rattle.pr_eval.proofs.Operands.{aggregate_one, aggregate_two, call_ends, call_gives, operands_end, out_of_memory, plain_given}
use Rattle.pr_eval.proofs.RangeCalls.{call_alone, call_before, call_behind, predicted, scalar_ends, scalar_valued, series_are, series_end, use_func}
use Rattle.pr_eval.proofs.Trees.{counts_of_none, counts_of_two, more_of, second_part}
use Rattle.pr_eval.proofs.Taking.{first_may, first_may_follow, number_taken, one_taken, part_may, part_taken, part_taken_as, part_taken_fault, second_ends, second_may, second_may_begin, selector_taken, stamps_taken, text_taken, took_as, took_fault, took_nothing, turned_taken, two_taken, two_taken_as}
use Rattle.pr_eval.proofs.+evaluation.Goals as goal
use Rattle.pr_eval.proofs.NoRange.{range_unvalued, sub_unvalued}
use Rattle.pr_eval.proofs.Sizes.{argument_smaller}
use Rattle.pr_eval.proofs.Inside.{inside_may, inside_taken, same_all}
use Rattle.std.proofs.lemmas.List.{take_all}
use Rattle.spec_meaning.specs.private.Cost.{cost, nothing_passed}
use Rattle.spec_meaning.specs.Given.{elements_in}
use Rattle.spec_meaning.specs.Subqueries.{at_each}
use Rattle.pr_eval.specs.private.Taken.{taken}
use Rattle.pr_eval.proofs.EachTime.{each_more}
use Rattle.pr_eval.proofs.Gathering.{each_fails, last_taken, last_taken_as, more_taken}
use Rattle.pr_range.specs.spec_vectors.Ranges.{longest}
use Rattle.spec_meaning.specs.declared.fault.FaultKind.TheVariants as kind
use Rattle.pr_eval.proofs.Subqueries.{counts_of_sub, each_may, each_taken, fault_given, fault_taken, inner_part, none_taken, series_given, step_given, taken_as, times_same, too_many}

pub evaluate::eval_at-returns-in-Number-clause-taken : goal.evaluate::eval_at-returns-in-Number-clause-taken
evaluate::eval_at-returns-in-Number-clause-taken g t c = λ history func may.
    let scope = c.args.scope.now in
    let n = c.args.number.now.ranges in
    let now = tree_of c.args.e.now in
    let before = kept_by (g.R.Ranges.last c.args.ranges.now) (g.R.Ranges.passed c.args.ranges.now) in
    let Fits = g.R.Ranges.fits c.args.ranges.now history in
    number_taken g.R.Ranges.keeps scope.inside scope.step history func now _ _ scope.time n before Fits c.args.reads.now _ c.lemma_is_number.ensures.tree may.fits

pub evaluate::eval_at-returns-in-Text-clause-taken : goal.evaluate::eval_at-returns-in-Text-clause-taken
evaluate::eval_at-returns-in-Text-clause-taken g t c = λ history func may.
    let scope = c.args.scope.now in
    let n = c.args.number.now.ranges in
    let now = tree_of c.args.e.now in
    let before = kept_by (g.R.Ranges.last c.args.ranges.now) (g.R.Ranges.passed c.args.ranges.now) in
    let Fits = g.R.Ranges.fits c.args.ranges.now history in
    text_taken g.R.Ranges.keeps scope.inside scope.step history func now _ _ scope.time n before Fits c.args.reads.now _ c.lemma_is_text.ensures.tree may.fits

pub evaluate::eval_at-returns-in-Select-clause-answer : goal.evaluate::eval_at-returns-in-Select-clause-answer
evaluate::eval_at-returns-in-Select-clause-answer g t c = λ history func may.
    c.selected.ensures.answer history may.keeps

pub evaluate::eval_at-returns-in-Select-clause-taken : goal.evaluate::eval_at-returns-in-Select-clause-taken
evaluate::eval_at-returns-in-Select-clause-taken g t c = λ history func may.
    let scope = c.args.scope.now in
    let n = c.args.number.now.ranges in
    let now = tree_of c.args.e.now in
    let before = kept_by (g.R.Ranges.last c.args.ranges.now) (g.R.Ranges.passed c.args.ranges.now) in
    let Fits = g.R.Ranges.fits c.args.ranges.now history in
    selector_taken g.R.Ranges.keeps scope.inside scope.step history func now _ _ scope.time n before Fits c.args.reads.now c.selected.new.reads c.selected.result c.selected.ensures.tree may.fits (c.selected.ensures.reads history may.keeps.holds)

pub operators::negation-returns-in-Ok-clause-answer : goal.operators::negation-returns-in-Ok-clause-answer
operators::negation-returns-in-Ok-clause-answer g t c = λ history func may.
    let scope = c.args.scope.now in
    let n = c.args.number.now.ranges in
    let now = tree_of c.args.e.now in
    let before = kept_by (g.R.Ranges.last c.args.ranges.now) (g.R.Ranges.passed c.args.ranges.now) in
    let Fits = g.R.Ranges.fits c.args.ranges.now history in
    let inner = tree_of c.args.inner.now in
    let after = kept_by (g.R.Ranges.last c.eval_at.new.ranges) (g.R.Ranges.passed c.eval_at.new.ranges) in
    let Fits' = g.R.Ranges.fits c.eval_at.new.ranges history in
    let next = negated_value c.args.e.now.place in
    let inner_may = part_may g.R.Ranges.keeps scope.inside scope.step history func now inner [] (λ f. f) c.lemma_is_neg.ensures.one n scope.time scope.head.now before Fits may in
    subst (λ u. AnswersTo (meaning scope.step history u scope.time) c.negated_value.result) (sym c.lemma_is_neg.ensures.tree)
    (gives next (meaning scope.step history inner scope.time) c.in-Ok.value c.negated_value.result (c.in-Ok.ensures.answer history func inner_may) c.negated_value.ensures.answer)

pub operators::negation-returns-in-Ok-clause-taken : goal.operators::negation-returns-in-Ok-clause-taken
operators::negation-returns-in-Ok-clause-taken g t c = λ history func may.
    let scope = c.args.scope.now in
    let n = c.args.number.now.ranges in
    let now = tree_of c.args.e.now in
    let before = kept_by (g.R.Ranges.last c.args.ranges.now) (g.R.Ranges.passed c.args.ranges.now) in
    let Fits = g.R.Ranges.fits c.args.ranges.now history in
    let inner = tree_of c.args.inner.now in
    let after = kept_by (g.R.Ranges.last c.eval_at.new.ranges) (g.R.Ranges.passed c.eval_at.new.ranges) in
    let Fits' = g.R.Ranges.fits c.eval_at.new.ranges history in
    let next = negated_value c.args.e.now.place in
    let inner_may = part_may g.R.Ranges.keeps scope.inside scope.step history func now inner [] (λ f. f) c.lemma_is_neg.ensures.one n scope.time scope.head.now before Fits may in
    part_taken_as g.R.Ranges.keeps scope.inside scope.step history func now inner [] (λ f. f) c.lemma_is_neg.ensures.one n scope.time before after Fits' c.args.reads.now c.eval_at.new.reads c.in-Ok.value c.negated_value.result (c.in-Ok.ensures.taken history func inner_may)

pub operators::negation-returns-in-Err-clause-answer : goal.operators::negation-returns-in-Err-clause-answer
operators::negation-returns-in-Err-clause-answer g t c = λ history func may.
    let scope = c.args.scope.now in
    let n = c.args.number.now.ranges in
    let now = tree_of c.args.e.now in
    let before = kept_by (g.R.Ranges.last c.args.ranges.now) (g.R.Ranges.passed c.args.ranges.now) in
    let Fits = g.R.Ranges.fits c.args.ranges.now history in
    let inner = tree_of c.args.inner.now in
    let after = kept_by (g.R.Ranges.last c.eval_at.new.ranges) (g.R.Ranges.passed c.eval_at.new.ranges) in
    let Fits' = g.R.Ranges.fits c.eval_at.new.ranges history in
    let next = negated_value c.args.e.now.place in
    let inner_may = part_may g.R.Ranges.keeps scope.inside scope.step history func now inner [] (λ f. f) c.lemma_is_neg.ensures.one n scope.time scope.head.now before Fits may in
    subst (λ u. AnswersTo (meaning scope.step history u scope.time) (Err c.in-Err.error)) (sym c.lemma_is_neg.ensures.tree)
    (ends next (meaning scope.step history inner scope.time) c.in-Err.error (c.in-Err.ensures.answer history func inner_may))

pub operators::negation-returns-in-Err-clause-taken : goal.operators::negation-returns-in-Err-clause-taken
operators::negation-returns-in-Err-clause-taken g t c = λ history func may.
    let scope = c.args.scope.now in
    let n = c.args.number.now.ranges in
    let now = tree_of c.args.e.now in
    let before = kept_by (g.R.Ranges.last c.args.ranges.now) (g.R.Ranges.passed c.args.ranges.now) in
    let Fits = g.R.Ranges.fits c.args.ranges.now history in
    let inner = tree_of c.args.inner.now in
    let after = kept_by (g.R.Ranges.last c.eval_at.new.ranges) (g.R.Ranges.passed c.eval_at.new.ranges) in
    let Fits' = g.R.Ranges.fits c.eval_at.new.ranges history in
    let next = negated_value c.args.e.now.place in
    let inner_may = part_may g.R.Ranges.keeps scope.inside scope.step history func now inner [] (λ f. f) c.lemma_is_neg.ensures.one n scope.time scope.head.now before Fits may in
    part_taken g.R.Ranges.keeps scope.inside scope.step history func now inner [] (λ f. f) c.lemma_is_neg.ensures.one n scope.time before after Fits' c.args.reads.now c.eval_at.new.reads (Err c.in-Err.error) (c.in-Err.ensures.taken history func inner_may)

pub aggregate::aggregation-returns-in-Ok-clause-answer : goal.aggregate::aggregation-returns-in-Ok-clause-answer
aggregate::aggregation-returns-in-Ok-clause-answer g t c = λ history func may.
    let scope = c.args.scope.now in
    let n = c.args.number.now.ranges in
    let now = tree_of c.args.e.now in
    let before = kept_by (g.R.Ranges.last c.args.ranges.now) (g.R.Ranges.passed c.args.ranges.now) in
    let Fits = g.R.Ranges.fits c.args.ranges.now history in
    let inner = tree_of c.args.inner.now in
    let after = kept_by (g.R.Ranges.last c.eval_at.new.ranges) (g.R.Ranges.passed c.eval_at.new.ranges) in
    let Fits' = g.R.Ranges.fits c.eval_at.new.ranges history in
    let next = λ (v : Value). summed_up c.args.e.now.place c.args.op c.args.by.now (more none inner) (given None v ∷ []) in
    let inner_may = part_may g.R.Ranges.keeps scope.inside scope.step history func now inner [] (λ f. f) c.lemma_is_aggregate.ensures.one n scope.time scope.head.now before Fits may in
    subst (λ u. AnswersTo (meaning scope.step history u scope.time) c.aggregated_one.result) (sym c.lemma_is_aggregate.ensures.tree)
    (subst (λ m. AnswersTo m c.aggregated_one.result) (sym (aggregate_one scope.step history inner scope.time (summed_up c.args.e.now.place c.args.op c.args.by.now (more none inner)) (c.lemma_is_aggregate.ensures.valued c.requires.valued)))
    (gives next (meaning scope.step history inner scope.time) c.in-Ok.vector c.aggregated_one.result (c.in-Ok.ensures.answer history func inner_may) (c.aggregated_one.ensures.answer (more none inner))))

pub aggregate::aggregation-returns-in-Ok-clause-taken : goal.aggregate::aggregation-returns-in-Ok-clause-taken
aggregate::aggregation-returns-in-Ok-clause-taken g t c = λ history func may.
    let scope = c.args.scope.now in
    let n = c.args.number.now.ranges in
    let now = tree_of c.args.e.now in
    let before = kept_by (g.R.Ranges.last c.args.ranges.now) (g.R.Ranges.passed c.args.ranges.now) in
    let Fits = g.R.Ranges.fits c.args.ranges.now history in
    let inner = tree_of c.args.inner.now in
    let after = kept_by (g.R.Ranges.last c.eval_at.new.ranges) (g.R.Ranges.passed c.eval_at.new.ranges) in
    let Fits' = g.R.Ranges.fits c.eval_at.new.ranges history in
    let next = λ (v : Value). summed_up c.args.e.now.place c.args.op c.args.by.now (more none inner) (given None v ∷ []) in
    let inner_may = part_may g.R.Ranges.keeps scope.inside scope.step history func now inner [] (λ f. f) c.lemma_is_aggregate.ensures.one n scope.time scope.head.now before Fits may in
    part_taken_as g.R.Ranges.keeps scope.inside scope.step history func now inner [] (λ f. f) c.lemma_is_aggregate.ensures.one n scope.time before after Fits' c.args.reads.now c.eval_at.new.reads c.in-Ok.vector c.aggregated_one.result (c.in-Ok.ensures.taken history func inner_may)

pub aggregate::aggregation-returns-in-Err-clause-answer : goal.aggregate::aggregation-returns-in-Err-clause-answer
aggregate::aggregation-returns-in-Err-clause-answer g t c = λ history func may.
    let scope = c.args.scope.now in
    let n = c.args.number.now.ranges in
    let now = tree_of c.args.e.now in
    let before = kept_by (g.R.Ranges.last c.args.ranges.now) (g.R.Ranges.passed c.args.ranges.now) in
    let Fits = g.R.Ranges.fits c.args.ranges.now history in
    let inner = tree_of c.args.inner.now in
    let after = kept_by (g.R.Ranges.last c.eval_at.new.ranges) (g.R.Ranges.passed c.eval_at.new.ranges) in
    let Fits' = g.R.Ranges.fits c.eval_at.new.ranges history in
    let next = λ (v : Value). summed_up c.args.e.now.place c.args.op c.args.by.now (more none inner) (given None v ∷ []) in
    let inner_may = part_may g.R.Ranges.keeps scope.inside scope.step history func now inner [] (λ f. f) c.lemma_is_aggregate.ensures.one n scope.time scope.head.now before Fits may in
    subst (λ u. AnswersTo (meaning scope.step history u scope.time) (Err c.in-Err.error)) (sym c.lemma_is_aggregate.ensures.tree)
    (subst (λ m. AnswersTo m (Err c.in-Err.error)) (sym (aggregate_one scope.step history inner scope.time (summed_up c.args.e.now.place c.args.op c.args.by.now (more none inner)) (c.lemma_is_aggregate.ensures.valued c.requires.valued)))
    (ends next (meaning scope.step history inner scope.time) c.in-Err.error (c.in-Err.ensures.answer history func inner_may)))

pub aggregate::aggregation-returns-in-Err-clause-taken : goal.aggregate::aggregation-returns-in-Err-clause-taken
aggregate::aggregation-returns-in-Err-clause-taken g t c = λ history func may.
    let scope = c.args.scope.now in
    let n = c.args.number.now.ranges in
    let now = tree_of c.args.e.now in
    let before = kept_by (g.R.Ranges.last c.args.ranges.now) (g.R.Ranges.passed c.args.ranges.now) in
    let Fits = g.R.Ranges.fits c.args.ranges.now history in
    let inner = tree_of c.args.inner.now in
    let after = kept_by (g.R.Ranges.last c.eval_at.new.ranges) (g.R.Ranges.passed c.eval_at.new.ranges) in
    let Fits' = g.R.Ranges.fits c.eval_at.new.ranges history in
    let next = λ (v : Value). summed_up c.args.e.now.place c.args.op c.args.by.now (more none inner) (given None v ∷ []) in
    let inner_may = part_may g.R.Ranges.keeps scope.inside scope.step history func now inner [] (λ f. f) c.lemma_is_aggregate.ensures.one n scope.time scope.head.now before Fits may in
    part_taken g.R.Ranges.keeps scope.inside scope.step history func now inner [] (λ f. f) c.lemma_is_aggregate.ensures.one n scope.time before after Fits' c.args.reads.now c.eval_at.new.reads (Err c.in-Err.error) (c.in-Err.ensures.taken history func inner_may)

pub operators::operation-returns-in-Err-clause-answer : goal.operators::operation-returns-in-Err-clause-answer
operators::operation-returns-in-Err-clause-answer g t c = λ history func may.
    let scope = c.args.scope.now in
    let n = c.args.number.now.ranges in
    let now = tree_of c.args.e.now in
    let before = kept_by (g.R.Ranges.last c.args.ranges.now) (g.R.Ranges.passed c.args.ranges.now) in
    let Fits = g.R.Ranges.fits c.args.ranges.now history in
    let left = tree_of c.args.left.now in
    let right = tree_of c.args.right.now in
    let between = kept_by (g.R.Ranges.last c.eval_at.new.ranges) (g.R.Ranges.passed c.eval_at.new.ranges) in
    let Fits1 = g.R.Ranges.fits c.eval_at.new.ranges history in
    let m = c.eval_at.new.number.ranges in
    let f = operated c.args.e.now.place c.args.op c.args.with_bool c.args.matching.now in
    let left_meant = meaning scope.step history left scope.time in
    let right_meant = meaning scope.step history right scope.time in
    let left_may = first_may g.R.Ranges.keeps scope.inside scope.step history func now left right c.lemma_is_binary.ensures.two n (n + ranges_in left) scope.time refl scope.head.now before Fits may in
    subst (λ u. AnswersTo (meaning scope.step history u scope.time) (Err c.in-Err.error)) (sym c.lemma_is_binary.ensures.tree)
    (ends (λ v. go_on (f v) right_meant) left_meant c.in-Err.error (c.in-Err.ensures.answer history func left_may))

pub operators::operation-returns-in-Err-clause-taken : goal.operators::operation-returns-in-Err-clause-taken
operators::operation-returns-in-Err-clause-taken g t c = λ history func may.
    let scope = c.args.scope.now in
    let n = c.args.number.now.ranges in
    let now = tree_of c.args.e.now in
    let before = kept_by (g.R.Ranges.last c.args.ranges.now) (g.R.Ranges.passed c.args.ranges.now) in
    let Fits = g.R.Ranges.fits c.args.ranges.now history in
    let left = tree_of c.args.left.now in
    let right = tree_of c.args.right.now in
    let between = kept_by (g.R.Ranges.last c.eval_at.new.ranges) (g.R.Ranges.passed c.eval_at.new.ranges) in
    let Fits1 = g.R.Ranges.fits c.eval_at.new.ranges history in
    let m = c.eval_at.new.number.ranges in
    let f = operated c.args.e.now.place c.args.op c.args.with_bool c.args.matching.now in
    let left_meant = meaning scope.step history left scope.time in
    let right_meant = meaning scope.step history right scope.time in
    let left_may = first_may g.R.Ranges.keeps scope.inside scope.step history func now left right c.lemma_is_binary.ensures.two n (n + ranges_in left) scope.time refl scope.head.now before Fits may in
    one_taken g.R.Ranges.keeps scope.inside scope.step history func now left right c.lemma_is_binary.ensures.two n (n + ranges_in left) scope.time refl before between Fits1 c.args.reads.now c.eval_at.new.reads c.in-Err.error (c.in-Err.ensures.taken history func left_may)

pub operators::operation-returns-in-Err-eval_at-clause-answer : goal.operators::operation-returns-in-Err-eval_at-clause-answer
operators::operation-returns-in-Err-eval_at-clause-answer g t c = λ history func may.
    let scope = c.args.scope.now in
    let n = c.args.number.now.ranges in
    let now = tree_of c.args.e.now in
    let before = kept_by (g.R.Ranges.last c.args.ranges.now) (g.R.Ranges.passed c.args.ranges.now) in
    let Fits = g.R.Ranges.fits c.args.ranges.now history in
    let left = tree_of c.args.left.now in
    let right = tree_of c.args.right.now in
    let between = kept_by (g.R.Ranges.last c.eval_at.new.ranges) (g.R.Ranges.passed c.eval_at.new.ranges) in
    let Fits1 = g.R.Ranges.fits c.eval_at.new.ranges history in
    let m = c.eval_at.new.number.ranges in
    let f = operated c.args.e.now.place c.args.op c.args.with_bool c.args.matching.now in
    let left_meant = meaning scope.step history left scope.time in
    let right_meant = meaning scope.step history right scope.time in
    let left_may = first_may g.R.Ranges.keeps scope.inside scope.step history func now left right c.lemma_is_binary.ensures.two n (n + ranges_in left) scope.time refl scope.head.now before Fits may in
    let is : m ≡ n + ranges_in left = ap (λ (k : SelectorCounts). k.ranges) c.in-Ok.ensures.count in
    let first = c.in-Ok.ensures.taken history func left_may in
    let right_may = second_may g.R.Ranges.keeps scope.inside scope.step history func now left right c.lemma_is_binary.ensures.two n m scope.time is scope.head.now before between Fits Fits1 c.args.reads.now c.eval_at.new.reads c.in-Ok.a may first in
    let last = kept_by (g.R.Ranges.last c.eval_at-in-Ok.new.ranges) (g.R.Ranges.passed c.eval_at-in-Ok.new.ranges) in
    let Fits2 = g.R.Ranges.fits c.eval_at-in-Ok.new.ranges history in
    subst (λ u. AnswersTo (meaning scope.step history u scope.time) (Err c.in-Err-eval_at.error)) (sym c.lemma_is_binary.ensures.tree)
    (ends_right f left_meant right_meant c.in-Ok.a c.in-Err-eval_at.error (c.in-Ok.ensures.answer history func left_may) (c.in-Err-eval_at.ensures.answer history func right_may))

pub operators::operation-returns-in-Err-eval_at-clause-taken : goal.operators::operation-returns-in-Err-eval_at-clause-taken
operators::operation-returns-in-Err-eval_at-clause-taken g t c = λ history func may.
    let scope = c.args.scope.now in
    let n = c.args.number.now.ranges in
    let now = tree_of c.args.e.now in
    let before = kept_by (g.R.Ranges.last c.args.ranges.now) (g.R.Ranges.passed c.args.ranges.now) in
    let Fits = g.R.Ranges.fits c.args.ranges.now history in
    let left = tree_of c.args.left.now in
    let right = tree_of c.args.right.now in
    let between = kept_by (g.R.Ranges.last c.eval_at.new.ranges) (g.R.Ranges.passed c.eval_at.new.ranges) in
    let Fits1 = g.R.Ranges.fits c.eval_at.new.ranges history in
    let m = c.eval_at.new.number.ranges in
    let f = operated c.args.e.now.place c.args.op c.args.with_bool c.args.matching.now in
    let left_meant = meaning scope.step history left scope.time in
    let right_meant = meaning scope.step history right scope.time in
    let left_may = first_may g.R.Ranges.keeps scope.inside scope.step history func now left right c.lemma_is_binary.ensures.two n (n + ranges_in left) scope.time refl scope.head.now before Fits may in
    let is : m ≡ n + ranges_in left = ap (λ (k : SelectorCounts). k.ranges) c.in-Ok.ensures.count in
    let first = c.in-Ok.ensures.taken history func left_may in
    let right_may = second_may g.R.Ranges.keeps scope.inside scope.step history func now left right c.lemma_is_binary.ensures.two n m scope.time is scope.head.now before between Fits Fits1 c.args.reads.now c.eval_at.new.reads c.in-Ok.a may first in
    let last = kept_by (g.R.Ranges.last c.eval_at-in-Ok.new.ranges) (g.R.Ranges.passed c.eval_at-in-Ok.new.ranges) in
    let Fits2 = g.R.Ranges.fits c.eval_at-in-Ok.new.ranges history in
    two_taken g.R.Ranges.keeps scope.inside scope.step history func now left right c.lemma_is_binary.ensures.two n m scope.time is before between last Fits1 Fits2 c.args.reads.now c.eval_at.new.reads c.eval_at-in-Ok.new.reads c.in-Ok.a (Err c.in-Err-eval_at.error) first (c.in-Err-eval_at.ensures.taken history func right_may)

pub operators::operation-returns-in-Ok-eval_at-clause-answer : goal.operators::operation-returns-in-Ok-eval_at-clause-answer
operators::operation-returns-in-Ok-eval_at-clause-answer g t c = λ history func may.
    let scope = c.args.scope.now in
    let n = c.args.number.now.ranges in
    let now = tree_of c.args.e.now in
    let before = kept_by (g.R.Ranges.last c.args.ranges.now) (g.R.Ranges.passed c.args.ranges.now) in
    let Fits = g.R.Ranges.fits c.args.ranges.now history in
    let left = tree_of c.args.left.now in
    let right = tree_of c.args.right.now in
    let between = kept_by (g.R.Ranges.last c.eval_at.new.ranges) (g.R.Ranges.passed c.eval_at.new.ranges) in
    let Fits1 = g.R.Ranges.fits c.eval_at.new.ranges history in
    let m = c.eval_at.new.number.ranges in
    let f = operated c.args.e.now.place c.args.op c.args.with_bool c.args.matching.now in
    let left_meant = meaning scope.step history left scope.time in
    let right_meant = meaning scope.step history right scope.time in
    let left_may = first_may g.R.Ranges.keeps scope.inside scope.step history func now left right c.lemma_is_binary.ensures.two n (n + ranges_in left) scope.time refl scope.head.now before Fits may in
    let is : m ≡ n + ranges_in left = ap (λ (k : SelectorCounts). k.ranges) c.in-Ok.ensures.count in
    let first = c.in-Ok.ensures.taken history func left_may in
    let right_may = second_may g.R.Ranges.keeps scope.inside scope.step history func now left right c.lemma_is_binary.ensures.two n m scope.time is scope.head.now before between Fits Fits1 c.args.reads.now c.eval_at.new.reads c.in-Ok.a may first in
    let last = kept_by (g.R.Ranges.last c.eval_at-in-Ok.new.ranges) (g.R.Ranges.passed c.eval_at-in-Ok.new.ranges) in
    let Fits2 = g.R.Ranges.fits c.eval_at-in-Ok.new.ranges history in
    subst (λ u. AnswersTo (meaning scope.step history u scope.time) c.operated.result) (sym c.lemma_is_binary.ensures.tree)
    (both_give f left_meant right_meant c.in-Ok.a c.in-Ok-eval_at.b c.operated.result (c.in-Ok.ensures.answer history func left_may) (c.in-Ok-eval_at.ensures.answer history func right_may) c.operated.ensures.answer)

pub operators::operation-returns-in-Ok-eval_at-clause-taken : goal.operators::operation-returns-in-Ok-eval_at-clause-taken
operators::operation-returns-in-Ok-eval_at-clause-taken g t c = λ history func may.
    let scope = c.args.scope.now in
    let n = c.args.number.now.ranges in
    let now = tree_of c.args.e.now in
    let before = kept_by (g.R.Ranges.last c.args.ranges.now) (g.R.Ranges.passed c.args.ranges.now) in
    let Fits = g.R.Ranges.fits c.args.ranges.now history in
    let left = tree_of c.args.left.now in
    let right = tree_of c.args.right.now in
    let between = kept_by (g.R.Ranges.last c.eval_at.new.ranges) (g.R.Ranges.passed c.eval_at.new.ranges) in
    let Fits1 = g.R.Ranges.fits c.eval_at.new.ranges history in
    let m = c.eval_at.new.number.ranges in
    let f = operated c.args.e.now.place c.args.op c.args.with_bool c.args.matching.now in
    let left_meant = meaning scope.step history left scope.time in
    let right_meant = meaning scope.step history right scope.time in
    let left_may = first_may g.R.Ranges.keeps scope.inside scope.step history func now left right c.lemma_is_binary.ensures.two n (n + ranges_in left) scope.time refl scope.head.now before Fits may in
    let is : m ≡ n + ranges_in left = ap (λ (k : SelectorCounts). k.ranges) c.in-Ok.ensures.count in
    let first = c.in-Ok.ensures.taken history func left_may in
    let right_may = second_may g.R.Ranges.keeps scope.inside scope.step history func now left right c.lemma_is_binary.ensures.two n m scope.time is scope.head.now before between Fits Fits1 c.args.reads.now c.eval_at.new.reads c.in-Ok.a may first in
    let last = kept_by (g.R.Ranges.last c.eval_at-in-Ok.new.ranges) (g.R.Ranges.passed c.eval_at-in-Ok.new.ranges) in
    let Fits2 = g.R.Ranges.fits c.eval_at-in-Ok.new.ranges history in
    two_taken_as g.R.Ranges.keeps scope.inside scope.step history func now left right c.lemma_is_binary.ensures.two n m scope.time is before between last Fits1 Fits2 c.args.reads.now c.eval_at.new.reads c.eval_at-in-Ok.new.reads c.in-Ok.a c.in-Ok-eval_at.b c.operated.result first (c.in-Ok-eval_at.ensures.taken history func right_may)

pub aggregate::aggregation_by-returns-in-Err-clause-answer : goal.aggregate::aggregation_by-returns-in-Err-clause-answer
aggregate::aggregation_by-returns-in-Err-clause-answer g t c = λ history func may.
    let scope = c.args.scope.now in
    let n = c.args.number.now.ranges in
    let now = tree_of c.args.e.now in
    let before = kept_by (g.R.Ranges.last c.args.ranges.now) (g.R.Ranges.passed c.args.ranges.now) in
    let Fits = g.R.Ranges.fits c.args.ranges.now history in
    let left = tree_of c.args.param.now in
    let right = tree_of c.args.inner.now in
    let between = kept_by (g.R.Ranges.last c.eval_at.new.ranges) (g.R.Ranges.passed c.eval_at.new.ranges) in
    let Fits1 = g.R.Ranges.fits c.eval_at.new.ranges history in
    let m = c.eval_at.new.number.ranges in
    let f = (λ (v w : Value). summed_up c.args.e.now.place c.args.op c.args.by.now (more (more none left) right) (given None v ∷ given None w ∷ [])) in
    let left_meant = meaning scope.step history left scope.time in
    let right_meant = meaning scope.step history right scope.time in
    let left_may = first_may g.R.Ranges.keeps scope.inside scope.step history func now left right c.lemma_is_aggregate_by.ensures.two n (n + ranges_in left) scope.time refl scope.head.now before Fits may in
    subst (λ u. AnswersTo (meaning scope.step history u scope.time) (Err c.in-Err.error)) (sym c.lemma_is_aggregate_by.ensures.tree)
    (subst (λ m. AnswersTo m (Err c.in-Err.error)) (sym (aggregate_two scope.step history left right scope.time (summed_up c.args.e.now.place c.args.op c.args.by.now (more (more none left) right)) (c.lemma_is_aggregate_by.ensures.param_valued c.requires.valued) (c.lemma_is_aggregate_by.ensures.inner_valued c.requires.valued)))
    (ends (λ v. go_on (f v) right_meant) left_meant c.in-Err.error (c.in-Err.ensures.answer history func left_may)))

pub aggregate::aggregation_by-returns-in-Err-clause-taken : goal.aggregate::aggregation_by-returns-in-Err-clause-taken
aggregate::aggregation_by-returns-in-Err-clause-taken g t c = λ history func may.
    let scope = c.args.scope.now in
    let n = c.args.number.now.ranges in
    let now = tree_of c.args.e.now in
    let before = kept_by (g.R.Ranges.last c.args.ranges.now) (g.R.Ranges.passed c.args.ranges.now) in
    let Fits = g.R.Ranges.fits c.args.ranges.now history in
    let left = tree_of c.args.param.now in
    let right = tree_of c.args.inner.now in
    let between = kept_by (g.R.Ranges.last c.eval_at.new.ranges) (g.R.Ranges.passed c.eval_at.new.ranges) in
    let Fits1 = g.R.Ranges.fits c.eval_at.new.ranges history in
    let m = c.eval_at.new.number.ranges in
    let f = (λ (v w : Value). summed_up c.args.e.now.place c.args.op c.args.by.now (more (more none left) right) (given None v ∷ given None w ∷ [])) in
    let left_meant = meaning scope.step history left scope.time in
    let right_meant = meaning scope.step history right scope.time in
    let left_may = first_may g.R.Ranges.keeps scope.inside scope.step history func now left right c.lemma_is_aggregate_by.ensures.two n (n + ranges_in left) scope.time refl scope.head.now before Fits may in
    one_taken g.R.Ranges.keeps scope.inside scope.step history func now left right c.lemma_is_aggregate_by.ensures.two n (n + ranges_in left) scope.time refl before between Fits1 c.args.reads.now c.eval_at.new.reads c.in-Err.error (c.in-Err.ensures.taken history func left_may)

pub aggregate::aggregation_by-returns-in-Err-eval_at-clause-answer : goal.aggregate::aggregation_by-returns-in-Err-eval_at-clause-answer
aggregate::aggregation_by-returns-in-Err-eval_at-clause-answer g t c = λ history func may.
    let scope = c.args.scope.now in
    let n = c.args.number.now.ranges in
    let now = tree_of c.args.e.now in
    let before = kept_by (g.R.Ranges.last c.args.ranges.now) (g.R.Ranges.passed c.args.ranges.now) in
    let Fits = g.R.Ranges.fits c.args.ranges.now history in
    let left = tree_of c.args.param.now in
    let right = tree_of c.args.inner.now in
    let between = kept_by (g.R.Ranges.last c.eval_at.new.ranges) (g.R.Ranges.passed c.eval_at.new.ranges) in
    let Fits1 = g.R.Ranges.fits c.eval_at.new.ranges history in
    let m = c.eval_at.new.number.ranges in
    let f = (λ (v w : Value). summed_up c.args.e.now.place c.args.op c.args.by.now (more (more none left) right) (given None v ∷ given None w ∷ [])) in
    let left_meant = meaning scope.step history left scope.time in
    let right_meant = meaning scope.step history right scope.time in
    let left_may = first_may g.R.Ranges.keeps scope.inside scope.step history func now left right c.lemma_is_aggregate_by.ensures.two n (n + ranges_in left) scope.time refl scope.head.now before Fits may in
    let is : m ≡ n + ranges_in left = ap (λ (k : SelectorCounts). k.ranges) c.in-Ok.ensures.count in
    let first = c.in-Ok.ensures.taken history func left_may in
    let right_may = second_may g.R.Ranges.keeps scope.inside scope.step history func now left right c.lemma_is_aggregate_by.ensures.two n m scope.time is scope.head.now before between Fits Fits1 c.args.reads.now c.eval_at.new.reads c.in-Ok.a may first in
    let last = kept_by (g.R.Ranges.last c.eval_at-in-Ok.new.ranges) (g.R.Ranges.passed c.eval_at-in-Ok.new.ranges) in
    let Fits2 = g.R.Ranges.fits c.eval_at-in-Ok.new.ranges history in
    subst (λ u. AnswersTo (meaning scope.step history u scope.time) (Err c.in-Err-eval_at.error)) (sym c.lemma_is_aggregate_by.ensures.tree)
    (subst (λ m. AnswersTo m (Err c.in-Err-eval_at.error)) (sym (aggregate_two scope.step history left right scope.time (summed_up c.args.e.now.place c.args.op c.args.by.now (more (more none left) right)) (c.lemma_is_aggregate_by.ensures.param_valued c.requires.valued) (c.lemma_is_aggregate_by.ensures.inner_valued c.requires.valued)))
    (ends_right f left_meant right_meant c.in-Ok.a c.in-Err-eval_at.error (c.in-Ok.ensures.answer history func left_may) (c.in-Err-eval_at.ensures.answer history func right_may)))

pub aggregate::aggregation_by-returns-in-Err-eval_at-clause-taken : goal.aggregate::aggregation_by-returns-in-Err-eval_at-clause-taken
aggregate::aggregation_by-returns-in-Err-eval_at-clause-taken g t c = λ history func may.
    let scope = c.args.scope.now in
    let n = c.args.number.now.ranges in
    let now = tree_of c.args.e.now in
    let before = kept_by (g.R.Ranges.last c.args.ranges.now) (g.R.Ranges.passed c.args.ranges.now) in
    let Fits = g.R.Ranges.fits c.args.ranges.now history in
    let left = tree_of c.args.param.now in
    let right = tree_of c.args.inner.now in
    let between = kept_by (g.R.Ranges.last c.eval_at.new.ranges) (g.R.Ranges.passed c.eval_at.new.ranges) in
    let Fits1 = g.R.Ranges.fits c.eval_at.new.ranges history in
    let m = c.eval_at.new.number.ranges in
    let f = (λ (v w : Value). summed_up c.args.e.now.place c.args.op c.args.by.now (more (more none left) right) (given None v ∷ given None w ∷ [])) in
    let left_meant = meaning scope.step history left scope.time in
    let right_meant = meaning scope.step history right scope.time in
    let left_may = first_may g.R.Ranges.keeps scope.inside scope.step history func now left right c.lemma_is_aggregate_by.ensures.two n (n + ranges_in left) scope.time refl scope.head.now before Fits may in
    let is : m ≡ n + ranges_in left = ap (λ (k : SelectorCounts). k.ranges) c.in-Ok.ensures.count in
    let first = c.in-Ok.ensures.taken history func left_may in
    let right_may = second_may g.R.Ranges.keeps scope.inside scope.step history func now left right c.lemma_is_aggregate_by.ensures.two n m scope.time is scope.head.now before between Fits Fits1 c.args.reads.now c.eval_at.new.reads c.in-Ok.a may first in
    let last = kept_by (g.R.Ranges.last c.eval_at-in-Ok.new.ranges) (g.R.Ranges.passed c.eval_at-in-Ok.new.ranges) in
    let Fits2 = g.R.Ranges.fits c.eval_at-in-Ok.new.ranges history in
    two_taken g.R.Ranges.keeps scope.inside scope.step history func now left right c.lemma_is_aggregate_by.ensures.two n m scope.time is before between last Fits1 Fits2 c.args.reads.now c.eval_at.new.reads c.eval_at-in-Ok.new.reads c.in-Ok.a (Err c.in-Err-eval_at.error) first (c.in-Err-eval_at.ensures.taken history func right_may)

pub aggregate::aggregation_by-returns-in-Ok-eval_at-clause-answer : goal.aggregate::aggregation_by-returns-in-Ok-eval_at-clause-answer
aggregate::aggregation_by-returns-in-Ok-eval_at-clause-answer g t c = λ history func may.
    let scope = c.args.scope.now in
    let n = c.args.number.now.ranges in
    let now = tree_of c.args.e.now in
    let before = kept_by (g.R.Ranges.last c.args.ranges.now) (g.R.Ranges.passed c.args.ranges.now) in
    let Fits = g.R.Ranges.fits c.args.ranges.now history in
    let left = tree_of c.args.param.now in
    let right = tree_of c.args.inner.now in
    let between = kept_by (g.R.Ranges.last c.eval_at.new.ranges) (g.R.Ranges.passed c.eval_at.new.ranges) in
    let Fits1 = g.R.Ranges.fits c.eval_at.new.ranges history in
    let m = c.eval_at.new.number.ranges in
    let f = (λ (v w : Value). summed_up c.args.e.now.place c.args.op c.args.by.now (more (more none left) right) (given None v ∷ given None w ∷ [])) in
    let left_meant = meaning scope.step history left scope.time in
    let right_meant = meaning scope.step history right scope.time in
    let left_may = first_may g.R.Ranges.keeps scope.inside scope.step history func now left right c.lemma_is_aggregate_by.ensures.two n (n + ranges_in left) scope.time refl scope.head.now before Fits may in
    let is : m ≡ n + ranges_in left = ap (λ (k : SelectorCounts). k.ranges) c.in-Ok.ensures.count in
    let first = c.in-Ok.ensures.taken history func left_may in
    let right_may = second_may g.R.Ranges.keeps scope.inside scope.step history func now left right c.lemma_is_aggregate_by.ensures.two n m scope.time is scope.head.now before between Fits Fits1 c.args.reads.now c.eval_at.new.reads c.in-Ok.a may first in
    let last = kept_by (g.R.Ranges.last c.eval_at-in-Ok.new.ranges) (g.R.Ranges.passed c.eval_at-in-Ok.new.ranges) in
    let Fits2 = g.R.Ranges.fits c.eval_at-in-Ok.new.ranges history in
    subst (λ u. AnswersTo (meaning scope.step history u scope.time) c.aggregated_two.result) (sym c.lemma_is_aggregate_by.ensures.tree)
    (subst (λ m. AnswersTo m c.aggregated_two.result) (sym (aggregate_two scope.step history left right scope.time (summed_up c.args.e.now.place c.args.op c.args.by.now (more (more none left) right)) (c.lemma_is_aggregate_by.ensures.param_valued c.requires.valued) (c.lemma_is_aggregate_by.ensures.inner_valued c.requires.valued)))
    (both_give f left_meant right_meant c.in-Ok.a c.in-Ok-eval_at.b c.aggregated_two.result (c.in-Ok.ensures.answer history func left_may) (c.in-Ok-eval_at.ensures.answer history func right_may) (c.aggregated_two.ensures.answer (more (more none left) right) (λ same. refl))))

pub aggregate::aggregation_by-returns-in-Ok-eval_at-clause-taken : goal.aggregate::aggregation_by-returns-in-Ok-eval_at-clause-taken
aggregate::aggregation_by-returns-in-Ok-eval_at-clause-taken g t c = λ history func may.
    let scope = c.args.scope.now in
    let n = c.args.number.now.ranges in
    let now = tree_of c.args.e.now in
    let before = kept_by (g.R.Ranges.last c.args.ranges.now) (g.R.Ranges.passed c.args.ranges.now) in
    let Fits = g.R.Ranges.fits c.args.ranges.now history in
    let left = tree_of c.args.param.now in
    let right = tree_of c.args.inner.now in
    let between = kept_by (g.R.Ranges.last c.eval_at.new.ranges) (g.R.Ranges.passed c.eval_at.new.ranges) in
    let Fits1 = g.R.Ranges.fits c.eval_at.new.ranges history in
    let m = c.eval_at.new.number.ranges in
    let f = (λ (v w : Value). summed_up c.args.e.now.place c.args.op c.args.by.now (more (more none left) right) (given None v ∷ given None w ∷ [])) in
    let left_meant = meaning scope.step history left scope.time in
    let right_meant = meaning scope.step history right scope.time in
    let left_may = first_may g.R.Ranges.keeps scope.inside scope.step history func now left right c.lemma_is_aggregate_by.ensures.two n (n + ranges_in left) scope.time refl scope.head.now before Fits may in
    let is : m ≡ n + ranges_in left = ap (λ (k : SelectorCounts). k.ranges) c.in-Ok.ensures.count in
    let first = c.in-Ok.ensures.taken history func left_may in
    let right_may = second_may g.R.Ranges.keeps scope.inside scope.step history func now left right c.lemma_is_aggregate_by.ensures.two n m scope.time is scope.head.now before between Fits Fits1 c.args.reads.now c.eval_at.new.reads c.in-Ok.a may first in
    let last = kept_by (g.R.Ranges.last c.eval_at-in-Ok.new.ranges) (g.R.Ranges.passed c.eval_at-in-Ok.new.ranges) in
    let Fits2 = g.R.Ranges.fits c.eval_at-in-Ok.new.ranges history in
    two_taken_as g.R.Ranges.keeps scope.inside scope.step history func now left right c.lemma_is_aggregate_by.ensures.two n m scope.time is before between last Fits1 Fits2 c.args.reads.now c.eval_at.new.reads c.eval_at-in-Ok.new.reads c.in-Ok.a c.in-Ok-eval_at.b c.aggregated_two.result first (c.in-Ok-eval_at.ensures.taken history func right_may)

pub call::plain_call-returns-in-Ok-clause-answer : goal.call::plain_call-returns-in-Ok-clause-answer
call::plain_call-returns-in-Ok-clause-answer g t c = λ history func may.
    let scope = c.args.scope.now in
    let n = c.args.number.now.ranges in
    let now = tree_of c.args.e.now in
    let before = kept_by (g.R.Ranges.last c.args.ranges.now) (g.R.Ranges.passed c.args.ranges.now) in
    let Fits = g.R.Ranges.fits c.args.ranges.now history in
    let ts = trees_of c.args.args.now in
    let f = c.args.func in
    let after = kept_by (g.R.Ranges.last c.operands.new.ranges) (g.R.Ranges.passed c.operands.new.ranges) in
    let Fits' = g.R.Ranges.fits c.operands.new.ranges history in
    let args_may = part_may g.R.Ranges.keeps scope.inside scope.step history func now ts (own_patterns f ts) (λ h. asked_for f) c.lemma_is_call.ensures.one n scope.time scope.head.now before Fits may in
    subst (λ u. AnswersTo (meaning scope.step history u scope.time) c.called_with.result) (sym c.lemma_is_call.ensures.tree)
    (call_gives (value_of_call history c.args.e.now.place f ts scope.time) (operands scope.step history ts scope.time) c.operands.new.given.items c.called_with.result (c.in-Ok.ensures.answer history (asked_for f) args_may)
    (subst (λ vs. AnswersTo (value_of_call history c.args.e.now.place f ts scope.time (all_plain vs)) c.called_with.result) c.deref.ensures.value (c.called_with.ensures.answer history)))

pub call::plain_call-returns-in-Ok-clause-taken : goal.call::plain_call-returns-in-Ok-clause-taken
call::plain_call-returns-in-Ok-clause-taken g t c = λ history func may.
    let scope = c.args.scope.now in
    let n = c.args.number.now.ranges in
    let now = tree_of c.args.e.now in
    let before = kept_by (g.R.Ranges.last c.args.ranges.now) (g.R.Ranges.passed c.args.ranges.now) in
    let Fits = g.R.Ranges.fits c.args.ranges.now history in
    let ts = trees_of c.args.args.now in
    let f = c.args.func in
    let after = kept_by (g.R.Ranges.last c.operands.new.ranges) (g.R.Ranges.passed c.operands.new.ranges) in
    let Fits' = g.R.Ranges.fits c.operands.new.ranges history in
    let args_may = part_may g.R.Ranges.keeps scope.inside scope.step history func now ts (own_patterns f ts) (λ h. asked_for f) c.lemma_is_call.ensures.one n scope.time scope.head.now before Fits may in
    part_taken_as g.R.Ranges.keeps scope.inside scope.step history func now ts (own_patterns f ts) (λ h. asked_for f) c.lemma_is_call.ensures.one n scope.time before after Fits' c.args.reads.now c.operands.new.reads c.in-Ok.field-0 c.called_with.result
    (c.in-Ok.ensures.taken history (asked_for f) args_may)

pub call::plain_call-returns-clause-answer : goal.call::plain_call-returns-clause-answer
call::plain_call-returns-clause-answer g t c = λ history func may.
    let scope = c.args.scope.now in
    let n = c.args.number.now.ranges in
    let now = tree_of c.args.e.now in
    let before = kept_by (g.R.Ranges.last c.args.ranges.now) (g.R.Ranges.passed c.args.ranges.now) in
    let Fits = g.R.Ranges.fits c.args.ranges.now history in
    let ts = trees_of c.args.args.now in
    let f = c.args.func in
    let after = kept_by (g.R.Ranges.last c.operands.new.ranges) (g.R.Ranges.passed c.operands.new.ranges) in
    let Fits' = g.R.Ranges.fits c.operands.new.ranges history in
    let args_may = part_may g.R.Ranges.keeps scope.inside scope.step history func now ts (own_patterns f ts) (λ h. asked_for f) c.lemma_is_call.ensures.one n scope.time scope.head.now before Fits may in
    subst (λ u. AnswersTo (meaning scope.step history u scope.time) (Err c.in-Err.error)) (sym c.lemma_is_call.ensures.tree)
    (call_ends (value_of_call history c.args.e.now.place f ts scope.time) (operands scope.step history ts scope.time) c.operands.new.given.items c.in-Err.error (c.in-Err.ensures.answer history (asked_for f) args_may))

pub call::plain_call-returns-clause-taken : goal.call::plain_call-returns-clause-taken
call::plain_call-returns-clause-taken g t c = λ history func may.
    let scope = c.args.scope.now in
    let n = c.args.number.now.ranges in
    let now = tree_of c.args.e.now in
    let before = kept_by (g.R.Ranges.last c.args.ranges.now) (g.R.Ranges.passed c.args.ranges.now) in
    let Fits = g.R.Ranges.fits c.args.ranges.now history in
    let ts = trees_of c.args.args.now in
    let f = c.args.func in
    let after = kept_by (g.R.Ranges.last c.operands.new.ranges) (g.R.Ranges.passed c.operands.new.ranges) in
    let Fits' = g.R.Ranges.fits c.operands.new.ranges history in
    let args_may = part_may g.R.Ranges.keeps scope.inside scope.step history func now ts (own_patterns f ts) (λ h. asked_for f) c.lemma_is_call.ensures.one n scope.time scope.head.now before Fits may in
    part_taken_fault g.R.Ranges.keeps scope.inside scope.step history func now ts (own_patterns f ts) (λ h. asked_for f) c.lemma_is_call.ensures.one n scope.time before after Fits' c.args.reads.now c.operands.new.reads c.in-Err.error
    (c.in-Err.ensures.taken history (asked_for f) args_may)

pub call::plain_call-lemma_args_stand_at-requires-clause-part : goal.call::plain_call-lemma_args_stand_at-requires-clause-part
call::plain_call-lemma_args_stand_at-requires-clause-part g t c =
    c.lemma_is_call.ensures.part (tree_of c.args.scope.now.checked.now) c.args.number.now c.requires.part

pub call::plain_call-lemma_args_stand_at-requires-clause-valued : goal.call::plain_call-lemma_args_stand_at-requires-clause-valued
call::plain_call-lemma_args_stand_at-requires-clause-valued g t c =
    c.lemma_is_call.ensures.valued c.requires.valued c.requires.plain

pub call::plain_call-called_with-requires-clause-replaced : goal.call::plain_call-called_with-requires-clause-replaced
call::plain_call-called_with-requires-clause-replaced g t c =
    c.lemma_is_call.ensures.replaced c.requires.valued

pub call::plain_call-called_with-requires-clause-joined : goal.call::plain_call-called_with-requires-clause-joined
call::plain_call-called_with-requires-clause-joined g t c =
    c.lemma_is_call.ensures.joined c.requires.valued

pub call::plain_call-called_with-requires-clause-pattern : goal.call::plain_call-called_with-requires-clause-pattern
call::plain_call-called_with-requires-clause-pattern g t c =
    c.lemma_is_call.ensures.pattern (tree_of c.args.scope.now.checked.now) c.args.number.now c.operands.new.number c.requires.part c.in-Ok.ensures.count

pub operators::negation-lemma_stands_at-requires : goal.operators::negation-lemma_stands_at-requires
operators::negation-lemma_stands_at-requires g t c =
    c.lemma_is_neg.ensures.part (tree_of c.args.scope.now.checked.now) c.args.number.now c.requires.part

pub aggregate::aggregation-lemma_stands_at-requires : goal.aggregate::aggregation-lemma_stands_at-requires
aggregate::aggregation-lemma_stands_at-requires g t c =
    c.lemma_is_aggregate.ensures.part (tree_of c.args.scope.now.checked.now) c.args.number.now c.requires.part

pub aggregate::aggregation-aggregated_one-requires-clause-op : goal.aggregate::aggregation-aggregated_one-requires-clause-op
aggregate::aggregation-aggregated_one-requires-clause-op g t c =
    c.lemma_is_aggregate.ensures.op c.requires.valued

pub operators::operation-lemma_stands_at-requires : goal.operators::operation-lemma_stands_at-requires
operators::operation-lemma_stands_at-requires g t c =
    c.lemma_is_binary.ensures.left_part (tree_of c.args.scope.now.checked.now) c.args.number.now c.requires.part

pub operators::operation-lemma_stands_at-requires-in-Ok : goal.operators::operation-lemma_stands_at-requires-in-Ok
operators::operation-lemma_stands_at-requires-in-Ok g t c =
    c.lemma_is_binary.ensures.right_part (tree_of c.args.scope.now.checked.now) c.args.number.now c.eval_at.new.number c.in-Ok.ensures.count c.requires.part

pub aggregate::aggregation_by-lemma_stands_at-requires : goal.aggregate::aggregation_by-lemma_stands_at-requires
aggregate::aggregation_by-lemma_stands_at-requires g t c =
    c.lemma_is_aggregate_by.ensures.param_part (tree_of c.args.scope.now.checked.now) c.args.number.now c.requires.part

pub aggregate::aggregation_by-lemma_stands_at-requires-in-Ok : goal.aggregate::aggregation_by-lemma_stands_at-requires-in-Ok
aggregate::aggregation_by-lemma_stands_at-requires-in-Ok g t c =
    c.lemma_is_aggregate_by.ensures.inner_part (tree_of c.args.scope.now.checked.now) c.args.number.now c.eval_at.new.number c.in-Ok.ensures.count c.requires.part

pub aggregate::aggregation_by-aggregated_two-requires-clause-label : goal.aggregate::aggregation_by-aggregated_two-requires-clause-label
aggregate::aggregation_by-aggregated_two-requires-clause-label g t c =
    c.lemma_is_aggregate_by.ensures.label c.requires.valued

pub call::call-timestamps-requires-clause-tree : goal.call::call-timestamps-requires-clause-tree
call::call-timestamps-requires-clause-tree g t c =
    c.requires.tree ∙ (λ i. call c.args.e.now.place (c.in-Some.ensures.some.0 i) (c.in-Some.ensures.some.1 i))

pub call::call-returns-in-Some-clause-answer : goal.call::call-returns-in-Some-clause-answer
call::call-returns-in-Some-clause-answer g t c = λ history func may.
    c.timestamps.ensures.answer history may.keeps

pub call::call-returns-in-Some-clause-taken : goal.call::call-returns-in-Some-clause-taken
call::call-returns-in-Some-clause-taken g t c = λ history func may.
    let scope = c.args.scope.now in
    let n = c.args.number.now.ranges in
    let now = tree_of c.args.e.now in
    let before = kept_by (g.R.Ranges.last c.args.ranges.now) (g.R.Ranges.passed c.args.ranges.now) in
    let Fits = g.R.Ranges.fits c.args.ranges.now history in
    stamps_taken g.R.Ranges.keeps scope.inside scope.step history func now _ _ _ scope.time n before Fits c.args.reads.now c.timestamps.new.reads c.timestamps.result (c.requires.tree ∙ (λ i. call c.args.e.now.place (c.in-Some.ensures.some.0 i) (c.in-Some.ensures.some.1 i))) may.fits (c.timestamps.ensures.reads history may.keeps.holds)

pub call::operands-lemma_arg_stands_at-requires-clause-part : goal.call::operands-lemma_arg_stands_at-requires-clause-part
call::operands-lemma_arg_stands_at-requires-clause-part g t c =
    let scope = c.args.scope.now in
    let whole = tree_of scope.checked.now in
    let es = c.args.args.now in
    let i = c.loop-arg.arg-index in
    let e = c.arg-item.result in
    let first = trees_of (take i es) in
    let more_first = trees_of (take (i + 1) es) in
    let next = trees_of-next i (i + 1) es e (omega arith) c.loop-arg-test.true c.arg-item.is in
    let two = more_of more_first first (tree_of e) next in
    let n = c.args.number.now in
    let m = c.loop-arg.number in
    let valued = c.requires.valued i e (slice_get-get_or es i e c.loop-arg-test.true ∙ ap Some (sym c.arg-item.is)) in
    second_part whole n m more_first first (tree_of e) two c.loop-arg.invariant.count (args_part whole n (i + 1) es c.requires.part)

pub call::operands-lemma_arg_stands_at-requires-clause-valued : goal.call::operands-lemma_arg_stands_at-requires-clause-valued
call::operands-lemma_arg_stands_at-requires-clause-valued g t c =
    let scope = c.args.scope.now in
    let whole = tree_of scope.checked.now in
    let es = c.args.args.now in
    let i = c.loop-arg.arg-index in
    let e = c.arg-item.result in
    let first = trees_of (take i es) in
    let more_first = trees_of (take (i + 1) es) in
    let next = trees_of-next i (i + 1) es e (omega arith) c.loop-arg-test.true c.arg-item.is in
    let two = more_of more_first first (tree_of e) next in
    let n = c.args.number.now in
    let m = c.loop-arg.number in
    let valued = c.requires.valued i e (slice_get-get_or es i e c.loop-arg-test.true ∙ ap Some (sym c.arg-item.is)) in
    valued

pub call::operands-loop-arg-init : goal.call::operands-loop-arg-init
call::operands-loop-arg-init g t c =
    record {
      count = counts_of_none c.args.number.now;
      answer = λ history func may. ap (λ vs. Ok (all_plain vs)) (sym c.requires.none);
      taken = λ history func may. took_nothing g.R.Ranges.keeps history c.args.number.now.ranges 0 (kept_by (g.R.Ranges.last c.args.ranges.now) (g.R.Ranges.passed c.args.ranges.now)) (g.R.Ranges.fits c.args.ranges.now history) c.args.reads.now c.args.reads.now _ may.fits (omega arith);
    }

pub call::operands-loop-arg-preserved : goal.call::operands-loop-arg-preserved
call::operands-loop-arg-preserved g t c =
    let scope = c.args.scope.now in
    let whole = tree_of scope.checked.now in
    let es = c.args.args.now in
    let i = c.loop-arg.arg-index in
    let e = c.arg-item.result in
    let first = trees_of (take i es) in
    let more_first = trees_of (take (i + 1) es) in
    let next = trees_of-next i (i + 1) es e (omega arith) c.loop-arg-test.true c.arg-item.is in
    let two = more_of more_first first (tree_of e) next in
    let n = c.args.number.now in
    let m = c.loop-arg.number in
    let valued = c.requires.valued i e (slice_get-get_or es i e c.loop-arg-test.true ∙ ap Some (sym c.arg-item.is)) in
    record {
      count = counts_of_two n m c.eval_at.new.number more_first first (tree_of e) two c.loop-arg.invariant.count c.in-Ok.ensures.count;
      answer = λ history func may.
          let before = kept_by (g.R.Ranges.last c.args.ranges.now) (g.R.Ranges.passed c.args.ranges.now) in
          let between = kept_by (g.R.Ranges.last c.loop-arg.ranges) (g.R.Ranges.passed c.loop-arg.ranges) in
          let after = kept_by (g.R.Ranges.last c.eval_at.new.ranges) (g.R.Ranges.passed c.eval_at.new.ranges) in
          let Fits = g.R.Ranges.fits c.args.ranges.now history in
          let Fits1 = g.R.Ranges.fits c.loop-arg.ranges history in
          let Fits2 = g.R.Ranges.fits c.eval_at.new.ranges history in
          let is : m.ranges ≡ n.ranges + ranges_in first = ap (λ (k : SelectorCounts). k.ranges) c.loop-arg.invariant.count in
          let front = args_may scope.head.now scope.inside history func (i + 1) es scope.time n.ranges Fits before may in
          let arg_may = second_may g.R.Ranges.keeps scope.inside scope.step history func more_first first (tree_of e) two n.ranges m.ranges scope.time is scope.head.now before between Fits Fits1 c.args.reads.now c.loop-arg.reads tt front (c.loop-arg.invariant.taken history func may) in
          plain_given scope.step history more_first first (tree_of e) scope.time c.loop-arg.given.items c.push_value.new.values.items c.in-Ok.value next valued (c.loop-arg.invariant.answer history func may) (c.in-Ok.ensures.answer history func arg_may) c.in_ok-push_value-in-Ok.ensures;
      taken = λ history func may.
          let before = kept_by (g.R.Ranges.last c.args.ranges.now) (g.R.Ranges.passed c.args.ranges.now) in
          let between = kept_by (g.R.Ranges.last c.loop-arg.ranges) (g.R.Ranges.passed c.loop-arg.ranges) in
          let after = kept_by (g.R.Ranges.last c.eval_at.new.ranges) (g.R.Ranges.passed c.eval_at.new.ranges) in
          let Fits = g.R.Ranges.fits c.args.ranges.now history in
          let Fits1 = g.R.Ranges.fits c.loop-arg.ranges history in
          let Fits2 = g.R.Ranges.fits c.eval_at.new.ranges history in
          let is : m.ranges ≡ n.ranges + ranges_in first = ap (λ (k : SelectorCounts). k.ranges) c.loop-arg.invariant.count in
          let front = args_may scope.head.now scope.inside history func (i + 1) es scope.time n.ranges Fits before may in
          let arg_may = second_may g.R.Ranges.keeps scope.inside scope.step history func more_first first (tree_of e) two n.ranges m.ranges scope.time is scope.head.now before between Fits Fits1 c.args.reads.now c.loop-arg.reads tt front (c.loop-arg.invariant.taken history func may) in
          two_taken_as g.R.Ranges.keeps scope.inside scope.step history func more_first first (tree_of e) two n.ranges m.ranges scope.time is before between after Fits1 Fits2 c.args.reads.now c.loop-arg.reads c.eval_at.new.reads tt c.in-Ok.value _
          (c.loop-arg.invariant.taken history func may) (c.in-Ok.ensures.taken history func arg_may);
    }

pub call::operands-returns-in-Err-clause-answer : goal.call::operands-returns-in-Err-clause-answer
call::operands-returns-in-Err-clause-answer g t c =
    let scope = c.args.scope.now in
    let whole = tree_of scope.checked.now in
    let es = c.args.args.now in
    let i = c.loop-arg.arg-index in
    let e = c.arg-item.result in
    let first = trees_of (take i es) in
    let more_first = trees_of (take (i + 1) es) in
    let next = trees_of-next i (i + 1) es e (omega arith) c.loop-arg-test.true c.arg-item.is in
    let two = more_of more_first first (tree_of e) next in
    let n = c.args.number.now in
    let m = c.loop-arg.number in
    let valued = c.requires.valued i e (slice_get-get_or es i e c.loop-arg-test.true ∙ ap Some (sym c.arg-item.is)) in
    λ history func may.
    let before = kept_by (g.R.Ranges.last c.args.ranges.now) (g.R.Ranges.passed c.args.ranges.now) in
    let between = kept_by (g.R.Ranges.last c.loop-arg.ranges) (g.R.Ranges.passed c.loop-arg.ranges) in
    let after = kept_by (g.R.Ranges.last c.eval_at.new.ranges) (g.R.Ranges.passed c.eval_at.new.ranges) in
    let Fits = g.R.Ranges.fits c.args.ranges.now history in
    let Fits1 = g.R.Ranges.fits c.loop-arg.ranges history in
    let Fits2 = g.R.Ranges.fits c.eval_at.new.ranges history in
    let is : m.ranges ≡ n.ranges + ranges_in first = ap (λ (k : SelectorCounts). k.ranges) c.loop-arg.invariant.count in
    let front = args_may scope.head.now scope.inside history func (i + 1) es scope.time n.ranges Fits before may in
    let arg_may = second_may g.R.Ranges.keeps scope.inside scope.step history func more_first first (tree_of e) two n.ranges m.ranges scope.time is scope.head.now before between Fits Fits1 c.args.reads.now c.loop-arg.reads tt front (c.loop-arg.invariant.taken history func may) in
    operands_end scope.step history (i + 1) i es (tree_of e) scope.time c.loop-arg.given.items c.loop-arg.given.items c.in-Err.error next valued (c.loop-arg.invariant.answer history func may) (c.in-Err.ensures.answer history func arg_may)

pub call::operands-returns-in-Err-clause-taken : goal.call::operands-returns-in-Err-clause-taken
call::operands-returns-in-Err-clause-taken g t c =
    let scope = c.args.scope.now in
    let whole = tree_of scope.checked.now in
    let es = c.args.args.now in
    let i = c.loop-arg.arg-index in
    let e = c.arg-item.result in
    let first = trees_of (take i es) in
    let more_first = trees_of (take (i + 1) es) in
    let next = trees_of-next i (i + 1) es e (omega arith) c.loop-arg-test.true c.arg-item.is in
    let two = more_of more_first first (tree_of e) next in
    let n = c.args.number.now in
    let m = c.loop-arg.number in
    let valued = c.requires.valued i e (slice_get-get_or es i e c.loop-arg-test.true ∙ ap Some (sym c.arg-item.is)) in
    λ history func may.
    let before = kept_by (g.R.Ranges.last c.args.ranges.now) (g.R.Ranges.passed c.args.ranges.now) in
    let between = kept_by (g.R.Ranges.last c.loop-arg.ranges) (g.R.Ranges.passed c.loop-arg.ranges) in
    let after = kept_by (g.R.Ranges.last c.eval_at.new.ranges) (g.R.Ranges.passed c.eval_at.new.ranges) in
    let Fits = g.R.Ranges.fits c.args.ranges.now history in
    let Fits1 = g.R.Ranges.fits c.loop-arg.ranges history in
    let Fits2 = g.R.Ranges.fits c.eval_at.new.ranges history in
    let is : m.ranges ≡ n.ranges + ranges_in first = ap (λ (k : SelectorCounts). k.ranges) c.loop-arg.invariant.count in
    let front = args_may scope.head.now scope.inside history func (i + 1) es scope.time n.ranges Fits before may in
    let arg_may = second_may g.R.Ranges.keeps scope.inside scope.step history func more_first first (tree_of e) two n.ranges m.ranges scope.time is scope.head.now before between Fits Fits1 c.args.reads.now c.loop-arg.reads tt front (c.loop-arg.invariant.taken history func may) in
    args_taken g.R.Ranges.keeps scope.inside scope.step history func (i + 1) es scope.time n.ranges before after Fits2 c.args.reads.now c.eval_at.new.reads c.in-Err.error
    (two_taken g.R.Ranges.keeps scope.inside scope.step history func more_first first (tree_of e) two n.ranges m.ranges scope.time is before between after Fits1 Fits2 c.args.reads.now c.loop-arg.reads c.eval_at.new.reads tt (Err c.in-Err.error)
    (c.loop-arg.invariant.taken history func may) (c.in-Err.ensures.taken history func arg_may))

pub call::operands-returns-in_err-push_value-in-Ok-clause-taken : goal.call::operands-returns-in_err-push_value-in-Ok-clause-taken
call::operands-returns-in_err-push_value-in-Ok-clause-taken g t c =
    let scope = c.args.scope.now in
    let whole = tree_of scope.checked.now in
    let es = c.args.args.now in
    let i = c.loop-arg.arg-index in
    let e = c.arg-item.result in
    let first = trees_of (take i es) in
    let more_first = trees_of (take (i + 1) es) in
    let next = trees_of-next i (i + 1) es e (omega arith) c.loop-arg-test.true c.arg-item.is in
    let two = more_of more_first first (tree_of e) next in
    let n = c.args.number.now in
    let m = c.loop-arg.number in
    let valued = c.requires.valued i e (slice_get-get_or es i e c.loop-arg-test.true ∙ ap Some (sym c.arg-item.is)) in
    λ history func may.
    let before = kept_by (g.R.Ranges.last c.args.ranges.now) (g.R.Ranges.passed c.args.ranges.now) in
    let between = kept_by (g.R.Ranges.last c.loop-arg.ranges) (g.R.Ranges.passed c.loop-arg.ranges) in
    let after = kept_by (g.R.Ranges.last c.eval_at.new.ranges) (g.R.Ranges.passed c.eval_at.new.ranges) in
    let Fits = g.R.Ranges.fits c.args.ranges.now history in
    let Fits1 = g.R.Ranges.fits c.loop-arg.ranges history in
    let Fits2 = g.R.Ranges.fits c.eval_at.new.ranges history in
    let is : m.ranges ≡ n.ranges + ranges_in first = ap (λ (k : SelectorCounts). k.ranges) c.loop-arg.invariant.count in
    let front = args_may scope.head.now scope.inside history func (i + 1) es scope.time n.ranges Fits before may in
    let arg_may = second_may g.R.Ranges.keeps scope.inside scope.step history func more_first first (tree_of e) two n.ranges m.ranges scope.time is scope.head.now before between Fits Fits1 c.args.reads.now c.loop-arg.reads tt front (c.loop-arg.invariant.taken history func may) in
    let memory : Result (Unit {0}) EvalError = Err error.Memory in
    let failed : c.from_residual.result ≡ memory = out_of_memory c.from_residual.result c.from_residual.ensures.0 c.from_residual.ensures.1 in
    subst (λ r. IsEvaluated g.R.Ranges.keeps scope.inside scope.step history func (trees_of es) scope.time n.ranges before after Fits2 c.args.reads.now c.eval_at.new.reads r) (sym failed)
    (args_taken {A = Unit {0}} g.R.Ranges.keeps scope.inside scope.step history func (i + 1) es scope.time n.ranges before after Fits2 c.args.reads.now c.eval_at.new.reads error.Memory
    (two_taken_as g.R.Ranges.keeps scope.inside scope.step history func more_first first (tree_of e) two n.ranges m.ranges scope.time is before between after Fits1 Fits2 c.args.reads.now c.loop-arg.reads c.eval_at.new.reads tt c.in-Ok.value (Err error.Memory)
    (c.loop-arg.invariant.taken history func may) (c.in-Ok.ensures.taken history func arg_may)))

pub call::operands-returns-clause-count : goal.call::operands-returns-clause-count
call::operands-returns-clause-count g t c =
    let all = all_args c.loop-arg.arg-index c.args.args.now (omega (arith, c.loop-arg-test.false)) in
    subst (λ ts. c.loop-arg.number ≡ counts_after c.args.number.now ts) all c.loop-arg.invariant.count

pub call::operands-returns-clause-answer : goal.call::operands-returns-clause-answer
call::operands-returns-clause-answer g t c = λ history func may.
    let scope = c.args.scope.now in
    let all = all_args c.loop-arg.arg-index c.args.args.now (omega (arith, c.loop-arg-test.false)) in
    subst (λ ts. operands scope.step history ts scope.time ≡ Ok (all_plain c.loop-arg.given.items)) all (c.loop-arg.invariant.answer history func may)

pub call::operands-returns-clause-taken : goal.call::operands-returns-clause-taken
call::operands-returns-clause-taken g t c = λ history func may.
    let scope = c.args.scope.now in
    let all = all_args c.loop-arg.arg-index c.args.args.now (omega (arith, c.loop-arg-test.false)) in
    let before = kept_by (g.R.Ranges.last c.args.ranges.now) (g.R.Ranges.passed c.args.ranges.now) in
    let after = kept_by (g.R.Ranges.last c.loop-arg.ranges) (g.R.Ranges.passed c.loop-arg.ranges) in
    let done : Result (Unit {0}) EvalError = Ok tt in
    subst (λ ts. IsEvaluated g.R.Ranges.keeps scope.inside scope.step history func ts scope.time c.args.number.now.ranges before after (g.R.Ranges.fits c.loop-arg.ranges history) c.args.reads.now c.loop-arg.reads done) all
    (c.loop-arg.invariant.taken history func may)

pub evaluate::eval_at-unreachable-requires : goal.evaluate::eval_at-unreachable-requires
evaluate::eval_at-unreachable-requires g t c =
    range_unvalued (tree_of c.args.e.now) c.args.e.now.place c.in-Range.selector c.in-Range.span c.lemma_is_range.ensures.tree c.requires.valued

pub evaluate::eval_at-unreachable-requires-in-Sub : goal.evaluate::eval_at-unreachable-requires-in-Sub
evaluate::eval_at-unreachable-requires-in-Sub g t c =
    sub_unvalued (tree_of c.args.e.now) c.args.e.now.place _ _ _ _ c.lemma_is_sub.ensures.tree c.requires.valued

pub call::operands-lemma_is_among-requires : goal.call::operands-lemma_is_among-requires
call::operands-lemma_is_among-requires g t c = argument_smaller c.loop-arg.arg-index c.args.args.now c.arg-item.result c.loop-arg-test.true c.arg-item.is

pub range_call::prediction-returns-in-Ok-clause-answer : goal.range_call::prediction-returns-in-Ok-clause-answer
range_call::prediction-returns-in-Ok-clause-answer g t c = λ history may.
    let scope = c.args.scope.now in
    let n = c.args.number.now.ranges in
    let now = trees_of c.args.args.now in
    let before = kept_by (g.R.Ranges.last c.args.ranges.now) (g.R.Ranges.passed c.args.ranges.now) in
    let Fits = g.R.Ranges.fits c.args.ranges.now history in
    let left = tree_of c.args.e.now in
    let right = tree_of c.args.scalar.now in
    let two = c.lemma_are_pair.ensures.two in
    let behind = n + ranges_in left in
    let left_meant = ranges scope.step history left scope.time in
    let right_meant = meaning scope.step history right scope.time in
    let meant = ap (λ u. go_on (value_of_call history c.args.place PredictLinear u scope.time) (operands scope.step history u scope.time)) c.lemma_are_pair.ensures.args ∙ call_before scope.step history c.args.place left right scope.time c.requires.typed (scalar_valued right c.requires.scalar) in
    let m = c.behind_range.result.ranges in
    let is : m ≡ behind = ap (λ (k : SelectorCounts). k.ranges) c.behind_range.ensures in
    let right_may = second_may_begin g.R.Ranges.keeps scope.inside scope.step history Predict now left right two n m scope.time is scope.head.now before Fits may in
    let between = kept_by (g.R.Ranges.last c.eval_at.new.ranges) (g.R.Ranges.passed c.eval_at.new.ranges) in
    let Fits1 = g.R.Ranges.fits c.eval_at.new.ranges history in
    let second = c.in-Ok.ensures.taken history Predict right_may in
    let left_may = first_may_follow g.R.Ranges.keeps scope.inside scope.step history Predict now left right two n m scope.time is scope.head.now before between Fits Fits1 c.args.reads.now c.eval_at.new.reads c.in-Ok.value may second in
    let last = kept_by (g.R.Ranges.last c.over_selected.new.ranges) (g.R.Ranges.passed c.over_selected.new.ranges) in
    let Fits2 = g.R.Ranges.fits c.over_selected.new.ranges history in
    subst (λ r. AnswersTo r c.over_selected.result) (sym meant)
    (predicted c.args.place left_meant right_meant c.in-Ok.value c.over_selected.result (c.in-Ok.ensures.answer history Predict right_may)
    (subst (λ u. AnswersTo (go_on (made_of u) left_meant) c.over_selected.result) c.prediction_by-made.ensures (c.over_selected.ensures.answer history (subst (λ u. MayTake scope.head.now scope.inside history (call_in u).func left scope.time n Fits1 between.last) (sym c.prediction_by-made.ensures) left_may))))

pub range_call::prediction-returns-in-Ok-clause-taken : goal.range_call::prediction-returns-in-Ok-clause-taken
range_call::prediction-returns-in-Ok-clause-taken g t c = λ history may.
    let scope = c.args.scope.now in
    let n = c.args.number.now.ranges in
    let now = trees_of c.args.args.now in
    let before = kept_by (g.R.Ranges.last c.args.ranges.now) (g.R.Ranges.passed c.args.ranges.now) in
    let Fits = g.R.Ranges.fits c.args.ranges.now history in
    let left = tree_of c.args.e.now in
    let right = tree_of c.args.scalar.now in
    let two = c.lemma_are_pair.ensures.two in
    let behind = n + ranges_in left in
    let left_meant = ranges scope.step history left scope.time in
    let right_meant = meaning scope.step history right scope.time in
    let meant = ap (λ u. go_on (value_of_call history c.args.place PredictLinear u scope.time) (operands scope.step history u scope.time)) c.lemma_are_pair.ensures.args ∙ call_before scope.step history c.args.place left right scope.time c.requires.typed (scalar_valued right c.requires.scalar) in
    let m = c.behind_range.result.ranges in
    let is : m ≡ behind = ap (λ (k : SelectorCounts). k.ranges) c.behind_range.ensures in
    let right_may = second_may_begin g.R.Ranges.keeps scope.inside scope.step history Predict now left right two n m scope.time is scope.head.now before Fits may in
    let between = kept_by (g.R.Ranges.last c.eval_at.new.ranges) (g.R.Ranges.passed c.eval_at.new.ranges) in
    let Fits1 = g.R.Ranges.fits c.eval_at.new.ranges history in
    let second = c.in-Ok.ensures.taken history Predict right_may in
    let left_may = first_may_follow g.R.Ranges.keeps scope.inside scope.step history Predict now left right two n m scope.time is scope.head.now before between Fits Fits1 c.args.reads.now c.eval_at.new.reads c.in-Ok.value may second in
    let last = kept_by (g.R.Ranges.last c.over_selected.new.ranges) (g.R.Ranges.passed c.over_selected.new.ranges) in
    let Fits2 = g.R.Ranges.fits c.over_selected.new.ranges history in
    turned_taken g.R.Ranges.keeps scope.inside scope.step history Predict now left right two n m scope.time is before between last Fits1 Fits2 c.args.reads.now c.eval_at.new.reads c.over_selected.new.reads c.in-Ok.value c.over_selected.result second
    (subst (λ u. IsEvaluated g.R.Ranges.keeps scope.inside scope.step history (call_in u).func left scope.time n between last Fits2 c.eval_at.new.reads c.over_selected.new.reads c.over_selected.result) c.prediction_by-made.ensures
    (c.over_selected.ensures.taken history (subst (λ u. MayTake scope.head.now scope.inside history (call_in u).func left scope.time n Fits1 between.last) (sym c.prediction_by-made.ensures) left_may)))

pub range_call::prediction-returns-in-Err-clause-answer : goal.range_call::prediction-returns-in-Err-clause-answer
range_call::prediction-returns-in-Err-clause-answer g t c = λ history may.
    let scope = c.args.scope.now in
    let n = c.args.number.now.ranges in
    let now = trees_of c.args.args.now in
    let before = kept_by (g.R.Ranges.last c.args.ranges.now) (g.R.Ranges.passed c.args.ranges.now) in
    let Fits = g.R.Ranges.fits c.args.ranges.now history in
    let left = tree_of c.args.e.now in
    let right = tree_of c.args.scalar.now in
    let two = c.lemma_are_pair.ensures.two in
    let behind = n + ranges_in left in
    let left_meant = ranges scope.step history left scope.time in
    let right_meant = meaning scope.step history right scope.time in
    let meant = ap (λ u. go_on (value_of_call history c.args.place PredictLinear u scope.time) (operands scope.step history u scope.time)) c.lemma_are_pair.ensures.args ∙ call_before scope.step history c.args.place left right scope.time c.requires.typed (scalar_valued right c.requires.scalar) in
    let m = c.behind_range.result.ranges in
    let is : m ≡ behind = ap (λ (k : SelectorCounts). k.ranges) c.behind_range.ensures in
    let right_may = second_may_begin g.R.Ranges.keeps scope.inside scope.step history Predict now left right two n m scope.time is scope.head.now before Fits may in
    let between = kept_by (g.R.Ranges.last c.eval_at.new.ranges) (g.R.Ranges.passed c.eval_at.new.ranges) in
    let Fits1 = g.R.Ranges.fits c.eval_at.new.ranges history in
    let chosen = ap (λ u. ranges scope.step history u scope.time) c.lemma_is_range.ensures.tree in
    subst (λ r. AnswersTo r (Err c.in-Err.error)) (sym meant)
    (scalar_ends c.args.place left_meant _ right_meant c.in-Err.error chosen (c.in-Err.ensures.answer history Predict right_may))

pub range_call::prediction-returns-in-Err-clause-taken : goal.range_call::prediction-returns-in-Err-clause-taken
range_call::prediction-returns-in-Err-clause-taken g t c = λ history may.
    let scope = c.args.scope.now in
    let n = c.args.number.now.ranges in
    let now = trees_of c.args.args.now in
    let before = kept_by (g.R.Ranges.last c.args.ranges.now) (g.R.Ranges.passed c.args.ranges.now) in
    let Fits = g.R.Ranges.fits c.args.ranges.now history in
    let left = tree_of c.args.e.now in
    let right = tree_of c.args.scalar.now in
    let two = c.lemma_are_pair.ensures.two in
    let behind = n + ranges_in left in
    let left_meant = ranges scope.step history left scope.time in
    let right_meant = meaning scope.step history right scope.time in
    let meant = ap (λ u. go_on (value_of_call history c.args.place PredictLinear u scope.time) (operands scope.step history u scope.time)) c.lemma_are_pair.ensures.args ∙ call_before scope.step history c.args.place left right scope.time c.requires.typed (scalar_valued right c.requires.scalar) in
    let m = c.behind_range.result.ranges in
    let is : m ≡ behind = ap (λ (k : SelectorCounts). k.ranges) c.behind_range.ensures in
    let right_may = second_may_begin g.R.Ranges.keeps scope.inside scope.step history Predict now left right two n m scope.time is scope.head.now before Fits may in
    let between = kept_by (g.R.Ranges.last c.eval_at.new.ranges) (g.R.Ranges.passed c.eval_at.new.ranges) in
    let Fits1 = g.R.Ranges.fits c.eval_at.new.ranges history in
    second_ends g.R.Ranges.keeps scope.inside scope.step history Predict now left right two n m scope.time is before between Fits1 c.args.reads.now c.eval_at.new.reads c.in-Err.error (c.in-Err.ensures.taken history Predict right_may)

pub range_call::prediction-returns-in-Err-series_of-clause-answer : goal.range_call::prediction-returns-in-Err-series_of-clause-answer
range_call::prediction-returns-in-Err-series_of-clause-answer g t c = λ history may.
    let scope = c.args.scope.now in
    let n = c.args.number.now.ranges in
    let now = trees_of c.args.args.now in
    let before = kept_by (g.R.Ranges.last c.args.ranges.now) (g.R.Ranges.passed c.args.ranges.now) in
    let Fits = g.R.Ranges.fits c.args.ranges.now history in
    let left = tree_of c.args.e.now in
    let right = tree_of c.args.scalar.now in
    let two = c.lemma_are_pair.ensures.two in
    let behind = n + ranges_in left in
    let left_meant = ranges scope.step history left scope.time in
    let right_meant = meaning scope.step history right scope.time in
    let meant = ap (λ u. go_on (value_of_call history c.args.place PredictLinear u scope.time) (operands scope.step history u scope.time)) c.lemma_are_pair.ensures.args ∙ call_before scope.step history c.args.place left right scope.time c.requires.typed (scalar_valued right c.requires.scalar) in
    let left_may = first_may g.R.Ranges.keeps scope.inside scope.step history Predict now left right two n behind scope.time refl scope.head.now before Fits may in
    let between = kept_by (g.R.Ranges.last c.series_of.new.ranges) (g.R.Ranges.passed c.series_of.new.ranges) in
    let Fits1 = g.R.Ranges.fits c.series_of.new.ranges history in
    subst (λ r. AnswersTo r (Err c.in-Err-series_of.error)) (sym meant)
    (series_end (λ s. go_on (λ v. made_of (prediction_by c.args.place v) s) right_meant) left_meant c.in-Err-series_of.error (c.in-Err-series_of.ensures.answer history Predict left_may))

pub range_call::prediction-returns-in-Err-series_of-clause-taken : goal.range_call::prediction-returns-in-Err-series_of-clause-taken
range_call::prediction-returns-in-Err-series_of-clause-taken g t c = λ history may.
    let scope = c.args.scope.now in
    let n = c.args.number.now.ranges in
    let now = trees_of c.args.args.now in
    let before = kept_by (g.R.Ranges.last c.args.ranges.now) (g.R.Ranges.passed c.args.ranges.now) in
    let Fits = g.R.Ranges.fits c.args.ranges.now history in
    let left = tree_of c.args.e.now in
    let right = tree_of c.args.scalar.now in
    let two = c.lemma_are_pair.ensures.two in
    let behind = n + ranges_in left in
    let left_meant = ranges scope.step history left scope.time in
    let right_meant = meaning scope.step history right scope.time in
    let meant = ap (λ u. go_on (value_of_call history c.args.place PredictLinear u scope.time) (operands scope.step history u scope.time)) c.lemma_are_pair.ensures.args ∙ call_before scope.step history c.args.place left right scope.time c.requires.typed (scalar_valued right c.requires.scalar) in
    let left_may = first_may g.R.Ranges.keeps scope.inside scope.step history Predict now left right two n behind scope.time refl scope.head.now before Fits may in
    let between = kept_by (g.R.Ranges.last c.series_of.new.ranges) (g.R.Ranges.passed c.series_of.new.ranges) in
    let Fits1 = g.R.Ranges.fits c.series_of.new.ranges history in
    one_taken g.R.Ranges.keeps scope.inside scope.step history Predict now left right two n behind scope.time refl before between Fits1 c.args.reads.now c.series_of.new.reads c.in-Err-series_of.error (c.in-Err-series_of.ensures.taken history Predict left_may)

pub range_call::prediction-returns-in-Err-eval_at-clause-answer : goal.range_call::prediction-returns-in-Err-eval_at-clause-answer
range_call::prediction-returns-in-Err-eval_at-clause-answer g t c = λ history may.
    let scope = c.args.scope.now in
    let n = c.args.number.now.ranges in
    let now = trees_of c.args.args.now in
    let before = kept_by (g.R.Ranges.last c.args.ranges.now) (g.R.Ranges.passed c.args.ranges.now) in
    let Fits = g.R.Ranges.fits c.args.ranges.now history in
    let left = tree_of c.args.e.now in
    let right = tree_of c.args.scalar.now in
    let two = c.lemma_are_pair.ensures.two in
    let behind = n + ranges_in left in
    let left_meant = ranges scope.step history left scope.time in
    let right_meant = meaning scope.step history right scope.time in
    let meant = ap (λ u. go_on (value_of_call history c.args.place PredictLinear u scope.time) (operands scope.step history u scope.time)) c.lemma_are_pair.ensures.args ∙ call_before scope.step history c.args.place left right scope.time c.requires.typed (scalar_valued right c.requires.scalar) in
    let left_may = first_may g.R.Ranges.keeps scope.inside scope.step history Predict now left right two n behind scope.time refl scope.head.now before Fits may in
    let between = kept_by (g.R.Ranges.last c.series_of.new.ranges) (g.R.Ranges.passed c.series_of.new.ranges) in
    let Fits1 = g.R.Ranges.fits c.series_of.new.ranges history in
    let m = c.series_of.new.number.ranges in
    let is : m ≡ behind = ap (λ (k : SelectorCounts). k.ranges) c.in-Ok-series_of.ensures.count in
    let first = c.in-Ok-series_of.ensures.taken history Predict left_may in
    let series = c.in-Ok-series_of.ensures.answer history Predict left_may in
    let right_may = second_may g.R.Ranges.keeps scope.inside scope.step history Predict now left right two n m scope.time is scope.head.now before between Fits Fits1 c.args.reads.now c.series_of.new.reads c.in-Ok-series_of.series may first in
    let last = kept_by (g.R.Ranges.last c.eval_at-in-Ok-series_of.new.ranges) (g.R.Ranges.passed c.eval_at-in-Ok-series_of.new.ranges) in
    let Fits2 = g.R.Ranges.fits c.eval_at-in-Ok-series_of.new.ranges history in
    let known = series_are left_meant c.in-Ok-series_of.series series in
    subst (λ r. AnswersTo r (Err c.in-Err-eval_at.error)) (sym meant)
    (scalar_ends c.args.place left_meant known.0 right_meant c.in-Err-eval_at.error known.1 (c.in-Err-eval_at.ensures.answer history Predict right_may))

pub range_call::prediction-returns-in-Err-eval_at-clause-taken : goal.range_call::prediction-returns-in-Err-eval_at-clause-taken
range_call::prediction-returns-in-Err-eval_at-clause-taken g t c = λ history may.
    let scope = c.args.scope.now in
    let n = c.args.number.now.ranges in
    let now = trees_of c.args.args.now in
    let before = kept_by (g.R.Ranges.last c.args.ranges.now) (g.R.Ranges.passed c.args.ranges.now) in
    let Fits = g.R.Ranges.fits c.args.ranges.now history in
    let left = tree_of c.args.e.now in
    let right = tree_of c.args.scalar.now in
    let two = c.lemma_are_pair.ensures.two in
    let behind = n + ranges_in left in
    let left_meant = ranges scope.step history left scope.time in
    let right_meant = meaning scope.step history right scope.time in
    let meant = ap (λ u. go_on (value_of_call history c.args.place PredictLinear u scope.time) (operands scope.step history u scope.time)) c.lemma_are_pair.ensures.args ∙ call_before scope.step history c.args.place left right scope.time c.requires.typed (scalar_valued right c.requires.scalar) in
    let left_may = first_may g.R.Ranges.keeps scope.inside scope.step history Predict now left right two n behind scope.time refl scope.head.now before Fits may in
    let between = kept_by (g.R.Ranges.last c.series_of.new.ranges) (g.R.Ranges.passed c.series_of.new.ranges) in
    let Fits1 = g.R.Ranges.fits c.series_of.new.ranges history in
    let m = c.series_of.new.number.ranges in
    let is : m ≡ behind = ap (λ (k : SelectorCounts). k.ranges) c.in-Ok-series_of.ensures.count in
    let first = c.in-Ok-series_of.ensures.taken history Predict left_may in
    let series = c.in-Ok-series_of.ensures.answer history Predict left_may in
    let right_may = second_may g.R.Ranges.keeps scope.inside scope.step history Predict now left right two n m scope.time is scope.head.now before between Fits Fits1 c.args.reads.now c.series_of.new.reads c.in-Ok-series_of.series may first in
    let last = kept_by (g.R.Ranges.last c.eval_at-in-Ok-series_of.new.ranges) (g.R.Ranges.passed c.eval_at-in-Ok-series_of.new.ranges) in
    let Fits2 = g.R.Ranges.fits c.eval_at-in-Ok-series_of.new.ranges history in
    two_taken g.R.Ranges.keeps scope.inside scope.step history Predict now left right two n m scope.time is before between last Fits1 Fits2 c.args.reads.now c.series_of.new.reads c.eval_at-in-Ok-series_of.new.reads c.in-Ok-series_of.series (Err c.in-Err-eval_at.error) first (c.in-Err-eval_at.ensures.taken history Predict right_may)

pub range_call::prediction-returns-in-Ok-eval_at-clause-answer : goal.range_call::prediction-returns-in-Ok-eval_at-clause-answer
range_call::prediction-returns-in-Ok-eval_at-clause-answer g t c = λ history may.
    let scope = c.args.scope.now in
    let n = c.args.number.now.ranges in
    let now = trees_of c.args.args.now in
    let before = kept_by (g.R.Ranges.last c.args.ranges.now) (g.R.Ranges.passed c.args.ranges.now) in
    let Fits = g.R.Ranges.fits c.args.ranges.now history in
    let left = tree_of c.args.e.now in
    let right = tree_of c.args.scalar.now in
    let two = c.lemma_are_pair.ensures.two in
    let behind = n + ranges_in left in
    let left_meant = ranges scope.step history left scope.time in
    let right_meant = meaning scope.step history right scope.time in
    let meant = ap (λ u. go_on (value_of_call history c.args.place PredictLinear u scope.time) (operands scope.step history u scope.time)) c.lemma_are_pair.ensures.args ∙ call_before scope.step history c.args.place left right scope.time c.requires.typed (scalar_valued right c.requires.scalar) in
    let left_may = first_may g.R.Ranges.keeps scope.inside scope.step history Predict now left right two n behind scope.time refl scope.head.now before Fits may in
    let between = kept_by (g.R.Ranges.last c.series_of.new.ranges) (g.R.Ranges.passed c.series_of.new.ranges) in
    let Fits1 = g.R.Ranges.fits c.series_of.new.ranges history in
    let m = c.series_of.new.number.ranges in
    let is : m ≡ behind = ap (λ (k : SelectorCounts). k.ranges) c.in-Ok-series_of.ensures.count in
    let first = c.in-Ok-series_of.ensures.taken history Predict left_may in
    let series = c.in-Ok-series_of.ensures.answer history Predict left_may in
    let right_may = second_may g.R.Ranges.keeps scope.inside scope.step history Predict now left right two n m scope.time is scope.head.now before between Fits Fits1 c.args.reads.now c.series_of.new.reads c.in-Ok-series_of.series may first in
    let last = kept_by (g.R.Ranges.last c.eval_at-in-Ok-series_of.new.ranges) (g.R.Ranges.passed c.eval_at-in-Ok-series_of.new.ranges) in
    let Fits2 = g.R.Ranges.fits c.eval_at-in-Ok-series_of.new.ranges history in
    subst (λ r. AnswersTo r c.over_gathered.result) (sym meant)
    (predicted c.args.place left_meant right_meant c.in-Ok-eval_at.value c.over_gathered.result (c.in-Ok-eval_at.ensures.answer history Predict right_may)
    (subst (λ u. AnswersTo (go_on (made_of u) left_meant) c.over_gathered.result) c.prediction_by-made-in-Ok-eval_at.ensures (c.over_gathered.ensures.answer left_meant series)))

pub range_call::prediction-returns-in-Ok-eval_at-clause-taken : goal.range_call::prediction-returns-in-Ok-eval_at-clause-taken
range_call::prediction-returns-in-Ok-eval_at-clause-taken g t c = λ history may.
    let scope = c.args.scope.now in
    let n = c.args.number.now.ranges in
    let now = trees_of c.args.args.now in
    let before = kept_by (g.R.Ranges.last c.args.ranges.now) (g.R.Ranges.passed c.args.ranges.now) in
    let Fits = g.R.Ranges.fits c.args.ranges.now history in
    let left = tree_of c.args.e.now in
    let right = tree_of c.args.scalar.now in
    let two = c.lemma_are_pair.ensures.two in
    let behind = n + ranges_in left in
    let left_meant = ranges scope.step history left scope.time in
    let right_meant = meaning scope.step history right scope.time in
    let meant = ap (λ u. go_on (value_of_call history c.args.place PredictLinear u scope.time) (operands scope.step history u scope.time)) c.lemma_are_pair.ensures.args ∙ call_before scope.step history c.args.place left right scope.time c.requires.typed (scalar_valued right c.requires.scalar) in
    let left_may = first_may g.R.Ranges.keeps scope.inside scope.step history Predict now left right two n behind scope.time refl scope.head.now before Fits may in
    let between = kept_by (g.R.Ranges.last c.series_of.new.ranges) (g.R.Ranges.passed c.series_of.new.ranges) in
    let Fits1 = g.R.Ranges.fits c.series_of.new.ranges history in
    let m = c.series_of.new.number.ranges in
    let is : m ≡ behind = ap (λ (k : SelectorCounts). k.ranges) c.in-Ok-series_of.ensures.count in
    let first = c.in-Ok-series_of.ensures.taken history Predict left_may in
    let series = c.in-Ok-series_of.ensures.answer history Predict left_may in
    let right_may = second_may g.R.Ranges.keeps scope.inside scope.step history Predict now left right two n m scope.time is scope.head.now before between Fits Fits1 c.args.reads.now c.series_of.new.reads c.in-Ok-series_of.series may first in
    let last = kept_by (g.R.Ranges.last c.eval_at-in-Ok-series_of.new.ranges) (g.R.Ranges.passed c.eval_at-in-Ok-series_of.new.ranges) in
    let Fits2 = g.R.Ranges.fits c.eval_at-in-Ok-series_of.new.ranges history in
    two_taken_as g.R.Ranges.keeps scope.inside scope.step history Predict now left right two n m scope.time is before between last Fits1 Fits2 c.args.reads.now c.series_of.new.reads c.eval_at-in-Ok-series_of.new.reads c.in-Ok-series_of.series c.in-Ok-eval_at.value c.over_gathered.result first (c.in-Ok-eval_at.ensures.taken history Predict right_may)

pub range_call::range_call-returns-in_ok-made-in-Alone-clause-answer : goal.range_call::range_call-returns-in_ok-made-in-Alone-clause-answer
range_call::range_call-returns-in_ok-made-in-Alone-clause-answer g t c = λ history func may.
    let scope = c.args.scope.now in
    let n = c.args.number.now.ranges in
    let now = tree_of c.args.e.now in
    let before = kept_by (g.R.Ranges.last c.args.ranges.now) (g.R.Ranges.passed c.args.ranges.now) in
    let Fits = g.R.Ranges.fits c.args.ranges.now history in
    let ts = trees_of c.args.args.now in
    let f = c.args.func in
    let args_may = part_may g.R.Ranges.keeps scope.inside scope.step history func now ts [] (λ h. asked_for f) c.lemma_is_range_call.ensures.one n scope.time scope.head.now before Fits may in
    let range = c.in-Alone.range.now in
    let t = tree_of range in
    let known = c.in-Alone.ensures in
    let made_is = c.in_ok-made-in-Alone.ensures in
    let func_is = ap (λ u. (call_in u).func) made_is ∙ use_func c.args.e.now.place f ts c.requires.range in
    let range_may = part_may g.R.Ranges.keeps scope.inside scope.step history (asked_for f) ts t [] (λ h. h) c.lemma_is_alone.ensures.one n scope.time scope.head.now before Fits args_may in
    let over_may = subst (λ q. MayTake scope.head.now scope.inside history q t scope.time n Fits before.last) (sym func_is) range_may in
    let after = kept_by (g.R.Ranges.last c.over_range.new.ranges) (g.R.Ranges.passed c.over_range.new.ranges) in
    let Fits' = g.R.Ranges.fits c.over_range.new.ranges history in
    let meant = ap (λ u. meaning scope.step history u scope.time) (c.lemma_is_range_call.ensures.tree ∙ ap (call c.args.e.now.place f) known.0) ∙ call_alone scope.step history c.args.e.now.place f t scope.time c.requires.range known.1.1 known.1.0 in
    let made = made_is ∙ ap (use_alone c.args.e.now.place f) known.0 in
    subst (λ m. AnswersTo m c.over_range.result) (sym (meant ∙ ap (λ u. go_on (made_of u) (ranges scope.step history t scope.time)) (sym made))) (c.over_range.ensures.answer history over_may)

pub range_call::range_call-returns-in_ok-made-in-Alone-clause-taken : goal.range_call::range_call-returns-in_ok-made-in-Alone-clause-taken
range_call::range_call-returns-in_ok-made-in-Alone-clause-taken g t c = λ history func may.
    let scope = c.args.scope.now in
    let n = c.args.number.now.ranges in
    let now = tree_of c.args.e.now in
    let before = kept_by (g.R.Ranges.last c.args.ranges.now) (g.R.Ranges.passed c.args.ranges.now) in
    let Fits = g.R.Ranges.fits c.args.ranges.now history in
    let ts = trees_of c.args.args.now in
    let f = c.args.func in
    let args_may = part_may g.R.Ranges.keeps scope.inside scope.step history func now ts [] (λ h. asked_for f) c.lemma_is_range_call.ensures.one n scope.time scope.head.now before Fits may in
    let range = c.in-Alone.range.now in
    let t = tree_of range in
    let known = c.in-Alone.ensures in
    let made_is = c.in_ok-made-in-Alone.ensures in
    let func_is = ap (λ u. (call_in u).func) made_is ∙ use_func c.args.e.now.place f ts c.requires.range in
    let range_may = part_may g.R.Ranges.keeps scope.inside scope.step history (asked_for f) ts t [] (λ h. h) c.lemma_is_alone.ensures.one n scope.time scope.head.now before Fits args_may in
    let over_may = subst (λ q. MayTake scope.head.now scope.inside history q t scope.time n Fits before.last) (sym func_is) range_may in
    let after = kept_by (g.R.Ranges.last c.over_range.new.ranges) (g.R.Ranges.passed c.over_range.new.ranges) in
    let Fits' = g.R.Ranges.fits c.over_range.new.ranges history in
    part_taken g.R.Ranges.keeps scope.inside scope.step history func now ts [] (λ h. asked_for f) c.lemma_is_range_call.ensures.one n scope.time before after Fits' c.args.reads.now c.over_range.new.reads c.over_range.result
    (part_taken g.R.Ranges.keeps scope.inside scope.step history (asked_for f) ts t [] (λ h. h) c.lemma_is_alone.ensures.one n scope.time before after Fits' c.args.reads.now c.over_range.new.reads c.over_range.result
    (subst (λ q. IsEvaluated g.R.Ranges.keeps scope.inside scope.step history q t scope.time n before after Fits' c.args.reads.now c.over_range.new.reads c.over_range.result) func_is (c.over_range.ensures.taken history over_may)))

pub range_call::range_call-returns-in-Err-clause-answer : goal.range_call::range_call-returns-in-Err-clause-answer
range_call::range_call-returns-in-Err-clause-answer g t c = λ history func may.
    let scope = c.args.scope.now in
    let n = c.args.number.now.ranges in
    let now = tree_of c.args.e.now in
    let before = kept_by (g.R.Ranges.last c.args.ranges.now) (g.R.Ranges.passed c.args.ranges.now) in
    let Fits = g.R.Ranges.fits c.args.ranges.now history in
    let ts = trees_of c.args.args.now in
    let f = c.args.func in
    let args_may = part_may g.R.Ranges.keeps scope.inside scope.step history func now ts [] (λ h. asked_for f) c.lemma_is_range_call.ensures.one n scope.time scope.head.now before Fits may in
    let known = c.in-Behind.ensures in
    let left = tree_of c.in-Behind.scalar.now in
    let t = tree_of c.in-Behind.range.now in
    let two = c.lemma_are_pair.ensures.two in
    let left_meant = meaning scope.step history left scope.time in
    let right_meant = ranges scope.step history t scope.time in
    let left_may = first_may g.R.Ranges.keeps scope.inside scope.step history (asked_for f) ts left t two n (n + ranges_in left) scope.time refl scope.head.now before Fits args_may in
    let between = kept_by (g.R.Ranges.last c.eval_at.new.ranges) (g.R.Ranges.passed c.eval_at.new.ranges) in
    let Fits1 = g.R.Ranges.fits c.eval_at.new.ranges history in
    let meant = ap (λ u. meaning scope.step history u scope.time) (c.lemma_is_range_call.ensures.tree ∙ (λ i. call c.args.e.now.place (known.0 i) (known.1.0 i))) ∙ call_behind scope.step history c.args.e.now.place left t scope.time (scalar_valued left known.1.1.0) known.1.1.1 in
    subst (λ m. AnswersTo m (Err c.in-Err.error)) (sym meant)
    (ends (λ v. go_on (made_of (quantile_by c.args.e.now.place v)) right_meant) left_meant c.in-Err.error (c.in-Err.ensures.answer history (asked_for f) left_may))

pub range_call::range_call-returns-in-Err-clause-taken : goal.range_call::range_call-returns-in-Err-clause-taken
range_call::range_call-returns-in-Err-clause-taken g t c = λ history func may.
    let scope = c.args.scope.now in
    let n = c.args.number.now.ranges in
    let now = tree_of c.args.e.now in
    let before = kept_by (g.R.Ranges.last c.args.ranges.now) (g.R.Ranges.passed c.args.ranges.now) in
    let Fits = g.R.Ranges.fits c.args.ranges.now history in
    let ts = trees_of c.args.args.now in
    let f = c.args.func in
    let args_may = part_may g.R.Ranges.keeps scope.inside scope.step history func now ts [] (λ h. asked_for f) c.lemma_is_range_call.ensures.one n scope.time scope.head.now before Fits may in
    let known = c.in-Behind.ensures in
    let left = tree_of c.in-Behind.scalar.now in
    let t = tree_of c.in-Behind.range.now in
    let two = c.lemma_are_pair.ensures.two in
    let left_meant = meaning scope.step history left scope.time in
    let right_meant = ranges scope.step history t scope.time in
    let left_may = first_may g.R.Ranges.keeps scope.inside scope.step history (asked_for f) ts left t two n (n + ranges_in left) scope.time refl scope.head.now before Fits args_may in
    let between = kept_by (g.R.Ranges.last c.eval_at.new.ranges) (g.R.Ranges.passed c.eval_at.new.ranges) in
    let Fits1 = g.R.Ranges.fits c.eval_at.new.ranges history in
    let meant = ap (λ u. meaning scope.step history u scope.time) (c.lemma_is_range_call.ensures.tree ∙ (λ i. call c.args.e.now.place (known.0 i) (known.1.0 i))) ∙ call_behind scope.step history c.args.e.now.place left t scope.time (scalar_valued left known.1.1.0) known.1.1.1 in
    part_taken g.R.Ranges.keeps scope.inside scope.step history func now ts [] (λ h. asked_for f) c.lemma_is_range_call.ensures.one n scope.time before between Fits1 c.args.reads.now c.eval_at.new.reads (Err c.in-Err.error)
    (one_taken g.R.Ranges.keeps scope.inside scope.step history (asked_for f) ts left t two n (n + ranges_in left) scope.time refl before between Fits1 c.args.reads.now c.eval_at.new.reads c.in-Err.error (c.in-Err.ensures.taken history (asked_for f) left_may))

pub range_call::range_call-returns-in-Ok-clause-answer : goal.range_call::range_call-returns-in-Ok-clause-answer
range_call::range_call-returns-in-Ok-clause-answer g t c = λ history func may.
    let scope = c.args.scope.now in
    let n = c.args.number.now.ranges in
    let now = tree_of c.args.e.now in
    let before = kept_by (g.R.Ranges.last c.args.ranges.now) (g.R.Ranges.passed c.args.ranges.now) in
    let Fits = g.R.Ranges.fits c.args.ranges.now history in
    let ts = trees_of c.args.args.now in
    let f = c.args.func in
    let args_may = part_may g.R.Ranges.keeps scope.inside scope.step history func now ts [] (λ h. asked_for f) c.lemma_is_range_call.ensures.one n scope.time scope.head.now before Fits may in
    let known = c.in-Behind.ensures in
    let left = tree_of c.in-Behind.scalar.now in
    let t = tree_of c.in-Behind.range.now in
    let two = c.lemma_are_pair.ensures.two in
    let left_meant = meaning scope.step history left scope.time in
    let right_meant = ranges scope.step history t scope.time in
    let left_may = first_may g.R.Ranges.keeps scope.inside scope.step history (asked_for f) ts left t two n (n + ranges_in left) scope.time refl scope.head.now before Fits args_may in
    let between = kept_by (g.R.Ranges.last c.eval_at.new.ranges) (g.R.Ranges.passed c.eval_at.new.ranges) in
    let Fits1 = g.R.Ranges.fits c.eval_at.new.ranges history in
    let meant = ap (λ u. meaning scope.step history u scope.time) (c.lemma_is_range_call.ensures.tree ∙ (λ i. call c.args.e.now.place (known.0 i) (known.1.0 i))) ∙ call_behind scope.step history c.args.e.now.place left t scope.time (scalar_valued left known.1.1.0) known.1.1.1 in
    let m = c.eval_at.new.number.ranges in
    let is : m ≡ n + ranges_in left = ap (λ (k : SelectorCounts). k.ranges) c.in-Ok.ensures.count in
    let first = c.in-Ok.ensures.taken history (asked_for f) left_may in
    let range_may = second_may g.R.Ranges.keeps scope.inside scope.step history (asked_for f) ts left t two n m scope.time is scope.head.now before between Fits Fits1 c.args.reads.now c.eval_at.new.reads c.in-Ok.value args_may first in
    let func_is = ap (λ u. (call_in u).func) c.quantile_by-made.ensures ∙ sym (ap asked_for known.0) in
    let over_may = subst (λ q. MayTake scope.head.now scope.inside history q t scope.time m Fits1 between.last) (sym func_is) range_may in
    let last = kept_by (g.R.Ranges.last c.over_range-in-Ok.new.ranges) (g.R.Ranges.passed c.over_range-in-Ok.new.ranges) in
    let Fits2 = g.R.Ranges.fits c.over_range-in-Ok.new.ranges history in
    subst (λ m. AnswersTo m c.over_range-in-Ok.result) (sym meant)
    (gives (λ v. go_on (made_of (quantile_by c.args.e.now.place v)) right_meant) left_meant c.in-Ok.value c.over_range-in-Ok.result (c.in-Ok.ensures.answer history (asked_for f) left_may)
    (subst (λ u. AnswersTo (go_on (made_of u) right_meant) c.over_range-in-Ok.result) c.quantile_by-made.ensures (c.over_range-in-Ok.ensures.answer history over_may)))

pub range_call::range_call-returns-in-Ok-clause-taken : goal.range_call::range_call-returns-in-Ok-clause-taken
range_call::range_call-returns-in-Ok-clause-taken g t c = λ history func may.
    let scope = c.args.scope.now in
    let n = c.args.number.now.ranges in
    let now = tree_of c.args.e.now in
    let before = kept_by (g.R.Ranges.last c.args.ranges.now) (g.R.Ranges.passed c.args.ranges.now) in
    let Fits = g.R.Ranges.fits c.args.ranges.now history in
    let ts = trees_of c.args.args.now in
    let f = c.args.func in
    let args_may = part_may g.R.Ranges.keeps scope.inside scope.step history func now ts [] (λ h. asked_for f) c.lemma_is_range_call.ensures.one n scope.time scope.head.now before Fits may in
    let known = c.in-Behind.ensures in
    let left = tree_of c.in-Behind.scalar.now in
    let t = tree_of c.in-Behind.range.now in
    let two = c.lemma_are_pair.ensures.two in
    let left_meant = meaning scope.step history left scope.time in
    let right_meant = ranges scope.step history t scope.time in
    let left_may = first_may g.R.Ranges.keeps scope.inside scope.step history (asked_for f) ts left t two n (n + ranges_in left) scope.time refl scope.head.now before Fits args_may in
    let between = kept_by (g.R.Ranges.last c.eval_at.new.ranges) (g.R.Ranges.passed c.eval_at.new.ranges) in
    let Fits1 = g.R.Ranges.fits c.eval_at.new.ranges history in
    let meant = ap (λ u. meaning scope.step history u scope.time) (c.lemma_is_range_call.ensures.tree ∙ (λ i. call c.args.e.now.place (known.0 i) (known.1.0 i))) ∙ call_behind scope.step history c.args.e.now.place left t scope.time (scalar_valued left known.1.1.0) known.1.1.1 in
    let m = c.eval_at.new.number.ranges in
    let is : m ≡ n + ranges_in left = ap (λ (k : SelectorCounts). k.ranges) c.in-Ok.ensures.count in
    let first = c.in-Ok.ensures.taken history (asked_for f) left_may in
    let range_may = second_may g.R.Ranges.keeps scope.inside scope.step history (asked_for f) ts left t two n m scope.time is scope.head.now before between Fits Fits1 c.args.reads.now c.eval_at.new.reads c.in-Ok.value args_may first in
    let func_is = ap (λ u. (call_in u).func) c.quantile_by-made.ensures ∙ sym (ap asked_for known.0) in
    let over_may = subst (λ q. MayTake scope.head.now scope.inside history q t scope.time m Fits1 between.last) (sym func_is) range_may in
    let last = kept_by (g.R.Ranges.last c.over_range-in-Ok.new.ranges) (g.R.Ranges.passed c.over_range-in-Ok.new.ranges) in
    let Fits2 = g.R.Ranges.fits c.over_range-in-Ok.new.ranges history in
    part_taken g.R.Ranges.keeps scope.inside scope.step history func now ts [] (λ h. asked_for f) c.lemma_is_range_call.ensures.one n scope.time before last Fits2 c.args.reads.now c.over_range-in-Ok.new.reads c.over_range-in-Ok.result
    (two_taken g.R.Ranges.keeps scope.inside scope.step history (asked_for f) ts left t two n m scope.time is before between last Fits1 Fits2 c.args.reads.now c.eval_at.new.reads c.over_range-in-Ok.new.reads c.in-Ok.value c.over_range-in-Ok.result first
    (subst (λ q. IsEvaluated g.R.Ranges.keeps scope.inside scope.step history q t scope.time m between last Fits2 c.eval_at.new.reads c.over_range-in-Ok.new.reads c.over_range-in-Ok.result) func_is (c.over_range-in-Ok.ensures.taken history over_may)))

pub range_call::range_call-returns-in-Before-clause-answer : goal.range_call::range_call-returns-in-Before-clause-answer
range_call::range_call-returns-in-Before-clause-answer g t c = λ history func may.
    let scope = c.args.scope.now in
    let n = c.args.number.now.ranges in
    let now = tree_of c.args.e.now in
    let before = kept_by (g.R.Ranges.last c.args.ranges.now) (g.R.Ranges.passed c.args.ranges.now) in
    let Fits = g.R.Ranges.fits c.args.ranges.now history in
    let ts = trees_of c.args.args.now in
    let f = c.args.func in
    let args_may = part_may g.R.Ranges.keeps scope.inside scope.step history func now ts [] (λ h. asked_for f) c.lemma_is_range_call.ensures.one n scope.time scope.head.now before Fits may in
    let known = c.in-Before.ensures in
    let func_is = ap asked_for known.0 in
    let over_may = subst (λ q. MayTake scope.head.now scope.inside history q ts scope.time n Fits before.last) func_is args_may in
    let after = kept_by (g.R.Ranges.last c.prediction.new.ranges) (g.R.Ranges.passed c.prediction.new.ranges) in
    let Fits' = g.R.Ranges.fits c.prediction.new.ranges history in
    subst (λ u. AnswersTo (meaning scope.step history u scope.time) c.prediction.result) (sym (c.lemma_is_range_call.ensures.tree ∙ ap (λ g. call c.args.e.now.place g ts) known.0)) (c.prediction.ensures.answer history over_may)

pub range_call::over_range-returns-in-Ok-clause-answer : goal.range_call::over_range-returns-in-Ok-clause-answer
range_call::over_range-returns-in-Ok-clause-answer g t c = λ history may.
    let scope = c.args.scope.now in
    c.over_gathered.ensures.answer (series_meant scope.step history (tree_of c.args.e.now) scope.time) (c.in-Ok.ensures.answer history (call_in c.args.made.now).func may)

pub range_call::over_range-returns-in-Ok-clause-taken : goal.range_call::over_range-returns-in-Ok-clause-taken
range_call::over_range-returns-in-Ok-clause-taken g t c = λ history may.
    let scope = c.args.scope.now in
    let n = c.args.number.now.ranges in
    let now = tree_of c.args.e.now in
    let before = kept_by (g.R.Ranges.last c.args.ranges.now) (g.R.Ranges.passed c.args.ranges.now) in
    let Fits = g.R.Ranges.fits c.args.ranges.now history in
    took_as g.R.Ranges.keeps history _ n _ before (kept_by (g.R.Ranges.last c.series_of.new.ranges) (g.R.Ranges.passed c.series_of.new.ranges)) (g.R.Ranges.fits c.series_of.new.ranges history) c.args.reads.now c.series_of.new.reads c.in-Ok.series c.over_gathered.result
    (c.in-Ok.ensures.taken history (call_in c.args.made.now).func may)

pub range_call::over_range-returns-in-Err-clause-answer : goal.range_call::over_range-returns-in-Err-clause-answer
range_call::over_range-returns-in-Err-clause-answer g t c = λ history may.
    let scope = c.args.scope.now in
    series_end (made_of c.args.made.now) (series_meant scope.step history (tree_of c.args.e.now) scope.time) c.in-Err.error (c.in-Err.ensures.answer history (call_in c.args.made.now).func may)

pub range_call::over_range-returns-in-Err-clause-taken : goal.range_call::over_range-returns-in-Err-clause-taken
range_call::over_range-returns-in-Err-clause-taken g t c = λ history may.
    let scope = c.args.scope.now in
    let n = c.args.number.now.ranges in
    let now = tree_of c.args.e.now in
    let before = kept_by (g.R.Ranges.last c.args.ranges.now) (g.R.Ranges.passed c.args.ranges.now) in
    let Fits = g.R.Ranges.fits c.args.ranges.now history in
    took_fault g.R.Ranges.keeps history _ n _ before (kept_by (g.R.Ranges.last c.series_of.new.ranges) (g.R.Ranges.passed c.series_of.new.ranges)) (g.R.Ranges.fits c.series_of.new.ranges history) c.args.reads.now c.series_of.new.reads c.in-Err.error
    (c.in-Err.ensures.taken history (call_in c.args.made.now).func may)

pub range_call::prediction-lemma_stands_at-requires : goal.range_call::prediction-lemma_stands_at-requires
range_call::prediction-lemma_stands_at-requires g t c =
    c.lemma_are_pair.ensures.first_part (tree_of c.args.scope.now.checked.now) c.args.number.now c.requires.part

pub range_call::prediction-lemma_arg_stands_at-requires-clause-part : goal.range_call::prediction-lemma_arg_stands_at-requires-clause-part
range_call::prediction-lemma_arg_stands_at-requires-clause-part g t c =
    c.lemma_are_pair.ensures.second_part (tree_of c.args.scope.now.checked.now) c.args.number.now c.behind_range.result c.behind_range.ensures c.requires.part

pub range_call::prediction-lemma_arg_stands_at-requires-clause-valued : goal.range_call::prediction-lemma_arg_stands_at-requires-clause-valued
range_call::prediction-lemma_arg_stands_at-requires-clause-valued g t c =
    scalar_valued (tree_of c.args.scalar.now) c.requires.scalar

pub range_call::prediction-lemma_arg_stands_at-requires-in-Ok-series_of-clause-part : goal.range_call::prediction-lemma_arg_stands_at-requires-in-Ok-series_of-clause-part
range_call::prediction-lemma_arg_stands_at-requires-in-Ok-series_of-clause-part g t c =
    c.lemma_are_pair.ensures.second_part (tree_of c.args.scope.now.checked.now) c.args.number.now c.series_of.new.number c.in-Ok-series_of.ensures.count c.requires.part

pub range_call::prediction-lemma_arg_stands_at-requires-in-Ok-series_of-clause-valued : goal.range_call::prediction-lemma_arg_stands_at-requires-in-Ok-series_of-clause-valued
range_call::prediction-lemma_arg_stands_at-requires-in-Ok-series_of-clause-valued g t c =
    scalar_valued (tree_of c.args.scalar.now) c.requires.scalar

pub range_call::range_call-lemma_stands_at-requires : goal.range_call::range_call-lemma_stands_at-requires
range_call::range_call-lemma_stands_at-requires g t c =
    c.lemma_is_alone.ensures.part (tree_of c.args.scope.now.checked.now) c.args.number.now (c.lemma_is_range_call.ensures.part (tree_of c.args.scope.now.checked.now) c.args.number.now c.requires.part)

pub range_call::range_call-lemma_arg_stands_at-requires-clause-part : goal.range_call::range_call-lemma_arg_stands_at-requires-clause-part
range_call::range_call-lemma_arg_stands_at-requires-clause-part g t c =
    c.lemma_are_pair.ensures.first_part (tree_of c.args.scope.now.checked.now) c.args.number.now (c.lemma_is_range_call.ensures.part (tree_of c.args.scope.now.checked.now) c.args.number.now c.requires.part)

pub range_call::range_call-lemma_arg_stands_at-requires-clause-valued : goal.range_call::range_call-lemma_arg_stands_at-requires-clause-valued
range_call::range_call-lemma_arg_stands_at-requires-clause-valued g t c =
    scalar_valued (tree_of c.in-Behind.scalar.now) c.in-Behind.ensures.1.1.0

pub range_call::range_call-lemma_stands_at-requires-in-Ok : goal.range_call::range_call-lemma_stands_at-requires-in-Ok
range_call::range_call-lemma_stands_at-requires-in-Ok g t c =
    c.lemma_are_pair.ensures.second_part (tree_of c.args.scope.now.checked.now) c.args.number.now c.eval_at.new.number c.in-Ok.ensures.count (c.lemma_is_range_call.ensures.part (tree_of c.args.scope.now.checked.now) c.args.number.now c.requires.part)

pub range_call::range_call-lemma_all_stand_at-requires : goal.range_call::range_call-lemma_all_stand_at-requires
range_call::range_call-lemma_all_stand_at-requires g t c =
    c.lemma_is_range_call.ensures.part (tree_of c.args.scope.now.checked.now) c.args.number.now c.requires.part

pub subquery::value_at-returns-clause-answer :
    goal.subquery::value_at-returns-clause-answer
subquery::value_at-returns-clause-answer g t c = λ history keeps fits.
    let may = inside_may c.args.scope.now.head.now history PresentOverTime (tree_of c.args.inner.now) c.args.time c.args.at.ranges (g.R.Ranges.fits c.args.ranges.now history) (g.R.Ranges.last c.args.ranges.now) keeps fits in
    c.eval_at.ensures.answer history PresentOverTime may

pub subquery::value_at-returns-clause-taken :
    goal.subquery::value_at-returns-clause-taken
subquery::value_at-returns-clause-taken g t c = λ history keeps fits.
    let scope = c.args.scope.now in
    let inner = tree_of c.args.inner.now in
    let n = c.args.at.ranges in
    let before = kept_by (g.R.Ranges.last c.args.ranges.now) (g.R.Ranges.passed c.args.ranges.now) in
    let after = kept_by (g.R.Ranges.last c.eval_at.new.ranges) (g.R.Ranges.passed c.eval_at.new.ranges) in
    let may = inside_may scope.head.now history PresentOverTime inner c.args.time n (g.R.Ranges.fits c.args.ranges.now history) before.last keeps fits in
    inside_taken g.R.Ranges.keeps scope.step history PresentOverTime inner c.args.time n before after (g.R.Ranges.fits c.eval_at.new.ranges history) c.args.reads.now c.eval_at.new.reads c.eval_at.result
    (c.eval_at.ensures.taken history PresentOverTime may)

pub subquery::gathered-loop-number-init :
    goal.subquery::gathered-loop-number-init
subquery::gathered-loop-number-init g t c = record {
  ordered = c.no_series-series.ensures.ordered;
  answer = λ history may. ([], (refl, c.no_series-series.ensures.taken));
  taken = λ history may. record { few = omega arith; fits = λ other. may.fits; same = λ other. same_all (kept_by (g.R.Ranges.last c.args.ranges.now) (g.R.Ranges.passed c.args.ranges.now)) };
}

pub subquery::gathered-loop-number-preserved :
    goal.subquery::gathered-loop-number-preserved
subquery::gathered-loop-number-preserved g t c =
    let scope = c.args.scope.now in
    let inner = tree_of c.args.inner.now in
    let times = c.args.times.now in
    let i = c.loop-number.number in
    let time = c.at-time.result in
    record {
      ordered = c.in_ok-take_value-in-Ok.ensures.ordered;
      answer = λ history may.
          let was = c.loop-number.invariant.answer history may in
          let so_far = c.loop-number.invariant.taken history may in
          let value = c.in-Ok.ensures.answer history (may.keeps i time c.at-time.ensures) (so_far.fits (λ e. cc)) in (
            was.0 ++ taken time (elements_in c.in-Ok.value) ∷ [],
            (
              each_more (meaning scope.step history inner) times i (i + 1) time c.in-Ok.value was.0 (omega arith) c.at-time.ensures was.1.0 value,
              c.in_ok-take_value-in-Ok.ensures.taken was.0 was.1.1,
            ),
          );
      taken = λ history may.
          let so_far = c.loop-number.invariant.taken history may in
          let value = c.in-Ok.ensures.taken history (may.keeps i time c.at-time.ensures) (so_far.fits (λ e. cc)) in
          let before = kept_by (g.R.Ranges.last c.args.ranges.now) (g.R.Ranges.passed c.args.ranges.now) in
          let between = kept_by (g.R.Ranges.last c.loop-number.ranges) (g.R.Ranges.passed c.loop-number.ranges) in
          let after = kept_by (g.R.Ranges.last c.value_at.new.ranges) (g.R.Ranges.passed c.value_at.new.ranges) in
          more_taken (cost scope.step history nothing_passed inner c.args.at.ranges) times i time c.at-time.ensures (i + 1) before between after (g.R.Ranges.fits c.loop-number.ranges history) (g.R.Ranges.fits c.value_at.new.ranges history)
          c.args.reads.now c.loop-number.reads c.value_at.new.reads tt c.in-Ok.value _ (omega arith) so_far value;
    }

pub subquery::gathered-returns-in-Err-clause-answer :
    goal.subquery::gathered-returns-in-Err-clause-answer
subquery::gathered-returns-in-Err-clause-answer g t c = λ history may.
    let scope = c.args.scope.now in
    let inner = tree_of c.args.inner.now in
    let i = c.loop-number.number in
    let time = c.at-time.result in
    let was = c.loop-number.invariant.answer history may in
    let so_far = c.loop-number.invariant.taken history may in
    each_fails (meaning scope.step history inner) c.args.times.now i time c.in-Err.error was.0 c.at-time.ensures was.1.0 (c.in-Err.ensures.answer history (may.keeps i time c.at-time.ensures) (so_far.fits (λ e. cc)))

pub subquery::gathered-returns-in-Err-clause-taken :
    goal.subquery::gathered-returns-in-Err-clause-taken
subquery::gathered-returns-in-Err-clause-taken g t c = λ history may.
    let scope = c.args.scope.now in
    let inner = tree_of c.args.inner.now in
    let i = c.loop-number.number in
    let time = c.at-time.result in
    let so_far = c.loop-number.invariant.taken history may in
    let before = kept_by (g.R.Ranges.last c.args.ranges.now) (g.R.Ranges.passed c.args.ranges.now) in
    let between = kept_by (g.R.Ranges.last c.loop-number.ranges) (g.R.Ranges.passed c.loop-number.ranges) in
    let after = kept_by (g.R.Ranges.last c.value_at.new.ranges) (g.R.Ranges.passed c.value_at.new.ranges) in
    last_taken (cost scope.step history nothing_passed inner c.args.at.ranges) c.args.times.now i time c.at-time.ensures before between after (g.R.Ranges.fits c.loop-number.ranges history) (g.R.Ranges.fits c.value_at.new.ranges history)
    c.args.reads.now c.loop-number.reads c.value_at.new.reads tt c.in-Err.error so_far (c.in-Err.ensures.taken history (may.keeps i time c.at-time.ensures) (so_far.fits (λ e. cc)))

pub subquery::gathered-returns-in_err-take_value-in-Ok-clause-taken :
    goal.subquery::gathered-returns-in_err-take_value-in-Ok-clause-taken
subquery::gathered-returns-in_err-take_value-in-Ok-clause-taken g t c = λ history may.
    let scope = c.args.scope.now in
    let inner = tree_of c.args.inner.now in
    let i = c.loop-number.number in
    let time = c.at-time.result in
    let so_far = c.loop-number.invariant.taken history may in
    let before = kept_by (g.R.Ranges.last c.args.ranges.now) (g.R.Ranges.passed c.args.ranges.now) in
    let between = kept_by (g.R.Ranges.last c.loop-number.ranges) (g.R.Ranges.passed c.loop-number.ranges) in
    let after = kept_by (g.R.Ranges.last c.value_at.new.ranges) (g.R.Ranges.passed c.value_at.new.ranges) in
    last_taken_as (cost scope.step history nothing_passed inner c.args.at.ranges) c.args.times.now i time c.at-time.ensures before between after (g.R.Ranges.fits c.loop-number.ranges history) (g.R.Ranges.fits c.value_at.new.ranges history)
    c.args.reads.now c.loop-number.reads c.value_at.new.reads tt c.in-Ok.value c.from_residual.result so_far (c.in-Ok.ensures.taken history (may.keeps i time c.at-time.ensures) (so_far.fits (λ e. cc)))

pub subquery::gathered-returns-clause-answer :
    goal.subquery::gathered-returns-clause-answer
subquery::gathered-returns-clause-answer g t c = λ history may.
    let all = take_all c.loop-number.number c.args.times.now (omega (arith, c.loop-number-test.false, c.count-count.ensures)) in
    let was = c.loop-number.invariant.answer history may in
    (was.0, (subst (λ ts. at_each (meaning c.args.scope.now.step history (tree_of c.args.inner.now)) ts ≡ Ok was.0) all was.1.0, was.1.1))

pub subquery::series_of-step_or-step-requires-clause-own :
    goal.subquery::series_of-step_or-step-requires-clause-own
subquery::series_of-step_or-step-requires-clause-own g t c =
    step_given (tree_of c.args.e.now) c.args.e.now.place (tree_of c.args.inner.now) c.args.span c.args.step c.args.offset c.requires.tree (tree_of c.args.scope.now.checked.now) c.args.number.now c.requires.part

pub subquery::series_of-lemma_stands_at-requires :
    goal.subquery::series_of-lemma_stands_at-requires
subquery::series_of-lemma_stands_at-requires g t c =
    inner_part (tree_of c.args.e.now) c.args.e.now.place (tree_of c.args.inner.now) c.args.span c.args.step c.args.offset c.requires.tree (tree_of c.args.scope.now.checked.now) c.args.number.now c.requires.part

pub subquery::series_of-returns-then-count-gt-LONGEST-clause-answer :
    goal.subquery::series_of-returns-then-count-gt-LONGEST-clause-answer
subquery::series_of-returns-then-count-gt-LONGEST-clause-answer g t c = λ history func may.
    let scope = c.args.scope.now in
    let e = tree_of c.args.e.now in
    let p = c.args.e.now.place in
    let inner = tree_of c.args.inner.now in
    let range = c.range_of-range.result in
    let times = c.times_in-times.result in
    let many : longest < length times = omega (arith, c.if-count-gt-LONGEST.true, c.count-count.ensures) in
    let same = times_same e p inner c.args.span c.args.step c.args.offset c.requires.tree scope.step history scope.time c.step_or-step.result range times c.times_in-times.ensures.times c.step_or-step.ensures.value c.range_of-range.ensures.range in
    let meant : series_meant scope.step history e scope.time ≡ Err (fault p (kind.RangeTooLong c.count-count.result)) =
    too_many e p inner c.args.span c.args.step c.args.offset c.requires.tree scope.step history scope.time times same many ∙ ap (λ n. Err (fault p (kind.RangeTooLong n))) (sym c.count-count.ensures) in
    subst (λ (f : EvalError). AreSeries (series_meant scope.step history e scope.time) (Err f)) (sym c.too_many.ensures) meant

pub subquery::series_of-returns-then-count-gt-LONGEST-clause-taken :
    goal.subquery::series_of-returns-then-count-gt-LONGEST-clause-taken
subquery::series_of-returns-then-count-gt-LONGEST-clause-taken g t c = λ history func may.
    let scope = c.args.scope.now in
    let before = kept_by (g.R.Ranges.last c.args.ranges.now) (g.R.Ranges.passed c.args.ranges.now) in
    none_taken (tree_of c.args.e.now) c.args.e.now.place (tree_of c.args.inner.now) c.args.span c.args.step c.args.offset c.requires.tree scope.step history scope.time g.R.Ranges.keeps scope.inside func c.args.number.now.ranges before
    (g.R.Ranges.fits c.args.ranges.now history) c.args.reads.now (Err c.too_many.result) may.fits

pub subquery::series_of-returns-in-Ok-clause-count :
    goal.subquery::series_of-returns-in-Ok-clause-count
subquery::series_of-returns-in-Ok-clause-count g t c =
    counts_of_sub (tree_of c.args.e.now) c.args.e.now.place (tree_of c.args.inner.now) c.args.span c.args.step c.args.offset c.requires.tree c.args.number.now c.numbers_behind.result c.numbers_behind.ensures

pub subquery::series_of-returns-in-Ok-clause-answer :
    goal.subquery::series_of-returns-in-Ok-clause-answer
subquery::series_of-returns-in-Ok-clause-answer g t c = λ history func may.
    let scope = c.args.scope.now in
    let e = tree_of c.args.e.now in
    let p = c.args.e.now.place in
    let inner = tree_of c.args.inner.now in
    let range = c.range_of-range.result in
    let times = c.times_in-times.result in
    let few : length times ≤ longest = omega (arith, c.if-count-gt-LONGEST.false, c.count-count.ensures) in
    let same = times_same e p inner c.args.span c.args.step c.args.offset c.requires.tree scope.step history scope.time c.step_or-step.result range times c.times_in-times.ensures.times c.step_or-step.ensures.value c.range_of-range.ensures.range in
    let before = kept_by (g.R.Ranges.last c.args.ranges.now) (g.R.Ranges.passed c.args.ranges.now) in
    let each = each_may e p inner c.args.span c.args.step c.args.offset c.requires.tree scope.head.now history scope.time scope.inside func c.args.number.now.ranges (g.R.Ranges.fits c.args.ranges.now history) before range times
    c.range_of-range.ensures.range c.times_in-times.ensures.within may in
    series_given e p inner c.args.span c.args.step c.args.offset c.requires.tree scope.step history scope.time range times c.in-Ok.series c.range_of-range.ensures.range same few c.times_in-times.ensures.within (c.in-Ok.ensures.answer history each)

pub subquery::series_of-returns-in-Ok-clause-taken :
    goal.subquery::series_of-returns-in-Ok-clause-taken
subquery::series_of-returns-in-Ok-clause-taken g t c = λ history func may.
    let scope = c.args.scope.now in
    let e = tree_of c.args.e.now in
    let p = c.args.e.now.place in
    let inner = tree_of c.args.inner.now in
    let n = c.args.number.now.ranges in
    let range = c.range_of-range.result in
    let times = c.times_in-times.result in
    let few : length times ≤ longest = omega (arith, c.if-count-gt-LONGEST.false, c.count-count.ensures) in
    let same = times_same e p inner c.args.span c.args.step c.args.offset c.requires.tree scope.step history scope.time c.step_or-step.result range times c.times_in-times.ensures.times c.step_or-step.ensures.value c.range_of-range.ensures.range in
    let before = kept_by (g.R.Ranges.last c.args.ranges.now) (g.R.Ranges.passed c.args.ranges.now) in
    let after = kept_by (g.R.Ranges.last c.gathered.new.ranges) (g.R.Ranges.passed c.gathered.new.ranges) in
    let Fits' = g.R.Ranges.fits c.gathered.new.ranges history in
    let each = each_may e p inner c.args.span c.args.step c.args.offset c.requires.tree scope.head.now history scope.time scope.inside func n (g.R.Ranges.fits c.args.ranges.now history) before range times
    c.range_of-range.ensures.range c.times_in-times.ensures.within may in
    each_taken e p inner c.args.span c.args.step c.args.offset c.requires.tree scope.step history scope.time g.R.Ranges.keeps scope.inside func n before after Fits' c.args.reads.now c.gathered.new.reads _ times same few
    (taken_as (sum_by (cost scope.step history nothing_passed inner n) times) before after Fits' c.args.reads.now c.gathered.new.reads c.in-Ok.series _ (c.in-Ok.ensures.taken history each))

pub subquery::series_of-returns-in-Err-clause-answer :
    goal.subquery::series_of-returns-in-Err-clause-answer
subquery::series_of-returns-in-Err-clause-answer g t c = λ history func may.
    let scope = c.args.scope.now in
    let e = tree_of c.args.e.now in
    let p = c.args.e.now.place in
    let inner = tree_of c.args.inner.now in
    let range = c.range_of-range.result in
    let times = c.times_in-times.result in
    let few : length times ≤ longest = omega (arith, c.if-count-gt-LONGEST.false, c.count-count.ensures) in
    let same = times_same e p inner c.args.span c.args.step c.args.offset c.requires.tree scope.step history scope.time c.step_or-step.result range times c.times_in-times.ensures.times c.step_or-step.ensures.value c.range_of-range.ensures.range in
    let before = kept_by (g.R.Ranges.last c.args.ranges.now) (g.R.Ranges.passed c.args.ranges.now) in
    let each = each_may e p inner c.args.span c.args.step c.args.offset c.requires.tree scope.head.now history scope.time scope.inside func c.args.number.now.ranges (g.R.Ranges.fits c.args.ranges.now history) before range times
    c.range_of-range.ensures.range c.times_in-times.ensures.within may in
    fault_given e p inner c.args.span c.args.step c.args.offset c.requires.tree scope.step history scope.time times c.in-Err.error same few (c.in-Err.ensures.answer history each)

pub subquery::series_of-returns-in-Err-clause-taken :
    goal.subquery::series_of-returns-in-Err-clause-taken
subquery::series_of-returns-in-Err-clause-taken g t c = λ history func may.
    let scope = c.args.scope.now in
    let e = tree_of c.args.e.now in
    let p = c.args.e.now.place in
    let inner = tree_of c.args.inner.now in
    let n = c.args.number.now.ranges in
    let range = c.range_of-range.result in
    let times = c.times_in-times.result in
    let few : length times ≤ longest = omega (arith, c.if-count-gt-LONGEST.false, c.count-count.ensures) in
    let same = times_same e p inner c.args.span c.args.step c.args.offset c.requires.tree scope.step history scope.time c.step_or-step.result range times c.times_in-times.ensures.times c.step_or-step.ensures.value c.range_of-range.ensures.range in
    let before = kept_by (g.R.Ranges.last c.args.ranges.now) (g.R.Ranges.passed c.args.ranges.now) in
    let after = kept_by (g.R.Ranges.last c.gathered.new.ranges) (g.R.Ranges.passed c.gathered.new.ranges) in
    let Fits' = g.R.Ranges.fits c.gathered.new.ranges history in
    let each = each_may e p inner c.args.span c.args.step c.args.offset c.requires.tree scope.head.now history scope.time scope.inside func n (g.R.Ranges.fits c.args.ranges.now history) before range times
    c.range_of-range.ensures.range c.times_in-times.ensures.within may in
    each_taken e p inner c.args.span c.args.step c.args.offset c.requires.tree scope.step history scope.time g.R.Ranges.keeps scope.inside func n before after Fits' c.args.reads.now c.gathered.new.reads (Err c.in-Err.error) times same few
    (fault_taken (sum_by (cost scope.step history nothing_passed inner n) times) before after Fits' c.args.reads.now c.gathered.new.reads c.in-Err.error (c.in-Err.ensures.taken history each))
