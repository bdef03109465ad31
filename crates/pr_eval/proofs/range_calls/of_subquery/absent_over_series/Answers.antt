use Rattle.std.proofs.Common.{◌≡◌, List, length, None, Ok, Err, ap, sym, subst, ◌∙◌, arith}
use Rattle.pr_num.specs.declared.value.Num.{Num}
use Rattle.pr_labels.specs.declared.item.Item.{Item}
use Rattle.pr_range.specs.spec_vectors.declared.range.Ask.{Ask}
use Rattle.pr_range.specs.spec_vectors.declared.range.RangeFn.TheVariants.{PresentOverTime}
use Rattle.spec_meaning.specs.Absence.{absent_of}
use Rattle.spec_meaning.specs.Answers.{go_on}
use Rattle.spec_meaning.specs.Calls.{vector_at}
use Rattle.spec_meaning.specs.RangeCalls.{question}
use Rattle.pr_eval.specs.private.Answers.{AnswersTo}
use Rattle.pr_eval.specs.private.Answering.{FaultIs, elements_of, relabelled, fault_placed}
use Rattle.pr_eval.specs.private.Taken.{AreAllWithin, ranged_of, series_in}
use Rattle.pr_eval.proofs.Named.{length_named}
use Rattle.pr_eval.proofs.SeriesGathered.{taken_within}
use Rattle.pr_eval.proofs.SubqueryAnswers.{absent_subquery_is}
use Rattle.pr_eval.proofs.range_calls.of_subquery.absent_over_series.Goals as goal

pub returns-in-Ok-clause-answer : goal.returns-in-Ok-clause-answer
returns-in-Ok-clause-answer c = λ ts h times.
    let s = c.args.series in
    let is : c.ask_in-ask.result ≡ question PresentOverTime None (ranged_of c.args.range.now ts) = c.ask_in-ask.ensures in
    let within = taken_within c.args.range.now.from c.args.range.now.to ts s h times in
    let meant = subst (λ (a : Ask). AreAllWithin a.from a.to (series_in s) → elements_of a (series_in s) ≡ Ok c.in-Ok.items.items) is c.in-Ok.ensures.answer within in
    let size : length c.in-Ok.items.items ≡ c.len.result = omega (arith, c.in-Ok.items.ok.0, c.len.ensures) in
    let next = λ (items : List (Item Num)). vector_at (absent_of c.args.labels.now (relabelled PresentOverTime items)) in
    subst (λ m. AnswersTo m c.absence.result)
    (sym (absent_subquery_is c.args.labels.now c.args.place c.args.range.now ts c.args.series h ∙ ap (λ m. go_on next (fault_placed c.args.place c.args.range.now.place m)) meant))
    (c.absence.ensures.answer (relabelled PresentOverTime c.in-Ok.items.items) (length_named PresentOverTime c.in-Ok.items.items ∙ size))

pub returns-in-Err-clause-answer : goal.returns-in-Err-clause-answer
returns-in-Err-clause-answer c = λ ts h times.
    let s = c.args.series in
    let is : c.ask_in-ask.result ≡ question PresentOverTime None (ranged_of c.args.range.now ts) = c.ask_in-ask.ensures in
    let within = taken_within c.args.range.now.from c.args.range.now.to ts s h times in
    let meant = subst (λ (a : Ask). AreAllWithin a.from a.to (series_in s) → FaultIs (elements_of a (series_in s)) c.in-Err.fault) is c.in-Err.ensures.answer within in
    let next = λ (items : List (Item Num)). vector_at (absent_of c.args.labels.now (relabelled PresentOverTime items)) in
    subst (λ m. AnswersTo m (Err c.error_of.result)) (sym (absent_subquery_is c.args.labels.now c.args.place c.args.range.now ts c.args.series h))
    (c.error_of.ensures.told (elements_of (question PresentOverTime None (ranged_of c.args.range.now ts)) (series_in c.args.series)) next meant)
