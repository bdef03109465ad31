use Rattle.std.proofs.Common.{◌≡◌, List, Ok, Err, ap, sym, subst, ◌∙◌}
use Rattle.pr_num.specs.declared.value.Num.{Num}
use Rattle.pr_labels.specs.declared.item.Item.{Item}
use Rattle.pr_range.specs.spec_vectors.declared.range.Ask.{Ask}
use Rattle.pr_range.specs.spec_vectors.Functions.{told_apart}
use Rattle.spec_meaning.specs.Answers.{function_at, go_on}
use Rattle.spec_meaning.specs.RangeCalls.{question}
use Rattle.pr_eval.specs.private.Answers.{AnswersTo}
use Rattle.pr_eval.specs.private.Answering.{FaultIs, elements_of, relabelled, fault_placed}
use Rattle.pr_eval.specs.private.Taken.{AreAllWithin, ranged_of, series_in}
use Rattle.pr_eval.proofs.SeriesGathered.{taken_within}
use Rattle.pr_eval.proofs.SubqueryAnswers.{subquery_is}
use Rattle.pr_eval.proofs.range_calls.of_subquery.over_series.Goals as goal

pub returns-in-Ok-clause-answer : goal.returns-in-Ok-clause-answer
returns-in-Ok-clause-answer c = λ ts h times.
    let s = c.args.series in
    let is : c.ask_in-ask.result ≡ question c.args.call.now.func c.args.call.now.arg (ranged_of c.args.range.now ts) = c.ask_in-ask.ensures in
    let within = taken_within c.args.range.now.from c.args.range.now.to ts s h times in
    let meant = subst (λ (a : Ask). AreAllWithin a.from a.to (series_in s) → elements_of a (series_in s) ≡ Ok c.in-Ok.items.items) is c.in-Ok.ensures.answer within in
    let next = λ (items : List (Item Num)). function_at c.args.call.now.place (told_apart (relabelled c.args.call.now.func items)) in
    subst (λ m. AnswersTo m c.finished.result)
    (sym (subquery_is c.args.call.now c.args.range.now ts c.args.series h ∙ ap (λ m. go_on next (fault_placed c.args.call.now.place c.args.range.now.place m)) meant))
    c.finished.ensures.answer

pub returns-in-Err-clause-answer : goal.returns-in-Err-clause-answer
returns-in-Err-clause-answer c = λ ts h times.
    let s = c.args.series in
    let is : c.ask_in-ask.result ≡ question c.args.call.now.func c.args.call.now.arg (ranged_of c.args.range.now ts) = c.ask_in-ask.ensures in
    let within = taken_within c.args.range.now.from c.args.range.now.to ts s h times in
    let meant = subst (λ (a : Ask). AreAllWithin a.from a.to (series_in s) → FaultIs (elements_of a (series_in s)) c.in-Err.fault) is c.in-Err.ensures.answer within in
    let next = λ (items : List (Item Num)). function_at c.args.call.now.place (told_apart (relabelled c.args.call.now.func items)) in
    subst (λ m. AnswersTo m (Err c.error_of.result)) (sym (subquery_is c.args.call.now c.args.range.now ts c.args.series h))
    (c.error_of.ensures.told (elements_of (question c.args.call.now.func c.args.call.now.arg (ranged_of c.args.range.now ts)) (series_in c.args.series)) next meant)
