use Rattle.std.proofs.Common.{◌≡◌, List, map, ap, sym, subst, ◌∙◌, Ok, Err}
use Rattle.pr_num.specs.declared.value.Num.{Num}
use Rattle.pr_labels.specs.declared.item.Item.{Item}
use Rattle.pr_range.specs.spec_vectors.Functions.{told_apart}
use Rattle.spec_meaning.specs.Answers.{function_at, go_on}
use Rattle.spec_meaning.specs.Given.{series_within}
use Rattle.spec_meaning.specs.Selection.{chosen_by}
use Rattle.pr_range.specs.declared.fault.RangeFault.TheVariants as fault
use Rattle.pr_eval.specs.private.Answers.{AnswersTo}
use Rattle.pr_eval.specs.private.Answering.{elements_of, answer_element, relabelled, fault_placed}
use Rattle.pr_eval.specs.private.RangeCallsAsking.{asked_by}
use Rattle.pr_eval.proofs.Named.{selector_is}
use Rattle.pr_eval.proofs.range_calls.of_selector.over_selector.Goals as goal

pub returns-in_ok-items-in-Ok-clause-answer : goal.returns-in_ok-items-in-Ok-clause-answer
returns-in_ok-items-in-Ok-clause-answer g c = λ history may.
    let call = c.args.call.now in
    let range = c.args.range.now in
    let next = λ (items : List (Item Num)). function_at call.place (told_apart (relabelled call.func items)) in
    let is : c.in_ok-items-in-Ok.items.items ≡ map (answer_element c.args.head.now) c.in-Ok.answers.items = c.in_ok-items-in-Ok.ensures ∙ ap (map (answer_element c.args.head.now)) c.deref.ensures.value in
    subst (λ m. AnswersTo m c.finished.result) (sym (selector_is call range history ∙ ap (λ m. go_on next (fault_placed call.place range.place m)) (c.in-Ok.ensures.answer history may ∙ ap Ok (sym is)))) c.finished.ensures.answer

pub returns-in-Err-clause-answer : goal.returns-in-Err-clause-answer
returns-in-Err-clause-answer g c = λ history may.
    let call = c.args.call.now in
    let range = c.args.range.now in
    let next = λ (items : List (Item Num)). function_at call.place (told_apart (relabelled call.func items)) in
    let a = asked_by call range in
    subst (λ m. AnswersTo m (Err c.error_of.result)) (sym (selector_is call range history))
    (c.error_of.ensures.told (elements_of a (map (series_within history a.from a.to) (chosen_by range.selector.now history))) next (c.in-Err.ensures.answer history may))

pub returns-in-Err-clause-fits : goal.returns-in-Err-clause-fits
returns-in-Err-clause-fits g c = λ history may other. c.in-Err.ensures.fits history may (λ e. let x : c.in-Err.fault ≡ fault.Memory = cc in other (ap Err (c.error_of.ensures.memory x)))

pub returns-in-Err-clause-until : goal.returns-in-Err-clause-until
returns-in-Err-clause-until g c = λ history may other. c.in-Err.ensures.until history may (λ e. let x : c.in-Err.fault ≡ fault.Memory = cc in other (ap Err (c.error_of.ensures.memory x)))
