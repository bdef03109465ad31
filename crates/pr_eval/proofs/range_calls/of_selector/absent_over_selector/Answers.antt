use Rattle.std.proofs.Common.{◌≡◌, rules, List, map, length, ap, sym, subst, ◌∙◌, Err}
use Rattle.std.proofs.lemmas.List.{length-map}
use Rattle.pr_num.specs.declared.value.Num.{Num}
use Rattle.pr_labels.specs.declared.item.Item.{Item}
use Rattle.pr_range.specs.spec_vectors.declared.range.RangeFn.TheVariants.{PresentOverTime}
use Rattle.spec_meaning.specs.Absence.{absent_of}
use Rattle.spec_meaning.specs.Answers.{go_on}
use Rattle.spec_meaning.specs.Calls.{vector_at}
use Rattle.spec_meaning.specs.Given.{series_within}
use Rattle.spec_meaning.specs.Selection.{chosen_by}
use Rattle.pr_range.specs.declared.fault.RangeFault.TheVariants as fault
use Rattle.pr_eval.specs.private.Answers.{AnswersTo}
use Rattle.pr_eval.specs.private.Answering.{elements_of, answer_element, relabelled, fault_placed}
use Rattle.pr_eval.specs.private.RangeCallsAsking.{asked_by, presence}
use Rattle.pr_eval.proofs.Named.{absent_is, length_named}
use Rattle.pr_eval.proofs.range_calls.of_selector.absent_over_selector.Goals as goal

pub returns-in-Ok-clause-answer : goal.returns-in-Ok-clause-answer
returns-in-Ok-clause-answer g c = λ history may.
    let range = c.args.range.now in
    let labels = c.args.labels.now in
    let next = λ (items : List (Item Num)). vector_at (absent_of labels (relabelled PresentOverTime items)) in
    let items = map (answer_element c.args.head.now) c.in-Ok.answers.items in
    subst (λ m. AnswersTo m c.absence.result) (sym (absent_is labels c.args.place range history ∙ ap (λ m. go_on next (fault_placed c.args.place range.place m)) (c.in-Ok.ensures.answer history may)))
    (c.absence.ensures.answer (relabelled PresentOverTime items) (length_named PresentOverTime items ∙ length-map c.in-Ok.answers.items (answer_element c.args.head.now) ∙ (let same : length c.in-Ok.answers.items ≡ c.len.result = search rules in same)))

pub returns-in-Err-clause-answer : goal.returns-in-Err-clause-answer
returns-in-Err-clause-answer g c = λ history may.
    let range = c.args.range.now in
    let labels = c.args.labels.now in
    let next = λ (items : List (Item Num)). vector_at (absent_of labels (relabelled PresentOverTime items)) in
    let a = asked_by (presence c.args.place) range in
    subst (λ m. AnswersTo m (Err c.error_of.result)) (sym (absent_is labels c.args.place range history))
    (c.error_of.ensures.told (elements_of a (map (series_within history a.from a.to) (chosen_by range.selector.now history))) next (c.in-Err.ensures.answer history may))

pub returns-in-Err-clause-fits : goal.returns-in-Err-clause-fits
returns-in-Err-clause-fits g c = λ history may other. c.in-Err.ensures.fits history may (λ e. let x : c.in-Err.fault ≡ fault.Memory = cc in other (ap Err (c.error_of.ensures.memory x)))

pub returns-in-Err-clause-until : goal.returns-in-Err-clause-until
returns-in-Err-clause-until g c = λ history may other. c.in-Err.ensures.until history may (λ e. let x : c.in-Err.fault ≡ fault.Memory = cc in other (ap Err (c.error_of.ensures.memory x)))
