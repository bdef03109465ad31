use Rattle.std.proofs.Common.{rules, List, Ok, subst}
use Rattle.pr_range.specs.spec_vectors.Functions.{at_least, ValueFunction, mapped}
use Rattle.pr_labels.specs.declared.item.Item.{Item}
use Rattle.pr_num.specs.declared.value.Num.{Num}
use Rattle.spec_meaning.specs.Answers.{function_at}
use Rattle.spec_meaning.specs.Given.{elements_given}
use Rattle.pr_eval.specs.private.Plain.{all_plain}
use Rattle.pr_eval.specs.private.Answers.{AnswersTo}
use Rattle.pr_eval.proofs.values.each_value.clamped_min.Goals as goal

pub returns-clause-answer : goal.returns-clause-answer
returns-clause-answer c =
    let by = λ (s : Num) (v : Num). Ok (at_least s v) in
    let f : ValueFunction = by c.number_given-least.result in
    subst (λ (s : Num). AnswersTo (function_at c.args.place (mapped (by s) (elements_given (all_plain c.args.given.now) 0))) c.made_at.result) c.number_given-least.ensures
    (subst (λ (l : List (Item Num)). AnswersTo (function_at c.args.place (mapped f l)) c.made_at.result) c.elements_given-items.ensures.elements
    (c.made_at.ensures.answer (mapped f c.elements_given-items.result.now) (c.map_values-made.ensures.mapped f (record { gives = λ v r k. search rules }))))
