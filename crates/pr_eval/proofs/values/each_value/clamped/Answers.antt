use Rattle.std.proofs.Common.{List, subst}
use Rattle.pr_labels.specs.declared.item.Item.{Item}
use Rattle.pr_num.specs.declared.value.Num.{Num}
use Rattle.pr_range.specs.spec_vectors.Functions.{clamped}
use Rattle.spec_meaning.specs.Answers.{function_at}
use Rattle.spec_meaning.specs.Given.{elements_given, number_given}
use Rattle.pr_eval.specs.private.Answers.{AnswersTo}
use Rattle.pr_eval.specs.private.Plain.{all_plain}
use Rattle.pr_eval.proofs.values.each_value.clamped.Goals as goal

pub returns-clause-answer : goal.returns-clause-answer
returns-clause-answer c =
    let p = c.args.place in
    let r = c.made_at.result in
    let gs = all_plain c.args.given.now in
    let least = c.number_given-least.result in
    let most = c.number_given-most.result in
    subst (λ (a : Num). AnswersTo (function_at p (clamped a (number_given gs 2) (elements_given gs 0))) r) c.number_given-least.ensures
    (subst (λ (b : Num). AnswersTo (function_at p (clamped least b (elements_given gs 0))) r) c.number_given-most.ensures
    (subst (λ (l : List (Item Num)). AnswersTo (function_at p (clamped least most l)) r) c.elements_given-items.ensures.elements
    (c.made_at.ensures.answer (clamped least most c.elements_given-items.result.now) c.clamp-made.ensures.clamped)))
