use Rattle.std.proofs.Common.{List, subst}
use Rattle.pr_labels.specs.declared.item.Item.{Item}
use Rattle.pr_num.specs.declared.value.Num.{Num}
use Rattle.pr_range.specs.spec_vectors.Histogram.{histogram_quantiles}
use Rattle.spec_meaning.specs.Answers.{function_at}
use Rattle.spec_meaning.specs.Given.{elements_given}
use Rattle.pr_eval.specs.private.Answers.{AnswersTo}
use Rattle.pr_eval.specs.private.Plain.{all_plain}
use Rattle.pr_eval.proofs.values.labelled.quantiles.Goals as goal

pub returns-clause-answer : goal.returns-clause-answer
returns-clause-answer c =
    let p = c.args.place in
    let r = c.made_at.result in
    let gs = all_plain c.args.given.now in
    let phi = c.number_given-phi.result in
    subst (λ (a : Num). AnswersTo (function_at p (histogram_quantiles a (elements_given gs 1))) r) c.number_given-phi.ensures
    (subst (λ (l : List (Item Num)). AnswersTo (function_at p (histogram_quantiles phi l)) r) c.elements_given-items.ensures.elements
    (c.made_at.ensures.answer (histogram_quantiles phi c.elements_given-items.result.now) c.histogram_quantile-made.ensures.quantiles))
