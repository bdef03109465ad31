use Rattle.std.proofs.Common.{List, Ok, subst}
use Rattle.pr_labels.specs.declared.item.Item.{Item}
use Rattle.pr_num.specs.declared.value.Num.{Num}
use Rattle.pr_range.specs.spec_vectors.Aggregation.{first_of_parts, greatest_first}
use Rattle.spec_meaning.specs.Given.{elements_given}
use Rattle.spec_meaning.specs.declared.value.Value.TheVariants.{Vector}
use Rattle.pr_eval.specs.private.Answers.{AnswersTo}
use Rattle.pr_eval.specs.private.Plain.{all_plain}
use Rattle.pr_eval.proofs.values.aggregations.greatest_first.Goals as goal

pub returns-clause-answer : goal.returns-clause-answer
returns-clause-answer c =
    let by = c.args.by.now in
    let r = c.made.result in
    let gs = all_plain c.args.given.now in
    let k = c.number_given-k.result in
    subst (λ (x : Num). AnswersTo (Ok (Vector (first_of_parts greatest_first x by (elements_given gs 1)))) r) c.number_given-k.ensures
    (subst (λ (l : List (Item Num)). AnswersTo (Ok (Vector (first_of_parts greatest_first k by l))) r) c.elements_given-items.ensures.elements
    (c.made.ensures.answer (first_of_parts greatest_first k by c.elements_given-items.result.now) c.topk-first.ensures.first))
