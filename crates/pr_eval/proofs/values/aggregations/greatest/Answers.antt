use Rattle.std.proofs.Common.{List, subst}
use Rattle.pr_labels.specs.declared.item.Item.{Item}
use Rattle.pr_num.specs.declared.value.Num.{Num}
use Rattle.pr_range.specs.spec_vectors.Aggregation.{of_groups, always, greatest_of_values}
use Rattle.spec_meaning.specs.Aggregations.{aggregated_at}
use Rattle.pr_eval.specs.private.Answers.{AnswersTo}
use Rattle.pr_eval.proofs.values.aggregations.greatest.Goals as goal

pub returns-clause-answer : goal.returns-clause-answer
returns-clause-answer c =
    let p = c.args.place in
    let by = c.args.by.now in
    let r = c.grouped.result in
    subst (λ (l : List (Item Num)). AnswersTo (aggregated_at p (of_groups (always greatest_of_values) by l)) r) c.elements_given-items.ensures.elements
    (c.grouped.ensures.answer (of_groups (always greatest_of_values) by c.elements_given-items.result.now) c.max-made.ensures.aggregated)
