use Rattle.std.proofs.Common.{ℕ, List, Ok, subst, sym}
use Rattle.pr_labels.specs.declared.item.Item.{Item}
use Rattle.pr_num.specs.declared.value.Num.{Num}
use Rattle.pr_range.specs.spec_vectors.Aggregation.{counted}
use Rattle.spec_meaning.specs.Given.{elements_given}
use Rattle.spec_meaning.specs.declared.value.Value.TheVariants.{Vector}
use Rattle.pr_eval.specs.private.Answers.{AnswersTo}
use Rattle.pr_eval.specs.private.Plain.{all_plain}
use Rattle.pr_eval.proofs.values.aggregations.counted.Goals as goal

pub returns-clause-answer : goal.returns-clause-answer
returns-clause-answer c = λ text named.
    let by = c.args.by.now in
    let r = c.made.result in
    let gs = all_plain c.args.given.now in
    let label = c.args.label.now in
    subst (λ (t : List ℕ). AnswersTo (Ok (Vector (counted t by (elements_given gs 1)))) r) (sym named)
    (subst (λ (l : List (Item Num)). AnswersTo (Ok (Vector (counted label by l))) r) c.elements_given-items.ensures.elements
    (c.made.ensures.answer (counted label by c.elements_given-items.result.now) c.count_values-counts.ensures.counted))
