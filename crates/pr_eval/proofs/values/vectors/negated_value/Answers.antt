use Rattle.std.proofs.Common.{List, Ok, subst, sym}
use Rattle.pr_num.specs.declared.value.Num.{Num}
use Rattle.pr_num.specs.Arithmetic.{negated}
use Rattle.pr_labels.specs.declared.item.Item.{Item}
use Rattle.pr_range.specs.spec_vectors.Functions.{ValueFunction, mapped}
use Rattle.spec_meaning.specs.declared.value.Value.{Value}
use Rattle.spec_meaning.specs.Answers.{function_at}
use Rattle.spec_meaning.specs.Operations.{negated_value}
use Rattle.pr_eval.specs.private.Answers.{AnswersTo}
use Rattle.pr_eval.proofs.values.vectors.negated_value.Goals as goal

pub returns-in-Vector-clause-answer : goal.returns-in-Vector-clause-answer
returns-in-Vector-clause-answer c =
    let f : ValueFunction = λ v. Ok (negated v) in
    subst (λ (v : Value). AnswersTo (negated_value c.args.place v) c.negated_vector.result) (sym c.in-Vector.is)
    (subst (λ (l : List (Item Num)). AnswersTo (function_at c.args.place (mapped f l)) c.negated_vector.result) c.as_slice.ensures c.negated_vector.ensures.answer)
