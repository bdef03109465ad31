use Rattle.std.proofs.Common.{rules, List, Ok, subst}
use Rattle.pr_labels.specs.declared.item.Item.{Item}
use Rattle.pr_num.specs.declared.value.Num.{Num}
use Rattle.pr_range.specs.spec_vectors.Functions.{ValueFunction, mapped}
use Rattle.spec_meaning.specs.Answers.{function_at}
use Rattle.spec_meaning.specs.Calls.{seconds_of}
use Rattle.pr_eval.specs.private.Answers.{AnswersTo}
use Rattle.pr_eval.proofs.values.times.query_times.Goals as goal

pub returns-clause-answer : goal.returns-clause-answer
returns-clause-answer c =
    let f : ValueFunction = λ v. Ok (seconds_of c.args.time) in
    subst (λ (l : List (Item Num)). AnswersTo (function_at c.args.place (mapped f l)) c.made_at.result) c.elements_given-items.ensures.elements
    (c.made_at.ensures.answer (mapped f c.elements_given-items.result.now) (c.map_values-made.ensures.mapped f (record { gives = λ v r k. search rules })))
