use Rattle.std.proofs.Common.{◌++◌, ◌∷◌, [], ◌∙◌, ap, subst}
use Rattle.spec_meaning.specs.Aggregations.{summed_up}
use Rattle.pr_eval.specs.private.Answers.{AnswersTo}
use Rattle.pr_eval.specs.private.Plain.{all_plain}
use Rattle.pr_eval.proofs.aggregate.aggregated_one.Goals as goal

pub returns-clause-answer : goal.returns-clause-answer
returns-clause-answer c = λ ts.
    subst (λ vs. AnswersTo (summed_up c.args.place c.args.op c.args.by.now ts (all_plain vs)) c.aggregated.result)
    (c.deref.ensures.value ∙ c.in_ok-push_value.ensures ∙ ap (λ vs. vs ++ c.args.vector ∷ []) c.new-values.ensures.items)
    (c.aggregated.ensures.answer ts (λ same. absurd (c.requires.op same)))
