use Rattle.std.proofs.Common.{List, map, ap, subst, ◌∙◌}
use Rattle.pr_labels.specs.declared.item.Item.{Item}
use Rattle.pr_num.specs.declared.value.Num.{Num}
use Rattle.pr_range.specs.spec_vectors.Functions.{told_apart}
use Rattle.spec_meaning.specs.Answers.{function_at}
use Rattle.pr_fn.specs.private.Rows.{without_metric}
use Rattle.pr_eval.specs.private.Answers.{AnswersTo}
use Rattle.pr_eval.proofs.Stamps.{stamps}
use Rattle.pr_eval.proofs.values.times.stamped.Goals as goal

pub returns-clause-answer : goal.returns-clause-answer
returns-clause-answer c =
    subst (λ (l : List (Item Num)). AnswersTo (function_at c.args.place (told_apart l)) c.made_at.result) (ap (map without_metric) (c.deref.ensures.value ∙ c.in_ok-times.ensures) ∙ stamps c.args.items.items)
    (c.made_at.ensures.answer (told_apart (map without_metric c.deref.result.now)) c.without_metrics.ensures.told)
