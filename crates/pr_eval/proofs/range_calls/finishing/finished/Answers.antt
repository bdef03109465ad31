use Rattle.std.proofs.Common.{List, Ok, ap, sym, subst, ◌∙◌, map}
use Rattle.pr_labels.specs.declared.item.Item.{Item}
use Rattle.pr_num.specs.declared.value.Num.{Num}
use Rattle.pr_range.specs.spec_vectors.Functions.{told_apart}
use Rattle.pr_fn.specs.private.Rows.{without_metric}
use Rattle.spec_meaning.specs.Answers.{function_at}
use Rattle.pr_eval.specs.private.Answers.{AnswersTo}
use Rattle.pr_eval.specs.private.Answering.{relabelled}
use Rattle.pr_eval.proofs.Named.{last_is, others_named}
use Rattle.pr_eval.proofs.range_calls.finishing.finished.Goals as goal

pub returns-in-LastOverTime-clause-answer : goal.returns-in-LastOverTime-clause-answer
returns-in-LastOverTime-clause-answer c =
    ap (λ f. function_at c.args.place (told_apart (relabelled f c.args.items.items))) c.in-LastOverTime.is ∙ last_is c.args.place c.args.items.items c.requires ∙ ap Ok (sym c.vector.ensures)

pub returns-in_default : goal.returns-in_default
returns-in_default c = record {
  answer = subst (λ (l : List (Item Num)). AnswersTo (function_at c.args.place (told_apart l)) c.unnamed.result)
      (ap (map without_metric) c.deref.ensures.value ∙ others_named c.args.func c.args.items.items c.in_default.not-LastOverTime) c.unnamed.ensures.answer;
  vector = c.unnamed.ensures.vector;
}
