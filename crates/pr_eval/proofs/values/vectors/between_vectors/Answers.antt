use Rattle.std.proofs.Common.{subst, sym, Result}
use Rattle.spec_meaning.specs.declared.fault.Fault.{Fault}
use Rattle.spec_meaning.specs.declared.value.Value.{Value}
use Rattle.pr_eval.specs.private.Answers.{AnswersTo}
use Rattle.pr_eval.proofs.Operations.{between_values}
use Rattle.pr_eval.proofs.values.vectors.between_vectors.Goals as goal

pub returns-in_default : goal.returns-in_default
returns-in_default c = record {
  answer = subst (λ (r : Result Value Fault). AnswersTo r c.joined.result)
      (sym (between_values c.args.place c.args.op c.args.with_bool c.args.how.now c.args.left.now c.args.right.now c.in_default.not-Or c.in_default.not-And c.in_default.not-Unless))
      c.joined.ensures.answer;
  vector = λ h. c.joined.ensures.vector;
}
