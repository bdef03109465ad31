use Rattle.std.proofs.Common.{rules, Bool, subst}
use Rattle.pr_range.specs.spec_vectors.Matching.{joined}
use Rattle.spec_meaning.specs.Answers.{joined_at}
use Rattle.spec_meaning.specs.Operators.{operator_of}
use Rattle.pr_eval.specs.private.Answers.{AnswersTo}
use Rattle.pr_eval.proofs.values.vectors.joined.Goals as goal

pub returns-clause-answer : goal.returns-clause-answer
returns-clause-answer c =
    let f = operator_of c.args.op c.args.with_bool in
    let how = c.args.how.now in
    subst (λ (b : Bool). AnswersTo (joined_at c.args.place (joined how b f c.args.left.now c.args.right.now)) c.joined_at.result) c.is_filter-keep_name.ensures
    (c.joined_at.ensures.answer (joined how c.is_filter-keep_name.result f c.args.left.now c.args.right.now)
    (c.join-made.ensures.joined f (record { gives = λ a b r k. search rules })))
