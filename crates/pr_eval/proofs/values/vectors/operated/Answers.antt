use Rattle.std.proofs.Common.{Bool, true, false, List, subst, sym}
use Rattle.pr_num.specs.declared.value.Num.{Num}
use Rattle.pr_labels.specs.declared.item.Item.{Item}
use Rattle.spec_meaning.specs.declared.value.Value.{Value}
use Rattle.spec_meaning.specs.declared.value.Value.TheVariants.{Scalar, Vector}
use Rattle.spec_meaning.specs.Operations.{operated, with_scalar}
use Rattle.spec_meaning.specs.Operators.{is_filter}
use Rattle.pr_eval.specs.declared.values.operators.Beside.{Beside}
use Rattle.pr_eval.specs.private.Answers.{AnswersTo}
use Rattle.pr_eval.specs.private.Besides.{holds_beside, result_beside}
use Rattle.pr_eval.proofs.values.vectors.operated.Goals as goal

pub returns-in-Vector-right-clause-answer : goal.returns-in-Vector-right-clause-answer
returns-in-Vector-right-clause-answer c =
    let p = c.args.place in
    let o = c.args.op in
    let b = c.args.with_bool in
    let m = c.args.matching.now in
    let r = c.with_scalar.result in
    let beside : Beside = record { op = o; scalar = c.in-Scalar.x; scalar_is_left = true } in
    let made : AnswersTo (with_scalar p (is_filter o b) (holds_beside beside) (result_beside beside) c.in-Vector-right.items) r =
    subst (λ (l : List (Item Num)). AnswersTo (with_scalar p (is_filter o b) (holds_beside beside) (result_beside beside) l) r) c.into_vec.ensures
    (subst (λ (f : Bool). AnswersTo (with_scalar p f (holds_beside beside) (result_beside beside) c.into_vec.result.items) r) c.is_filter-filters.ensures c.with_scalar.ensures.answer) in
    subst (λ (v : Value). AnswersTo (operated p o b m v c.args.right) r) (sym c.in-Scalar.is)
    (subst (λ (w : Value). AnswersTo (operated p o b m (Scalar c.in-Scalar.x) w) r) (sym c.in-Vector-right.is) made)

pub returns-in-Scalar-right-2-clause-answer : goal.returns-in-Scalar-right-2-clause-answer
returns-in-Scalar-right-2-clause-answer c =
    let p = c.args.place in
    let o = c.args.op in
    let b = c.args.with_bool in
    let m = c.args.matching.now in
    let r = c.with_scalar-in-Scalar-right-2.result in
    let beside : Beside = record { op = o; scalar = c.in-Scalar-right-2.y; scalar_is_left = false } in
    let made : AnswersTo (with_scalar p (is_filter o b) (holds_beside beside) (result_beside beside) c.in-Vector.items) r =
    subst (λ (l : List (Item Num)). AnswersTo (with_scalar p (is_filter o b) (holds_beside beside) (result_beside beside) l) r) c.into_vec-in-Scalar-right-2.ensures
    (subst (λ (f : Bool). AnswersTo (with_scalar p f (holds_beside beside) (result_beside beside) c.into_vec-in-Scalar-right-2.result.items) r) c.is_filter-filters.ensures
    c.with_scalar-in-Scalar-right-2.ensures.answer) in
    subst (λ (v : Value). AnswersTo (operated p o b m v c.args.right) r) (sym c.in-Vector.is)
    (subst (λ (w : Value). AnswersTo (operated p o b m (Vector c.in-Vector.items) w) r) (sym c.in-Scalar-right-2.is) made)
