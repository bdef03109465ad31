-- Answers of a node from those of its operands.
use Rattle.std.proofs.Common.{◌≡◌, Result, Ok, Err, ap, subst, sym}
use Rattle.spec_meaning.specs.declared.fault.Fault.{Fault}
use Rattle.spec_meaning.specs.declared.value.Value.{Value}
use Rattle.spec_meaning.specs.Answers.{go_on}
use Rattle.pr_eval.specs.declared.values.error.EvalError.{EvalError}
use Rattle.pr_eval.specs.declared.values.error.EvalError.TheVariants as error
use Rattle.pr_eval.specs.private.Answers.{AnswersTo}

-- the fault of an operand ends
pub ends : (next : Value → Result Value Fault) (meant : Result Value Fault) (e : EvalError) → AnswersTo meant (Err e) → AnswersTo (go_on next meant) (Err e)
ends next meant (error.Fault p k) h = ap (go_on next) h
ends next meant error.Memory h = tt

-- the value of an operand
pub gives : (next : Value → Result Value Fault) (meant : Result Value Fault) (a : Value) (r : Result Value EvalError) → meant ≡ Ok a → AnswersTo (next a) r → AnswersTo (go_on next meant) r
gives next meant a r is h = subst (λ m. AnswersTo (go_on next m) r) (sym is) h

pub ends_right : (next : Value → Value → Result Value Fault) (left right : Result Value Fault) (a : Value) (e : EvalError) → left ≡ Ok a → AnswersTo right (Err e)
    → AnswersTo (go_on (λ v. go_on (next v) right) left) (Err e)
ends_right next left right a e is h = subst (λ l. AnswersTo (go_on (λ v. go_on (next v) right) l) (Err e)) (sym is) (ends (next a) right e h)

-- the values of both operands
pub both_give : (next : Value → Value → Result Value Fault) (left right : Result Value Fault) (a b : Value) (r : Result Value EvalError) → left ≡ Ok a → right ≡ Ok b → AnswersTo (next a b) r
    → AnswersTo (go_on (λ v. go_on (next v) right) left) r
both_give next left right a b r is that h =
    subst (λ l. AnswersTo (go_on (λ v. go_on (next v) right) l) r) (sym is) (subst (λ m. AnswersTo (go_on (next a) m) r) (sym that) h)
