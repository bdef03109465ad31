-- How an answer stands to what is meant.
use Rattle.std.specs.Prelude.{◌≡◌, Result, Ok, Err}
use Rattle.spec_meaning.specs.declared.fault.Fault.{Fault}
use Rattle.spec_meaning.specs.Answers.{fault}
use Rattle.pr_eval.specs.declared.values.error.EvalError.{EvalError}
use Rattle.pr_eval.specs.declared.values.error.EvalError.TheVariants as error

-- An answer is what is meant: the value, or the first fault with its place. Of want of memory
-- nothing is said.
abbrev pub AnswersTo : {A : Type 0} → Result A Fault → Result A EvalError → Type 0
AnswersTo meant (Ok value) = meant ≡ Ok value
AnswersTo meant (Err (error.Fault place kind)) = meant ≡ Err (fault place kind)
AnswersTo meant (Err error.Memory) = Unit {0}
