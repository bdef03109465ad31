-- What is given for the arguments of a call.
use Rattle.std.specs.Prelude.{◌≡◌, List, Result, Ok, Err}
use Rattle.spec_meaning.specs.declared.fault.Fault.{Fault}
use Rattle.spec_meaning.specs.declared.value.Value.{Value}
use Rattle.spec_meaning.specs.Answers.{fault}
use Rattle.spec_meaning.specs.Given.{Given}
use Rattle.pr_eval.specs.declared.values.error.EvalError.{EvalError}
use Rattle.pr_eval.specs.declared.values.error.EvalError.TheVariants as error
use Rattle.pr_eval.specs.private.Plain.{all_plain}

-- They are the values that are meant, none of them a range, or the first fault is.
abbrev pub AreGiven : Result (List Given) Fault → List Value → Result (Unit {0}) EvalError → Type 0
AreGiven meant values (Ok u) = meant ≡ Ok (all_plain values)
AreGiven meant values (Err (error.Fault place kind)) = meant ≡ Err (fault place kind)
AreGiven meant values (Err error.Memory) = Unit {0}
