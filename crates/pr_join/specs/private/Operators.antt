-- What it takes of a closure to be an operator.
use Rattle.std.specs.Prelude.{◌≡◌, Option, Result}
use Rattle.std.specs.Fn.{Shared}
use Rattle.spec_vectors.specs.pr_num.declared.value.Num.{Num}
use Rattle.spec_vectors.specs.pr_num.declared.value.TooWide.{TooWide}
use Rattle.spec_vectors.specs.Matching.{Operator}

-- each call of the closure on two values answers what the operator gives
pub record AnswersBy {O : Type 0} (g : Shared O (Num × (Num × Unit {0})) (Result (Option Num) TooWide)) (op : O) (f : Operator) : Type 0 where
  pub gives : (a b : Num) (r : Result (Option Num) TooWide) → g.post op (a, (b, tt)) r → r ≡ f a b
