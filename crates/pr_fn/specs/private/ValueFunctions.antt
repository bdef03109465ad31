-- What it takes of a closure to be a function of values.
use Rattle.std.specs.Prelude.{◌≡◌, Result}
use Rattle.std.specs.Fn.{Shared}
use Rattle.pr_num.specs.declared.value.Num.{Num}
use Rattle.pr_num.specs.declared.value.TooWide.{TooWide}
use Rattle.spec_vectors.specs.Functions.{ValueFunction}

-- each call of the closure on a value answers what the function gives
pub record WorksBy {O : Type 0} (g : Shared O (Num × Unit {0}) (Result Num TooWide)) (op : O) (f : ValueFunction) : Type 0 where
  pub gives : (v : Num) (r : Result Num TooWide) → g.post op (v, tt) r → r ≡ f v
