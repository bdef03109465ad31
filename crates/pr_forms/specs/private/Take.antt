-- What is said of the next of the code's tokens, behind the reference to it, by what a test of it
-- gives.
use Rattle.std.specs.Prelude.{◌≡◌, Option, Some, None, List, [], ◌∷◌}
use Rattle.std.specs.Borrow.{Bor}

-- There is no next token, or the test gives nothing for it.
pub data IsMissed {T V : Type 0} (P : Bor T → Option V → Type 0) : List T → Type 0 where
  at_end : IsMissed P []
  by_test : {x : Bor T} {rest : List T} → P x None → IsMissed P (x.now ∷ rest)

-- The test gives the value for the next token, and the rest follows it.
pub record IsTaken {T V : Type 0} (P : Bor T → Option V → Type 0) (v : V) (ts rest : List T) : Type 0 where
  pub first : Bor T
  pub is : ts ≡ first.now ∷ rest
  pub has : P first (Some v)
