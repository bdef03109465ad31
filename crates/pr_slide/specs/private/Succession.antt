-- What contracts see of values one after another.
use Rattle.std.specs.Prelude.{ℕ, Bool, List}
use Rattle.pr_head.specs.spec_history.declared.spot.Spot.{Spot}

-- The values, how many looks are saved up for later asks, and whether they are counted.
pub record Succession : Type 0 where
  pub items : List Spot
  pub saved : ℕ
  pub counted : Bool
