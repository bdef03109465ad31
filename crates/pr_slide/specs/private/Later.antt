-- Values without the first ones.
use Rattle.std.specs.Prelude.{ℤ, cond, List, [], ◌∷◌}
use Rattle.pr_head.specs.spec_history.declared.spot.Spot.{Spot}
use Rattle.pr_head.specs.spec_history.Lookback.{is_after}

-- the values from the first on that is after a moment
abbrev pub later : ℤ → List Spot → List Spot
later a [] = []
later a (s ∷ spots) = cond (is_after a s.time) (s ∷ spots) (later a spots)
