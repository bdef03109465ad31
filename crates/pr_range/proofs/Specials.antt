-- Whether one of some values is no finite number.
use Rattle.std.proofs.Common.{◌≡◌, ◌||◌, List, [], ◌∷◌, map, refl, ap}
use Rattle.std.specs.List.{list_any}
use Rattle.pr_head.specs.spec_history.declared.spot.Spot.{Spot}
use Rattle.spec_vectors.specs.Histogram.{is_special}

pub any_special : (spots : List Spot) → list_any is_special (map (λ (s : Spot). s.value) spots) ≡ list_any (λ s. is_special s.value) spots
any_special [] = refl
any_special (s ∷ spots) = ap (λ b. is_special s.value || b) (any_special spots)
