-- What is counted of values one after another.
use Rattle.std.specs.Prelude.{◌≡◌, ℕ, nat_lt, Bool, true, false, List, [], ◌∷◌, map, filter, count_by}
use Rattle.std.specs.List.{list_all}
use Rattle.pr_head.specs.spec_history.declared.spot.Spot.{Spot}
use Rattle.pr_range.specs.spec_vectors.Histogram.{is_special}
use Rattle.pr_range.specs.spec_vectors.Ranges.{differ}
use Rattle.pr_range.specs.spec_vectors.Spots.{falls, neighbours, numbers_of}
use Rattle.pr_slide.specs.declared.successive.SuccessiveCounts.{SuccessiveCounts}

-- whether the second of two values comes after the first, and whether it is below it
abbrev pub rises : Spot × Spot → Bool
rises p = nat_lt p.0.time p.1.time

abbrev pub is_fall : Spot × Spot → Bool
is_fall p = falls (p.0.value, p.1.value)

-- the values that stand before a lower one
abbrev pub before_falls : List Spot → List Spot
before_falls spots = map (λ p. p.0) (filter is_fall (neighbours spots))

-- the first of two values, if the second is lower
abbrev pub before_fall : Spot → Spot → List Spot
before_fall x y = map (λ p. p.0) (filter is_fall ((x, y) ∷ []))

-- whether each value comes after the one before
abbrev pub is_rising : List Spot → Bool
is_rising spots = list_all rises (neighbours spots)

-- how many values differ from the one before, and whether the first of some differs from the value
-- before it
abbrev pub changes_in : List Spot → ℕ
changes_in spots = count_by differ (neighbours (numbers_of spots))

abbrev pub changes_at : Spot → List Spot → Bool
changes_at x [] = false
changes_at x (y ∷ ys) = differ (x.value, y.value)

-- how many values are no finite number
abbrev pub specials_in : List Spot → ℕ
specials_in spots = count_by is_special (numbers_of spots)

-- The times of the values rise, and the counts are those of the values.
pub record AreCounted (spots : List Spot) (counts : SuccessiveCounts) : Type 0 where
  pub rising : is_rising spots ≡ true
  pub fallen : counts.fallen.items ≡ before_falls spots
  pub changes : counts.changes ≡ changes_in spots
  pub special : counts.special ≡ specials_in spots
