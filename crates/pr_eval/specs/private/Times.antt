-- The times of a subquery.
use Rattle.std.specs.Prelude.{ℕ, ◌+◌, ◌*◌, ◌/◌, ℤ, pos, negsuc, ◌<ℤ◌, ◌≤ℤ◌, List, [], ◌∷◌, map}
use Rattle.std.specs.List.{range_with_len}

-- so many multiples of a step, from one of them on
abbrev pub steps_from : ℕ → ℕ → ℕ → List ℕ
steps_from step first count = map (λ k. k * step) (range_with_len first count)

-- how many multiples of a step are at least 0 and at most a moment
abbrev pub multiples_until : ℕ → ℤ → ℕ
multiples_until step (pos b) = b / step + 1
multiples_until step (negsuc b) = 0

-- The times rise from a moment on, which is before all of them, and none is after another moment.
abbrev pub AreTimesWithin : ℤ → ℤ → List ℕ → Type 0
AreTimesWithin from to [] = Unit {0}
AreTimesWithin from to (t ∷ times) = (from <ℤ pos t) × (pos t ≤ℤ to) × AreTimesWithin (pos t) to times
