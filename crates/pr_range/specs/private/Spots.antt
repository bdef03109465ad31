-- Values with their times, in a range and in a head.
use Rattle.std.specs.Prelude.{ℕ, ◌-◌, ℤ, pos, ◌<ℤ◌, ◌≤ℤ◌, List, [], ◌∷◌, take, drop}
use Rattle.std.specs.List.{filter_map}
use Rattle.pr_head.specs.spec_history.declared.spot.Spot.{Spot}
use Rattle.pr_head.specs.declared.timed.Timed.{Timed}
use Rattle.pr_head.specs.private.Stored.{Stored}
use Rattle.pr_head.specs.private.Reads.{shown_of}

-- The times rise from a moment on, which is before all of them, and none is after another moment.
abbrev pub AreWithin : ℤ → ℤ → List Spot → Type 0
AreWithin from to [] = Unit {0}
AreWithin from to (s ∷ spots) = (from <ℤ pos s.time) × (pos s.time ≤ℤ to) × AreWithin (pos s.time) to spots

-- the values of samples; a marker has none
abbrev pub spots_of : List Timed → List Spot
spots_of xs = filter_map shown_of xs

-- the held samples of a series from one place to another
abbrev pub samples_between : Stored → ℕ → ℕ → List Timed
samples_between s from to = take (to - from) (drop (from - s.first) s.held)
