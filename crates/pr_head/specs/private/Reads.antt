-- What one read of a head tells of a series.
use Rattle.std.specs.Prelude.{◌≡◌, ℕ, ℤ, true, false, cond, Option, None, option_and_then}
use Rattle.std.specs.Option.{option_map}
use Rattle.spec_history.specs.declared.spot.Spot.{Spot}
use Rattle.spec_history.specs.Lookback.{is_recent, is_until, number_in, spot_of}
use Rattle.pr_head.specs.declared.timed.Timed.{Timed}

-- Nothing that stands until the first moment is seen any more at the second.
abbrev pub IsPast : ℤ → ℤ → Type 0
IsPast y x = (time : ℕ) → is_until y time ≡ true → is_recent x time ≡ false

-- the value of a sample with its time; a marker has none
abbrev pub shown_of : Timed → Option Spot
shown_of t = option_map (spot_of t.time) (number_in t.point)

-- what a series shows at a moment, by its newest sample until then: the value of that sample where
-- it is recent
abbrev pub spot_shown : ℤ → Option Timed → Option Spot
spot_shown x newest = option_and_then (λ t. cond (is_recent x t.time) (shown_of t) None) newest
