-- What a series shows at a moment, and in a range.
use Rattle.std.specs.Prelude.{ℕ, ℤ, pos, negsuc, ◌+◌, Bool, true, false, ◌&&◌, nat_lt, nat_le, List, filter, Option, Some, None, option_and_then}
use Rattle.std.specs.List.{filter_map}
use Rattle.std.specs.Option.{option_map}
use Rattle.pr_num.specs.declared.value.Num.{Num}
use Rattle.pr_num.specs.declared.value.Point.{Point}
use Rattle.pr_num.specs.declared.value.Point.TheVariants.{Value, Stale}
use Rattle.pr_labels.specs.declared.pair.Pair.{Pair}
use Rattle.spec_history.specs.declared.entry.Entry.{Entry}
use Rattle.spec_history.specs.declared.spot.Spot.{Spot}
use Rattle.spec_history.specs.Admission.{is_of, last_entry}

-- five minutes, in milliseconds
abbrev pub lookback : ℕ
lookback = 300000

-- whether a time is above a moment, or at most it; moments below zero are before all times
abbrev pub is_after : ℤ → ℕ → Bool
is_after (pos a) time = nat_lt a time
is_after (negsuc a) time = true

abbrev pub is_until : ℤ → ℕ → Bool
is_until (pos b) time = nat_le time b
is_until (negsuc b) time = false

-- whether a time is one of the five minutes up to a moment
abbrev pub is_recent : ℤ → ℕ → Bool
is_recent (pos x) time = nat_lt x (time + lookback) && nat_le time x
is_recent (negsuc x) time = false

-- the number that a point holds; a marker holds none
abbrev pub number_in : Point → Option Num
number_in (Value v) = Some v
number_in Stale = None

-- the value of an entry with its time; a marker has none
abbrev pub spot_of : ℕ → Num → Spot
spot_of time value = record { time = time; value = value }

abbrev pub spot_in : Entry → Option Spot
spot_in e = option_map (spot_of e.time) (number_in e.point)

-- the newest recent entry of a series at a moment, be it a marker
abbrev pub recent_entry : List Entry → ℤ → List Pair → Option Entry
recent_entry history x labels = last_entry (λ e. is_of labels e && is_recent x e.time) history

-- what a series shows at a moment: its newest recent value with its time; nothing behind a marker
abbrev pub spot_at : List Entry → ℤ → List Pair → Option Spot
spot_at history x labels = option_and_then spot_in (recent_entry history x labels)

-- the values of a series with times above a and at most b, without the markers, each with its time
abbrev pub spots_within : List Entry → List Pair → ℤ → ℤ → List Spot
spots_within history labels a b = filter_map spot_in (filter (λ e. is_of labels e && is_after a e.time && is_until b e.time) history)
