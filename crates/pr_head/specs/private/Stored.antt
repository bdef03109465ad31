-- What is held of a series.
use Rattle.std.specs.Prelude.{ℕ, zero, suc, ℤ, Bool, false, ◌+◌, ◌-◌, ◌≤◌, nat_lt, cond, ◌==◌, List, [], ◌∷◌, ◌++◌, length, slice_get, filter, find, map, reverse, Option, Some, None}
use Rattle.std.specs.List.{position_or_len, All}
use Rattle.std.specs.List.Sorted.{IsNonDecreasingBy}
use Rattle.spec_history.specs.pr_num.declared.value.Point.{Point}
use Rattle.spec_history.specs.pr_num.Same.{same_point}
use Rattle.spec_history.specs.declared.append.Append.{Append}
use Rattle.spec_history.specs.declared.append.Append.TheVariants.{Added, Same, OutOfOrder, Conflict}
use Rattle.spec_history.specs.Lookback.{is_after, is_until}
use Rattle.pr_head.specs.declared.timed.Timed.{Timed}

-- the samples that are held, in order, how many came before them, and the last of all
pub record Stored : Type 0 where
  pub first : ℕ
  pub held : List Timed
  pub last : Timed

abbrev pub stored : ℕ → List Timed → Timed → Stored
stored first held last = record { first = first; held = held; last = last }

abbrev pub timed_at : ℕ → Point → Timed
timed_at time point = record { time = time; point = point }

-- times rise up to the last, and there are no more samples than times
pub record IsStored (s : Stored) : Type 0 where
  pub rising : IsNonDecreasingBy (λ x. x.time) s.held
  pub until : All (λ x. x.time ≤ s.last.time) s.held
  pub few : s.first + length s.held ≤ s.last.time + 1

-- how many samples there ever were
abbrev pub count_of : Stored → ℕ
count_of s = s.first + length s.held

-- the place of the first held sample above a time, or the count
abbrev pub position_of : Stored → ℤ → ℕ
position_of s time = s.first + position_or_len (λ x. is_after time x.time) s.held

-- whether there is a sample, and it is at or before a time
abbrev pub is_there_until : ℤ → Option Timed → Bool
is_there_until time None = false
is_there_until time (Some x) = is_until time x.time

-- the held sample at a place
abbrev pub sample_at : Stored → ℕ → Option Timed
sample_at s place = cond (nat_lt place s.first) None (slice_get s.held (place - s.first))

-- the newest held sample at or before a time
abbrev pub newest_at : Stored → ℤ → Option Timed
newest_at s time = find (λ x. is_until time x.time) (reverse s.held)

-- the held sample with so many up to it
abbrev pub held_before : List Timed → ℕ → Option Timed
held_before held zero = None
held_before held (suc n) = slice_get held n

-- what becomes of a sample
abbrev pub admission : Stored → Timed → Append
admission s x = cond (nat_lt s.last.time x.time) Added (cond (s.last.time == x.time) (cond (same_point s.last.point x.point) Same (Conflict s.last.point)) (OutOfOrder s.last.time))

-- a series with its first sample, and one with one more
abbrev pub begun : Timed → Stored
begun x = stored 0 (x ∷ []) x

abbrev pub after_push : Stored → Timed → Stored
after_push s x = stored s.first (s.held ++ x ∷ []) x

-- a series of which the samples at or before a moment are forgotten: the later ones are held, and
-- the last stays
abbrev pub held_after : Stored → ℤ → List Timed
held_after s before = filter (λ x. is_after before x.time) s.held

abbrev pub after_trim : Stored → ℤ → Stored
after_trim s before = stored (s.first + (length s.held - length (held_after s before))) (held_after s before) s.last

-- the series of a head, each of them so
abbrev pub trimmed : {A : Type 0} → ℤ → List (A × Stored) → List (A × Stored)
trimmed before head = map (λ e. (e.0, after_trim e.1 before)) head
