-- The next of some times.
use Rattle.std.specs.Prelude.{ℕ, nat_lt, nat_le, List, fold, Option, Some, None, cond}

-- the earlier of a time and one that may be there
abbrev pub sooner_of : Option ℕ → ℕ → Option ℕ
sooner_of None time = Some time
sooner_of (Some other) time = cond (nat_le other time) (Some other) (Some time)

abbrev pub earlier_of : ℕ → Option ℕ → ℕ → Option ℕ
earlier_of from next time = cond (nat_lt time from) next (sooner_of next time)

-- the first of the times that is not before another
abbrev pub next_time : ℕ → List ℕ → Option ℕ
next_time from times = fold (earlier_of from) None times
