-- The times of a backfill.
use Rattle.std.specs.Prelude.{ℕ, zero, suc, ◌+◌, ◌-◌, ◌/◌, ◌^◌, ◌==◌, ◌||◌, nat_lt, List, [], ◌∷◌, Option, Some, None, if◌then◌else◌}

-- how many there are, where the step is not 0 and the end is not before the start
abbrev pub count_of_times : ℕ → ℕ → ℕ → ℕ
count_of_times start end step = (end - start) / step + 1

-- the same, where a backfill has so many
unfoldable pub backfill_times : ℕ → ℕ → ℕ → Option ℕ
backfill_times start end step =
    if (step == 0) || nat_lt end start || nat_lt (2 ^ 20) (count_of_times start end step) then None else Some (count_of_times start end step)

-- so many times from a start on
abbrev pub times_from : ℕ → ℕ → ℕ → List ℕ
times_from start step zero = []
times_from start step (suc n) = start ∷ times_from (start + step) step n
