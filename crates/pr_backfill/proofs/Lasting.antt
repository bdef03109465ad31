-- The times that are left.
use Rattle.std.proofs.Common.{◌≡◌, ◌==◌, ◌||◌, ℕ, zero, suc, ◌+◌, ◌*◌, ◌^◌, ◌<◌, ◌≤◌, ◌↔◌, nat_lt, Bool, true, false, Some, None, arith, if◌then◌else◌}
use Rattle.pr_backfill.specs.Times.{backfill_times, count_of_times, times_from}
use Rattle.pr_backfill.specs.private.BackfillCommandTimes.{AreAfter, AreTimes}

-- those from a moment on are after what is before it
pub times_after : (time next step left : ℕ) → time < next → AreAfter time (times_from next step left)
times_after time next step zero later = tt
times_after time next step (suc left) later = (later, times_after time (next + step) step left (omega (arith, later)))

-- where there are times, there is one at least, and the step is not 0
some_times : (first last step left : ℕ) → Some left ≡ backfill_times first last step → (0 < left) × (0 < step)
unfolding backfill_times
some_times first last zero left is = absurd cc
some_times first last (suc more) left is =
    (by ((suc more == 0) || nat_lt last first || nat_lt (2 ^ 20) (count_of_times first last (suc more))) is, omega arith)
  where
    by : (none : Bool) → Some left ≡ (if none then None else Some (count_of_times first last (suc more))) → 0 < left
    by true is = absurd cc
    by false is = let count : left ≡ count_of_times first last (suc more) = cc in omega (arith, count)

-- as many as there are up to an end are times, which that one is
pub are_times : (first last step left : ℕ) → Some left ≡ backfill_times first last step → last < 2 ^ 42 → ((i : ℕ) → (i < left) ↔ (first + i * step ≤ last)) → AreTimes first step left
are_times first last step left is small counted =
    let some = some_times first last step left is in (some.1, by left some.0 counted)
  where
    by : (left : ℕ) → 0 < left → ((i : ℕ) → (i < left) ↔ (first + i * step ≤ last)) → first + left * step < 2 ^ 42 + step
    by zero some counted = absurd (omega (arith, some))
    by (suc k) some counted = let below : first + k * step ≤ last = (counted k).0 (omega arith) in omega (arith, below, small)
