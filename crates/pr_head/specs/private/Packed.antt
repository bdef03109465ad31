-- How a sample is packed: its time in two words, and its point as a number in four.
use Rattle.std.specs.Prelude.{ℕ, ◌+◌, ◌*◌, ◌^◌, ◌==◌, cond, pos, ◌-ℤ◌}
use Rattle.spec_history.specs.pr_num.declared.value.Num.TheVariants.{Finite, NaN, PosInf, NegInf}
use Rattle.spec_history.specs.pr_num.declared.value.Point.{Point}
use Rattle.spec_history.specs.pr_num.declared.value.Point.TheVariants.{Value, Stale}

-- a number whose last 32 bits are one word, with the bits above them
abbrev pub joined : ℕ → ℕ → ℕ
joined low high = low + 2 ^ 32 * high

-- the same of four words, of which the last has the bits above
abbrev pub joined_four : ℕ → ℕ → ℕ → ℕ → ℕ
joined_four low middle high top = joined low (joined middle (joined high top))

-- how many numbers points have
abbrev pub point_numbers : ℕ
point_numbers = 2 * 10 ^ 29 + 3

-- The point with a number: the marker and the values that are not finite come first, then the finite
-- values in their order.
abbrev pub point_at : ℕ → Point
point_at n = cond (n == 0) Stale (cond (n == 1) (Value NaN) (cond (n == 2) (Value PosInf) (cond (n == 3) (Value NegInf) (Value (Finite (pos n -ℤ pos (10 ^ 29 + 3)))))))
