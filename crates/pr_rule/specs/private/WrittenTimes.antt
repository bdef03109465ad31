-- The times that samples say.
use Rattle.std.specs.Prelude.{ℕ, cond, nat_le, Option, Some, None}

-- a time that was written, unless it is after the sample
abbrev pub taken : ℕ → Option ℕ → Option ℕ
taken down None = None
taken down (Some old) = cond (nat_le old down) (Some old) None
