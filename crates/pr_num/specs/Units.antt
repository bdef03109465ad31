-- The range of a finite value.
use Rattle.std.specs.Prelude.{ℤ, ◌^◌, ◌<◌, unsigned_abs}

-- a number of units of 10^-9 that is below 10^20 in magnitude
abbrev pub IsNano : ℤ → Type 0
IsNano units = unsigned_abs units < 10 ^ 29
