-- A wide number, held in two parts.
use Rattle.std.specs.Prelude.{ℕ, ◌^◌, ℤ, pos, ◌+ℤ◌, ◌*ℤ◌}

-- the number that two parts hold
abbrev pub number_of_parts : ℤ → ℕ → ℤ
number_of_parts high low = high *ℤ pos (2 ^ 64) +ℤ pos low
