-- Characters of a line of which no other crate speaks.
use Rattle.std.specs.Prelude.{ℕ, Bool, ◌||◌, ◌==◌}
use Prim.Native.Char.{code}

-- the sign of a number, and of a time
abbrev pub is_sign : ℕ → Bool
is_sign c = c == code "+" || c == code "-"
