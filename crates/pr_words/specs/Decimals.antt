-- Plain decimals: whole numbers as readers write them.
use Rattle.std.specs.Prelude.{ℕ, Bool, false, not, ◌&&◌, ◌==◌, nat_lt, List, [], ◌∷◌, Option, Some, None, if◌then◌else◌}
use Prim.Native.Char.{code}
use Rattle.std.specs.List.{list_all}
use Rattle.std.specs.Char.{is_ascii_digit}
use Rattle.std.specs.Str.Parse.{digits_value}

-- one decimal digit, or more of them of which the first is no zero
abbrev pub is_plain_decimal : List ℕ → Bool
is_plain_decimal [] = false
is_plain_decimal (b ∷ []) = is_ascii_digit b
is_plain_decimal (b ∷ c ∷ rest) = not (b == code "0") && list_all is_ascii_digit (b ∷ c ∷ rest)

-- the number that a plain decimal writes, where it is below the limit
abbrev pub plain_decimal : ℕ → List ℕ → Option ℕ
plain_decimal limit text = if is_plain_decimal text && nat_lt (digits_value 10 text) limit then Some (digits_value 10 text) else None
