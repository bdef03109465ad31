-- Decimals as templates write them. A decimal is a whole number n of units of 10^-e.
use Rattle.std.specs.Prelude.{ℕ, zero, suc, ◌+◌, ◌-◌, ◌*◌, ◌/◌, ◌%◌, ◌^◌, ◌==◌, List, [], ◌∷◌, ◌++◌, length, ℤ, unsigned_abs, Bool, ◌&&◌, not, if◌then◌else◌, codes, decimal}
use Prim.Native.Char.{code}
use Rattle.pr_num.specs.Half.{half_abs, below_zero}

-- the last n digits of a number, zeros at the front among them
unfoldable pub digits_text : ℕ → ℕ → List ℕ
digits_text zero u = []
digits_text (suc n) u = (code "0" + u / 10 ^ n) ∷ digits_text n (u % 10 ^ n)

-- the same without the zeros at the end
unfoldable pub cut_text : ℕ → ℕ → List ℕ
cut_text zero u = []
cut_text (suc n) u = if u == 0 then [] else (code "0" + u / 10 ^ n) ∷ cut_text n (u % 10 ^ n)

-- a decimal with all its places
abbrev pub whole_places : ℕ → ℕ → List ℕ
whole_places e n = decimal (n / 10 ^ e) ++ (if e == 0 then [] else code "." ∷ digits_text e (n % 10 ^ e))

-- a decimal without the zeros at its end
abbrev pub cut_places : ℕ → ℕ → List ℕ
cut_places e n = decimal (n / 10 ^ e) ++ (if n % 10 ^ e == 0 then [] else code "." ∷ cut_text e (n % 10 ^ e))

-- a number rounded half to even to four significant digits, with zeros for those after them
abbrev pub lost : ℕ → ℕ
lost n = length (decimal n) - 4

unfoldable pub four_digits : ℕ → ℕ
four_digits n = half_abs n (10 ^ lost n) * 10 ^ lost n

-- a decimal with four significant digits
abbrev pub sig4 : ℕ → ℕ → List ℕ
sig4 e n = cut_places e (four_digits n)

-- a number, with `-` before where it is negative
abbrev pub signed_text : (ℕ → List ℕ) → ℤ → List ℕ
signed_text f z = (if below_zero z then codes "-" else []) ++ f (unsigned_abs z)

-- units of 10^-9 rounded half to even to so many places, of which there are nine at most; one that
-- rounds to zero has no sign
abbrev pub rounded : ℕ → ℕ → ℕ
rounded places n = half_abs n (10 ^ (9 - places))

abbrev pub sign_of : Bool → ℕ → List ℕ
sign_of negative n = if negative && not (n == 0) then codes "-" else []

unfoldable pub fixed : ℕ → ℤ → List ℕ
fixed places z = sign_of (below_zero z) (rounded places (unsigned_abs z)) ++ whole_places places (rounded places (unsigned_abs z))
