-- The one text that is printed for a value.
use Rattle.std.specs.Prelude.{ℕ, zero, suc, ◌+◌, ◌*◌, ◌/◌, ◌%◌, ◌^◌, ◌==◌, List, [], ◌∷◌, ◌++◌, codes, ℤ, pos, negsuc, if◌then◌else◌, decimal}
use Prim.Native.Char.{code}
use Rattle.pr_num.specs.declared.value.Num.{Num}
use Rattle.pr_num.specs.declared.value.Num.TheVariants.{Finite, NaN, PosInf, NegInf}

-- the next n digits of u units of 10^-9 after a point, without zeros at the end: each digit is the
-- whole part of ten times what is left
unfoldable pub fraction_text : ℕ → ℕ → List ℕ
fraction_text zero u = []
fraction_text (suc n) u = if u == 0 then [] else (code "0" + u * 10 / 10 ^ 9) ∷ fraction_text n (u * 10 % 10 ^ 9)

-- a fraction after its point, and nothing where it is 0
abbrev pub point_text : ℕ → List ℕ
point_text u = if u == 0 then [] else codes "." ++ fraction_text 9 u

-- a number of units: the whole part without leading zeros, and the fraction
abbrev pub magnitude_text : ℕ → List ℕ
magnitude_text n = decimal (n / 10 ^ 9) ++ point_text (n % 10 ^ 9)

-- `-` where it is negative
abbrev pub units_text : ℤ → List ℕ
units_text (pos n) = magnitude_text n
units_text (negsuc n) = codes "-" ++ magnitude_text (suc n)

-- the printed text of a value
unfoldable pub shown : Num → List ℕ
shown (Finite z) = units_text z
shown NaN = codes "NaN"
shown PosInf = codes "+Inf"
shown NegInf = codes "-Inf"
