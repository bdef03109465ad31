-- Rounding of a fraction to a whole number, half to even.
use Rattle.std.specs.Prelude.{◌≡◌, ℕ, suc, ◌+◌, ◌*◌, ◌/◌, ◌%◌, ◌<◌, ◌⊎◌, Bool, true, false, ℤ, pos, negsuc, neg_ℤ, ◌-ℤ◌, ◌*ℤ◌, nat_lt, if◌then◌else◌, unsigned_abs}

-- a number with this sign and this magnitude
abbrev pub signed : Bool → ℕ → ℤ
signed true n = neg_ℤ (pos n)
signed false n = pos n

-- whether a number is below zero
abbrev pub below_zero : ℤ → Bool
below_zero (pos n) = false
below_zero (negsuc n) = true

-- whether two numbers have different signs
abbrev pub apart : ℤ → ℤ → Bool
apart (pos m) (pos n) = false
apart (pos m) (negsuc n) = true
apart (negsuc m) (pos n) = true
apart (negsuc m) (negsuc n) = false

-- the whole number next to q + r / d, where r is below d; halfway between two, the even one
abbrev pub round_by_rest : ℕ → ℕ → ℕ → ℕ
round_by_rest q r d = if nat_lt (2 * r) d then q else (if nat_lt d (2 * r) then q + 1 else q + q % 2)

-- n / d, rounded to a whole number, half to even
unfoldable pub half_abs : ℕ → ℕ → ℕ
half_abs n d = round_by_rest (n / d) (n % d) d

-- p / q, rounded to a whole number, half to even
unfoldable pub half : ℤ → ℤ → ℤ
half (pos n) (pos d) = pos (half_abs n d)
half (pos n) (negsuc d) = neg_ℤ (pos (half_abs n (suc d)))
half (negsuc n) (pos d) = neg_ℤ (pos (half_abs (suc n) d))
half (negsuc n) (negsuc d) = pos (half_abs (suc n) (suc d))

-- n is the whole number next to p / q; halfway between two, the even one
abbrev pub IsHalf : ℤ → ℤ → ℤ → Type 0
IsHalf p q n = (2 * unsigned_abs (p -ℤ n *ℤ q) < unsigned_abs q)
    ⊎ ((2 * unsigned_abs (p -ℤ n *ℤ q) ≡ unsigned_abs q) × (unsigned_abs n % 2 ≡ 0))
