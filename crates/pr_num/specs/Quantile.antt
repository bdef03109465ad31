-- The quantile of a sorted list of values.
use Rattle.std.specs.Prelude.{ℕ, ◌+◌, ◌-◌, ◌*◌, ◌/◌, ◌%◌, ◌^◌, ◌==◌, ◌||◌, nat_lt, ℤ, pos, negsuc, ◌+ℤ◌, ◌*ℤ◌, List, [], ◌∷◌, length, slice_get, unwrap_or, if◌then◌else◌}
use Rattle.pr_num.specs.declared.value.Num.{Num}
use Rattle.pr_num.specs.declared.value.Num.TheVariants.{Finite, NaN, PosInf, NegInf}
use Rattle.pr_num.specs.Half.{half}
use Rattle.pr_num.specs.Same.{same_num}

-- the units that lie w billionths of the way from a to b, rounded half to even
abbrev pub between : ℤ → ℤ → ℕ → ℤ
between a b w = half (a *ℤ pos (10 ^ 9 - w) +ℤ b *ℤ pos w) (pos (10 ^ 9))

-- the same of any two values: no number where one is none or they are opposite infinities, else an
-- infinity that is there
abbrev pub blended : Num → Num → ℕ → Num
blended (Finite a) (Finite b) w = Finite (between a b w)
blended NaN _ w = NaN
blended (Finite a) NaN w = NaN
blended PosInf NaN w = NaN
blended NegInf NaN w = NaN
blended PosInf NegInf w = NaN
blended NegInf PosInf w = NaN
blended PosInf (Finite b) w = PosInf
blended PosInf PosInf w = PosInf
blended (Finite a) PosInf w = PosInf
blended NegInf (Finite b) w = NegInf
blended NegInf NegInf w = NegInf
blended (Finite a) NegInf w = NegInf

-- the value at a place, counted from 0
abbrev pub value_at : List Num → ℕ → Num
value_at values index = unwrap_or (slice_get values index) NaN

-- the value at a place and w billionths of the way to the next one; at a whole place, or between
-- equal values, the value itself
abbrev pub value_near : List Num → ℕ → ℕ → Num
value_near values index w =
    if (w == 0) || same_num (value_at values index) (value_at values (index + 1)) then value_at values index
    else blended (value_at values index) (value_at values (index + 1)) w

-- the value at p billionths of the way from the first place to the last
unfoldable pub ranked : ℕ → List Num → Num
ranked p values =
    value_near values (p * (length values - 1) / 10 ^ 9) (p * (length values - 1) % 10 ^ 9)

-- the quantile of values in order: no number for no values, and an infinity outside of 0 to 1
unfoldable pub quantile_of : Num → List Num → Num
quantile_of phi [] = NaN
quantile_of NaN (v ∷ vs) = NaN
quantile_of NegInf (v ∷ vs) = NegInf
quantile_of PosInf (v ∷ vs) = PosInf
quantile_of (Finite (negsuc p)) (v ∷ vs) = NegInf
quantile_of (Finite (pos p)) (v ∷ vs) = if nat_lt (10 ^ 9) p then PosInf else ranked p (v ∷ vs)
