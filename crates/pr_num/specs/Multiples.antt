-- The multiples of a step next to a value: floor, ceil and rounding to a step.
use Rattle.std.specs.Prelude.{suc, ◌+◌, ◌-◌, ◌/◌, ◌^◌, ◌==◌, ℤ, pos, negsuc, neg_ℤ, ◌≤ℤ◌, ◌<ℤ◌, ◌+ℤ◌, ◌*ℤ◌, unsigned_abs, if◌then◌else◌, Result, Ok}
use Rattle.pr_num.specs.declared.value.Num.{Num}
use Rattle.pr_num.specs.declared.value.Num.TheVariants.{Finite, NaN, PosInf, NegInf}
use Rattle.pr_num.specs.declared.value.TooWide.{TooWide}
use Rattle.pr_num.specs.Half.{apart}
use Rattle.pr_num.specs.Arithmetic.{fitted}

-- the greatest whole number that is at most p / q; below zero it is minus the magnitudes' quotient,
-- rounded up
unfoldable pub floor_quotient : ℤ → ℤ → ℤ
floor_quotient p q =
    if apart p q then neg_ℤ (pos ((unsigned_abs p + (unsigned_abs q - 1)) / unsigned_abs q))
    else pos (unsigned_abs p / unsigned_abs q)

-- the least whole number that is at least p / q
abbrev pub ceil_quotient : ℤ → ℤ → ℤ
ceil_quotient p q = neg_ℤ (floor_quotient (neg_ℤ p) q)

-- the greatest whole value that is at most this one
unfoldable pub floor_of : Num → Result Num TooWide
floor_of (Finite a) = fitted (floor_quotient a (pos (10 ^ 9)) *ℤ pos (10 ^ 9))
floor_of NaN = Ok NaN
floor_of PosInf = Ok PosInf
floor_of NegInf = Ok NegInf

-- the least whole value that is at least this one
unfoldable pub ceil_of : Num → Result Num TooWide
ceil_of (Finite a) = fitted (ceil_quotient a (pos (10 ^ 9)) *ℤ pos (10 ^ 9))
ceil_of NaN = Ok NaN
ceil_of PosInf = Ok PosInf
ceil_of NegInf = Ok NegInf

-- how often a step goes into a value, plus one half, rounded down: floor (a / s + 1/2)
abbrev pub nearest_steps : ℤ → ℤ → ℤ
nearest_steps a s = floor_quotient (pos 2 *ℤ a +ℤ s) (pos 2 *ℤ s)

-- that many steps
unfoldable pub rounded_to : Num → Num → Result Num TooWide
rounded_to (Finite a) (Finite s) = if unsigned_abs s == 0 then Ok NaN else fitted (nearest_steps a s *ℤ s)
rounded_to PosInf (Finite s) = if unsigned_abs s == 0 then Ok NaN else Ok PosInf
rounded_to NegInf (Finite s) = if unsigned_abs s == 0 then Ok NaN else Ok NegInf
rounded_to NaN _ = Ok NaN
rounded_to (Finite a) NaN = Ok NaN
rounded_to (Finite a) PosInf = Ok NaN
rounded_to (Finite a) NegInf = Ok NaN
rounded_to PosInf NaN = Ok NaN
rounded_to PosInf PosInf = Ok NaN
rounded_to PosInf NegInf = Ok NaN
rounded_to NegInf NaN = Ok NaN
rounded_to NegInf PosInf = Ok NaN
rounded_to NegInf NegInf = Ok NaN

-- n is the greatest whole number that is at most p / q
abbrev pub IsFloor : ℤ → ℤ → ℤ → Type 0
IsFloor p (pos d) n = ((n *ℤ pos d) ≤ℤ p) × (p <ℤ (n *ℤ pos d +ℤ pos d))
IsFloor p (negsuc d) n = ((n *ℤ pos (suc d)) ≤ℤ neg_ℤ p) × (neg_ℤ p <ℤ (n *ℤ pos (suc d) +ℤ pos (suc d)))
