-- What the operations on values give. A finite value is its number of units of 10^-9.
use Rattle.std.specs.Prelude.{ℕ, zero, suc, ◌^◌, ◌==◌, Bool, true, false, ℤ, pos, negsuc, neg_ℤ, ◌+ℤ◌, ◌*ℤ◌, nat_lt, if◌then◌else◌, unsigned_abs, int_rem, Result, Ok, Err}
use Rattle.pr_num.specs.declared.value.Num.{Num}
use Rattle.pr_num.specs.declared.value.Num.TheVariants.{Finite, NaN, PosInf, NegInf}
use Rattle.pr_num.specs.declared.value.TooWide.{TooWide}
use Rattle.pr_num.specs.Half.{half}
use Rattle.pr_num.specs.Units.{IsNano}

-- the only value of `TooWide`
abbrev pub too_wide : TooWide
too_wide = record {}

-- the value of this many units, unless they are 10^29 or more in magnitude
abbrev pub fitted : ℤ → Result Num TooWide
fitted z = if nat_lt (unsigned_abs z) (10 ^ 29) then Ok (Finite z) else Err too_wide

-- what every value is: its units are below 10^29 in magnitude
abbrev pub IsFit : Num → Type 0
IsFit (Finite z) = IsNano z
IsFit NaN = Unit {0}
IsFit PosInf = Unit {0}
IsFit NegInf = Unit {0}

-- a whole number as a value
abbrev pub whole_of : ℤ → Num
whole_of n = Finite (n *ℤ pos (10 ^ 9))

abbrev pub negated : Num → Num
negated (Finite a) = Finite (neg_ℤ a)
negated NaN = NaN
negated PosInf = NegInf
negated NegInf = PosInf

abbrev pub absolute : Num → Num
absolute (Finite a) = Finite (pos (unsigned_abs a))
absolute NaN = NaN
absolute PosInf = PosInf
absolute NegInf = PosInf

-- exact; opposite infinities have no sum
unfoldable pub sum_of : Num → Num → Result Num TooWide
sum_of (Finite a) (Finite b) = fitted (a +ℤ b)
sum_of NaN _ = Ok NaN
sum_of (Finite a) NaN = Ok NaN
sum_of PosInf NaN = Ok NaN
sum_of NegInf NaN = Ok NaN
sum_of PosInf NegInf = Ok NaN
sum_of NegInf PosInf = Ok NaN
sum_of PosInf (Finite b) = Ok PosInf
sum_of PosInf PosInf = Ok PosInf
sum_of (Finite a) PosInf = Ok PosInf
sum_of NegInf (Finite b) = Ok NegInf
sum_of NegInf NegInf = Ok NegInf
sum_of (Finite a) NegInf = Ok NegInf

-- a - b is a + -b
abbrev pub difference_of : Num → Num → Result Num TooWide
difference_of a b = sum_of a (negated b)

-- the infinity of this sign
abbrev pub infinity : Bool → Num
infinity true = NegInf
infinity false = PosInf

-- an infinity times a value of this many units: by the signs, and NaN where it is zero
abbrev pub infinite_times : Bool → ℤ → Num
infinite_times negative (pos zero) = NaN
infinite_times negative (pos (suc n)) = infinity negative
infinite_times true (negsuc n) = PosInf
infinite_times false (negsuc n) = NegInf

-- rounded half to even at the ninth place
unfoldable pub product_of : Num → Num → Result Num TooWide
product_of (Finite a) (Finite b) = fitted (half (a *ℤ b) (pos (10 ^ 9)))
product_of NaN _ = Ok NaN
product_of (Finite a) NaN = Ok NaN
product_of PosInf NaN = Ok NaN
product_of NegInf NaN = Ok NaN
product_of PosInf (Finite b) = Ok (infinite_times false b)
product_of NegInf (Finite b) = Ok (infinite_times true b)
product_of (Finite a) PosInf = Ok (infinite_times false a)
product_of (Finite a) NegInf = Ok (infinite_times true a)
product_of PosInf PosInf = Ok PosInf
product_of PosInf NegInf = Ok NegInf
product_of NegInf PosInf = Ok NegInf
product_of NegInf NegInf = Ok PosInf

-- a value of this many units over zero: the infinity of its sign, and NaN for zero itself
abbrev pub over_zero : ℤ → Num
over_zero (pos zero) = NaN
over_zero (pos (suc n)) = PosInf
over_zero (negsuc n) = NegInf

abbrev pub finite_quotient : ℤ → ℤ → Result Num TooWide
finite_quotient a b = if unsigned_abs b == 0 then Ok (over_zero a) else fitted (half (a *ℤ pos (10 ^ 9)) b)

-- rounded half to even at the ninth place; zero has a positive sign
unfoldable pub quotient_of : Num → Num → Result Num TooWide
quotient_of (Finite a) (Finite b) = finite_quotient a b
quotient_of NaN _ = Ok NaN
quotient_of (Finite a) NaN = Ok NaN
quotient_of PosInf NaN = Ok NaN
quotient_of NegInf NaN = Ok NaN
quotient_of (Finite a) PosInf = Ok (Finite (pos 0))
quotient_of (Finite a) NegInf = Ok (Finite (pos 0))
quotient_of PosInf (Finite (pos b)) = Ok PosInf
quotient_of PosInf (Finite (negsuc b)) = Ok NegInf
quotient_of NegInf (Finite (pos b)) = Ok NegInf
quotient_of NegInf (Finite (negsuc b)) = Ok PosInf
quotient_of PosInf PosInf = Ok NaN
quotient_of PosInf NegInf = Ok NaN
quotient_of NegInf PosInf = Ok NaN
quotient_of NegInf NegInf = Ok NaN

-- what is left after whole divisors, with the sign of the left value
unfoldable pub remainder_of : Num → Num → Num
remainder_of (Finite a) (Finite b) = if unsigned_abs b == 0 then NaN else Finite (int_rem a b)
remainder_of (Finite a) PosInf = Finite a
remainder_of (Finite a) NegInf = Finite a
remainder_of (Finite a) NaN = NaN
remainder_of NaN _ = NaN
remainder_of PosInf _ = NaN
remainder_of NegInf _ = NaN

-- a * b / c, rounded once
unfoldable pub muldiv_of : Num → ℕ → ℕ → Result Num TooWide
muldiv_of (Finite a) b c = fitted (half (a *ℤ pos b) (pos c))
muldiv_of NaN b c = Ok NaN
muldiv_of PosInf b c = Ok PosInf
muldiv_of NegInf b c = Ok NegInf
