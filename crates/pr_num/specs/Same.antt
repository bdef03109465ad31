-- When two numbers, or two points, are one.
use Rattle.std.specs.Prelude.{Bool, true, false}
use Rattle.std.specs.Ordering.{int_eq}
use Rattle.pr_num.specs.declared.value.Num.{Num}
use Rattle.pr_num.specs.declared.value.Num.TheVariants.{Finite, NaN, PosInf, NegInf}
use Rattle.pr_num.specs.declared.value.Point.{Point}
use Rattle.pr_num.specs.declared.value.Point.TheVariants.{Value, Stale}

-- numbers and points are compared by variant and value
abbrev pub same_num : Num → Num → Bool
same_num (Finite a) (Finite b) = int_eq a b
same_num NaN NaN = true
same_num PosInf PosInf = true
same_num NegInf NegInf = true
same_num (Finite a) NaN = false
same_num (Finite a) PosInf = false
same_num (Finite a) NegInf = false
same_num NaN (Finite b) = false
same_num NaN PosInf = false
same_num NaN NegInf = false
same_num PosInf (Finite b) = false
same_num PosInf NaN = false
same_num PosInf NegInf = false
same_num NegInf (Finite b) = false
same_num NegInf NaN = false
same_num NegInf PosInf = false

abbrev pub same_point : Point → Point → Bool
same_point (Value a) (Value b) = same_num a b
same_point Stale Stale = true
same_point (Value a) Stale = false
same_point Stale (Value b) = false
