-- The order of values.
use Rattle.std.specs.Prelude.{Option, Some, None}
use Rattle.std.specs.Ordering.{int_cmp}
use Rattle.std.specs.declared.cmp.Ordering.{Ordering}
use Rattle.std.specs.declared.cmp.Ordering.TheVariants.{Less, Equal, Greater}
use Rattle.pr_num.specs.declared.value.Num.{Num}
use Rattle.pr_num.specs.declared.value.Num.TheVariants.{Finite, NaN, PosInf, NegInf}

-- how two values stand as numbers; NaN stands to nothing
unfoldable pub compared : Num → Num → Option Ordering
compared (Finite a) (Finite b) = Some (int_cmp a b)
compared (Finite a) PosInf = Some Less
compared (Finite a) NegInf = Some Greater
compared PosInf (Finite b) = Some Greater
compared PosInf PosInf = Some Equal
compared PosInf NegInf = Some Greater
compared NegInf (Finite b) = Some Less
compared NegInf PosInf = Some Less
compared NegInf NegInf = Some Equal
compared NaN _ = None
compared (Finite a) NaN = None
compared PosInf NaN = None
compared NegInf NaN = None

-- NaN first, then the infinity below, the finite values and the infinity above
unfoldable pub order_of : Num → Num → Ordering
order_of NaN NaN = Equal
order_of NaN (Finite b) = Less
order_of NaN PosInf = Less
order_of NaN NegInf = Less
order_of (Finite a) NaN = Greater
order_of (Finite a) (Finite b) = int_cmp a b
order_of (Finite a) PosInf = Less
order_of (Finite a) NegInf = Greater
order_of PosInf NaN = Greater
order_of PosInf (Finite b) = Greater
order_of PosInf PosInf = Equal
order_of PosInf NegInf = Greater
order_of NegInf NaN = Greater
order_of NegInf (Finite b) = Less
order_of NegInf PosInf = Less
order_of NegInf NegInf = Equal
