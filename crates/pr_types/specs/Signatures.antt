-- Which arguments functions and aggregations take, and what they give.
use Rattle.std.specs.Prelude.{ℕ, zero, suc, nat_le, Bool, true, false, ◌&&◌, List, [], ◌∷◌, length, Option, None, Some, Result, Ok, Err, if◌then◌else◌}
use Rattle.pr_ast.specs.declared.names.AggOp.{AggOp}
use Rattle.pr_ast.specs.declared.names.AggOp.TheVariants as agg
use Rattle.pr_ast.specs.declared.names.Func.{Func}
use Rattle.pr_ast.specs.declared.names.Func.TheVariants.{Abs, Ceil, Floor, Sgn, Round, Clamp, ClampMin, ClampMax, Time, Vector, Scalar, Timestamp, Absent, AbsentOverTime, Minute, Hour, DayOfWeek, DayOfMonth, DayOfYear, DaysInMonth, Month, Year, LabelReplace, LabelJoin, HistogramQuantile, Rate, Increase, Delta, Irate, Idelta, Deriv, PredictLinear, Changes, Resets, SumOverTime, AvgOverTime, MinOverTime, MaxOverTime, CountOverTime, LastOverTime, PresentOverTime, QuantileOverTime}
use Rattle.pr_types.specs.declared.kind.ValueType.{ValueType}
use Rattle.pr_types.specs.declared.kind.ValueType.TheVariants as type
use Rattle.pr_types.specs.declared.kind.TypeKind.{TypeKind}
use Rattle.pr_types.specs.declared.kind.TypeKind.TheVariants.{WantScalar, WantVector, WantRange, WantText, Arguments}
use Rattle.pr_types.specs.declared.kind.TypeFault.{TypeFault}
use Rattle.pr_types.specs.declared.signature.Signature.{Signature}
use Rattle.pr_types.specs.declared.signature.Operand.{Operand}

-- A signature: the type of the first argument, that of all others, the least number of them and the
-- greatest, and the type of the result. The type of an argument that never stands is of no account.
abbrev pub takes : ValueType → ValueType → ℕ → ℕ → ValueType → Signature
takes first others least most gives = record { first = first; others = others; least = least; most = most; gives = gives }

-- one argument
abbrev pub takes_one : ValueType → ValueType → Signature
takes_one first gives = takes first first 1 1 gives

-- the functions
unfoldable pub func_signature : Func → Signature
func_signature Abs = takes_one type.Vector type.Vector
func_signature Ceil = takes_one type.Vector type.Vector
func_signature Floor = takes_one type.Vector type.Vector
func_signature Sgn = takes_one type.Vector type.Vector
func_signature Round = takes type.Vector type.Scalar 1 2 type.Vector
func_signature Clamp = takes type.Vector type.Scalar 3 3 type.Vector
func_signature ClampMin = takes type.Vector type.Scalar 2 2 type.Vector
func_signature ClampMax = takes type.Vector type.Scalar 2 2 type.Vector
func_signature Time = takes type.Vector type.Vector 0 0 type.Scalar
func_signature Vector = takes_one type.Scalar type.Vector
func_signature Scalar = takes_one type.Vector type.Scalar
func_signature Timestamp = takes_one type.Vector type.Vector
func_signature Absent = takes_one type.Vector type.Vector
func_signature AbsentOverTime = takes_one type.Range type.Vector
func_signature Minute = takes type.Vector type.Vector 0 1 type.Vector
func_signature Hour = takes type.Vector type.Vector 0 1 type.Vector
func_signature DayOfWeek = takes type.Vector type.Vector 0 1 type.Vector
func_signature DayOfMonth = takes type.Vector type.Vector 0 1 type.Vector
func_signature DayOfYear = takes type.Vector type.Vector 0 1 type.Vector
func_signature DaysInMonth = takes type.Vector type.Vector 0 1 type.Vector
func_signature Month = takes type.Vector type.Vector 0 1 type.Vector
func_signature Year = takes type.Vector type.Vector 0 1 type.Vector
func_signature LabelReplace = takes type.Vector type.Text 5 5 type.Vector
func_signature LabelJoin = takes type.Vector type.Text 4 4294967295 type.Vector
func_signature HistogramQuantile = takes type.Scalar type.Vector 2 2 type.Vector
func_signature Rate = takes_one type.Range type.Vector
func_signature Increase = takes_one type.Range type.Vector
func_signature Delta = takes_one type.Range type.Vector
func_signature Irate = takes_one type.Range type.Vector
func_signature Idelta = takes_one type.Range type.Vector
func_signature Deriv = takes_one type.Range type.Vector
func_signature PredictLinear = takes type.Range type.Scalar 2 2 type.Vector
func_signature Changes = takes_one type.Range type.Vector
func_signature Resets = takes_one type.Range type.Vector
func_signature SumOverTime = takes_one type.Range type.Vector
func_signature AvgOverTime = takes_one type.Range type.Vector
func_signature MinOverTime = takes_one type.Range type.Vector
func_signature MaxOverTime = takes_one type.Range type.Vector
func_signature CountOverTime = takes_one type.Range type.Vector
func_signature LastOverTime = takes_one type.Range type.Vector
func_signature PresentOverTime = takes_one type.Range type.Vector
func_signature QuantileOverTime = takes type.Scalar type.Range 2 2 type.Vector

-- the aggregations; the parameter stands before the vector
unfoldable pub agg_signature : AggOp → Signature
agg_signature agg.Sum = takes_one type.Vector type.Vector
agg_signature agg.Avg = takes_one type.Vector type.Vector
agg_signature agg.Min = takes_one type.Vector type.Vector
agg_signature agg.Max = takes_one type.Vector type.Vector
agg_signature agg.Count = takes_one type.Vector type.Vector
agg_signature agg.Group = takes_one type.Vector type.Vector
agg_signature agg.TopK = takes type.Scalar type.Vector 2 2 type.Vector
agg_signature agg.BottomK = takes type.Scalar type.Vector 2 2 type.Vector
agg_signature agg.Quantile = takes type.Scalar type.Vector 2 2 type.Vector
agg_signature agg.CountValues = takes type.Text type.Vector 2 2 type.Vector

-- the type that a signature wants at a place
abbrev pub wanted : Signature → ℕ → ValueType
wanted s zero = s.first
wanted s (suc i) = s.others

-- whether two types are the same
abbrev pub is_type : ValueType → ValueType → Bool
is_type type.Scalar type.Scalar = true
is_type type.Vector type.Vector = true
is_type type.Range type.Range = true
is_type type.Text type.Text = true
is_type _ _ = false

-- the fault of an operand that should have this type
abbrev pub kind_wanting : ValueType → TypeKind
kind_wanting type.Scalar = WantScalar
kind_wanting type.Vector = WantVector
kind_wanting type.Range = WantRange
kind_wanting type.Text = WantText

abbrev pub fault : ℕ → TypeKind → TypeFault
fault at kind = record { at = at; kind = kind }

-- the first operand that has not this type
abbrev pub first_wrong : ValueType → List Operand → Option TypeFault
first_wrong want [] = None
first_wrong want (o ∷ os) = if is_type o.gives want then first_wrong want os else Some (fault o.at (kind_wanting want))

-- the first operand that has not the type which the signature wants there
abbrev pub wrong_operand : Signature → List Operand → Option TypeFault
wrong_operand s [] = None
wrong_operand s (o ∷ os) = if is_type o.gives s.first then first_wrong s.others os else Some (fault o.at (kind_wanting s.first))

-- there are as many operands as the signature wants
abbrev pub are_counted : Signature → List Operand → Bool
are_counted s os = nat_le s.least (length os) && nat_le (length os) s.most

abbrev pub no_fault : ValueType → Option TypeFault → Result ValueType TypeFault
no_fault v None = Ok v
no_fault v (Some f) = Err f

-- what a function or an aggregation gives to its operands: their number is tested first, then their
-- types in the order of the text
abbrev pub accepted : ℕ → Signature → List Operand → Result ValueType TypeFault
accepted at s os =
    if are_counted s os then no_fault s.gives (wrong_operand s os) else Err (fault at (Arguments (length os) s.least s.most))
