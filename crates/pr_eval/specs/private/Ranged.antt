-- Calls of functions of ranges.
use Rattle.std.specs.Prelude.{◌≡◌, false, is_some, List, [], map, Option, Some, None, unwrap_or, Result, Ok, Err}
use Rattle.pr_num.specs.declared.value.Num.{Num}
use Rattle.pr_num.specs.declared.value.Num.TheVariants.{NaN}
use Rattle.pr_ast.specs.declared.place.Place.{Place}
use Rattle.pr_ast.specs.declared.names.Func.{Func}
use Rattle.pr_ast.specs.declared.names.Func.TheVariants.{AbsentOverTime, PredictLinear, QuantileOverTime}
use Rattle.pr_ast.specs.Tree.{Tree, none, more, tree_of}
use Rattle.spec_meaning.specs.pr_types.declared.kind.ValueType.TheVariants.{Range, Scalar}
use Rattle.spec_meaning.specs.pr_types.Typed.{typed}
use Rattle.pr_range.specs.spec_vectors.declared.range.RangeFn.TheVariants.{PresentOverTime as Present, PredictLinear as Predict, QuantileOverTime as Quantile}
use Rattle.spec_meaning.specs.declared.fault.Fault.{Fault}
use Rattle.spec_meaning.specs.declared.value.Value.{Value}
use Rattle.spec_meaning.specs.declared.value.Value.TheVariants.{Vector}
use Rattle.spec_meaning.specs.Absence.{absent_of, labels_of_argument}
use Rattle.spec_meaning.specs.Answers.{fault, go_on}
use Rattle.spec_meaning.specs.Calls.{vector_at}
use Rattle.spec_meaning.specs.Given.{Ranged, scalar_in}
use Rattle.spec_meaning.specs.RangeCalls.{answers_over, over_given, question}
use Rattle.spec_meaning.specs.Subqueries.{Taken}
use Rattle.pr_range.specs.private.Asks.{takes_argument}
use Rattle.pr_eval.specs.declared.values.error.EvalError.{EvalError}
use Rattle.pr_eval.specs.declared.values.error.EvalError.TheVariants as error
use Rattle.pr_eval.specs.declared.range_calls.call.RangeCall.{RangeCall}
use Rattle.pr_eval.specs.private.RangeCallsAsking.{presence}
use Rattle.pr_eval.specs.private.Taken.{AreTaken, ranged_of}
use Rattle.pr_eval.specs.private.Times.{AreTimesWithin}
use Rattle.pr_eval.specs.declared.range_call.RangeUse.{RangeUse}
use Rattle.pr_eval.specs.declared.range_call.RangeUse.TheVariants.{Answers, Absence}
use Rattle.pr_eval.specs.declared.range_call.RangeOperands.{RangeOperands}
use Rattle.pr_eval.specs.declared.range_call.RangeOperands.TheVariants.{Alone, Behind, Before}
use Rattle.pr_eval.specs.declared.subquery.SubquerySeries.{SubquerySeries}
use Rattle.pr_eval.specs.private.Asking.{asked_for}

-- A range, alone or with a scalar beside it, as the arguments of a call.
abbrev pub AreRangeOperands : Func → Tree → RangeOperands → Type 0
AreRangeOperands func ts (Alone range) = (ts ≡ more none (tree_of range.now)) × ((typed (tree_of range.now) ≡ Ok Range) × (takes_argument (asked_for func) ≡ false))
AreRangeOperands func ts (Behind scalar range) = (func ≡ QuantileOverTime) × ((ts ≡ more (more none (tree_of scalar.now)) (tree_of range.now)) × ((typed (tree_of scalar.now) ≡ Ok Scalar) × (typed (tree_of range.now) ≡ Ok Range)))
AreRangeOperands func ts (Before range scalar) = (func ≡ PredictLinear) × ((ts ≡ more (more none (tree_of range.now)) (tree_of scalar.now)) × ((typed (tree_of range.now) ≡ Ok Range) × (typed (tree_of scalar.now) ≡ Ok Scalar)))

-- the call by which series are asked
abbrev pub call_in : RangeUse → RangeCall
call_in (Answers call) = call
call_in (Absence place labels) = presence place

-- what is made of a range
abbrev pub made_of : RangeUse → Option Ranged → Result Value Fault
made_of (Answers call) r = over_given call.place call.func call.arg r
made_of (Absence place labels) None = Ok (Vector [])
made_of (Absence place labels) (Some r) = go_on (λ items. vector_at (absent_of labels items)) (answers_over place r.place (question Present None r) r.series)

-- a function and its argument have one another
abbrev pub HasItsArgument : RangeUse → Type 0
HasItsArgument u = is_some (call_in u).arg ≡ takes_argument (call_in u).func

-- what a function of a range alone makes of it
abbrev pub use_alone : Place → Func → Tree → RangeUse
use_alone place AbsentOverTime ts = Absence place (labels_of_argument ts)
use_alone place func ts = Answers (record { place = place; func = asked_for func; arg = None })

-- a scalar as a number
abbrev pub number_of_value : Value → Num
number_of_value v = unwrap_or (scalar_in v) NaN

-- what the two functions with a scalar beside the range make of it
abbrev pub quantile_by : Place → Value → RangeUse
quantile_by place v = Answers (record { place = place; func = Quantile; arg = Some (number_of_value v) })

abbrev pub prediction_by : Place → Value → RangeUse
prediction_by place v = Answers (record { place = place; func = Predict; arg = Some (number_of_value v) })

-- The series of a subquery are those that are meant, or its first fault is.
abbrev pub AreSeries : Result (Option Ranged) Fault → Result SubquerySeries EvalError → Type 0
AreSeries meant (Ok s) = (ts : List Taken) × (AreTaken ts s.series × (AreTimesWithin s.range.from s.range.to (map (λ t. t.time) ts) × (meant ≡ Ok (Some (ranged_of s.range ts)))))
AreSeries meant (Err (error.Fault place kind)) = meant ≡ Err (fault place kind)
AreSeries meant (Err error.Memory) = Unit {0}
