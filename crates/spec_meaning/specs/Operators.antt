-- The operators of the language, as operators of two values.
use Rattle.std.specs.Prelude.{Bool, false, not, ◌&&◌, if◌then◌else◌, [], Option, Some, None, Result, Ok}
use Rattle.pr_num.specs.declared.value.Num.{Num}
use Rattle.pr_num.specs.declared.value.Num.TheVariants.{NaN}
use Rattle.pr_num.specs.declared.value.TooWide.{TooWide}
use Rattle.pr_num.specs.Arithmetic.{sum_of, difference_of, product_of, quotient_of, remainder_of}
use Rattle.pr_ast.specs.pr_labels.declared.matching.Card.TheVariants.{OneToOne}
use Rattle.pr_ast.specs.pr_labels.declared.matching.Matching.{Matching}
use Rattle.pr_ast.specs.declared.names.BinOp.{BinOp}
use Rattle.pr_ast.specs.declared.names.BinOp.TheVariants as op
use Rattle.pr_types.specs.Operations.{compares}
use Rattle.spec_vectors.specs.Matching.{Operator, always_kept}
use Rattle.spec_vectors.specs.Operators.{Comparison, are_equal, are_unequal, is_less, is_at_most, is_greater, is_at_least, filtering, holds, truth_value}

-- what a comparison asks; every other operator asks nothing, and never holds
abbrev pub comparison_of : BinOp → Comparison
comparison_of op.Equal = are_equal
comparison_of op.NotEqual = are_unequal
comparison_of op.LessEqual = is_at_most
comparison_of op.Less = is_less
comparison_of op.GreaterEqual = is_at_least
comparison_of op.Greater = is_greater
comparison_of op.Or = λ o. false
comparison_of op.And = λ o. false
comparison_of op.Unless = λ o. false
comparison_of op.Add = λ o. false
comparison_of op.Sub = λ o. false
comparison_of op.Mul = λ o. false
comparison_of op.Div = λ o. false
comparison_of op.Rem = λ o. false

-- the value of an operator; a comparison gives 1 or 0, and the operators between sets, which work
-- on vectors alone, give none
abbrev pub result_of : BinOp → Num → Num → Result Num TooWide
result_of op.Add a b = sum_of a b
result_of op.Sub a b = difference_of a b
result_of op.Mul a b = product_of a b
result_of op.Div a b = quotient_of a b
result_of op.Rem a b = Ok (remainder_of a b)
result_of op.Equal a b = Ok (truth_value (holds are_equal a b))
result_of op.NotEqual a b = Ok (truth_value (holds are_unequal a b))
result_of op.LessEqual a b = Ok (truth_value (holds is_at_most a b))
result_of op.Less a b = Ok (truth_value (holds is_less a b))
result_of op.GreaterEqual a b = Ok (truth_value (holds is_at_least a b))
result_of op.Greater a b = Ok (truth_value (holds is_greater a b))
result_of op.Or a b = Ok NaN
result_of op.And a b = Ok NaN
result_of op.Unless a b = Ok NaN

-- a comparison without `bool` is a filter
abbrev pub is_filter : BinOp → Bool → Bool
is_filter o with_bool = compares o && not with_bool

-- the operator between the values of two vectors
abbrev pub operator_of : BinOp → Bool → Operator
operator_of o with_bool a b = if is_filter o with_bool then filtering (comparison_of o) a b else always_kept (result_of o a b)

-- Where no matching is written, elements match by all their labels but the metric's name, one to
-- one.
abbrev pub by_all_labels : Matching
by_all_labels = record { on = false; names = []; card = OneToOne; include = [] }

abbrev pub matching_of : Option Matching → Matching
matching_of None = by_all_labels
matching_of (Some how) = how
