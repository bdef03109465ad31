-- Operators and signs, between the values that their operands give.
use Rattle.std.specs.Prelude.{Bool, if◌then◌else◌, List, Option, Result, Ok}
use Rattle.pr_num.specs.declared.value.Num.{Num}
use Rattle.pr_num.specs.Arithmetic.{negated}
use Rattle.pr_ast.specs.pr_labels.declared.item.Item.{Item}
use Rattle.pr_ast.specs.pr_labels.declared.matching.Matching.{Matching}
use Rattle.pr_ast.specs.declared.place.Place.{Place}
use Rattle.pr_ast.specs.declared.names.BinOp.{BinOp}
use Rattle.pr_ast.specs.declared.names.BinOp.TheVariants.{Or, And, Unless}
use Rattle.spec_vectors.specs.Operators.{holds, kept_where}
use Rattle.spec_vectors.specs.Functions.{ValueFunction, mapped}
use Rattle.spec_vectors.specs.Matching.{joined, both_sides, left_alone, either_side}
use Rattle.spec_meaning.specs.declared.fault.Fault.{Fault}
use Rattle.spec_meaning.specs.declared.value.Value.{Value}
use Rattle.spec_meaning.specs.declared.value.Value.TheVariants.{Scalar, Vector}
use Rattle.spec_meaning.specs.Answers.{scalar_at, joined_at, function_at}
use Rattle.spec_meaning.specs.Operators.{comparison_of, result_of, is_filter, operator_of, matching_of}

-- The minus sign drops the metric's name of a vector.
abbrev pub negated_value : Place → Value → Result Value Fault
negated_value p (Scalar v) = Ok (Scalar (negated v))
negated_value p (Vector items) = function_at p (mapped (λ v. Ok (negated v)) items)

-- A vector with a scalar. A filter keeps the elements of which it holds as they are, whichever side
-- the vector stands on; every other operator gives each element another value, and drops the
-- metric's name.
abbrev pub with_scalar : Place → Bool → (Num → Bool) → ValueFunction → List (Item Num) → Result Value Fault
with_scalar p filters test f items = if filters then Ok (Vector (kept_where test items)) else function_at p (mapped f items)

-- Two vectors. A filter keeps the metric's name, and every other operator on values drops it.
abbrev pub between_vectors : Place → BinOp → Bool → Matching → List (Item Num) → List (Item Num) → Result Value Fault
between_vectors p Or b how left right = Ok (Vector (either_side how left right))
between_vectors p And b how left right = Ok (Vector (both_sides how left right))
between_vectors p Unless b how left right = Ok (Vector (left_alone how left right))
between_vectors p o b how left right = joined_at p (joined how (is_filter o b) (operator_of o b) left right)

abbrev pub operated : Place → BinOp → Bool → Option Matching → Value → Value → Result Value Fault
operated p o b m (Scalar x) (Scalar y) = scalar_at p (result_of o x y)
operated p o b m (Vector v) (Scalar y) = with_scalar p (is_filter o b) (λ x. holds (comparison_of o) x y) (λ x. result_of o x y) v
operated p o b m (Scalar x) (Vector w) = with_scalar p (is_filter o b) (λ y. holds (comparison_of o) x y) (λ y. result_of o x y) w
operated p o b m (Vector v) (Vector w) = between_vectors p o b (matching_of m) v w
