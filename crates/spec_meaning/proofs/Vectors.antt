-- What operators and signs give is a vector where their operands are.
use Rattle.std.proofs.Common.{Bool, true, false, ◌++◌, not, List, [], Option, Result, Ok, Err, IfOk}
use Rattle.pr_num.specs.declared.value.Num.{Num}
use Rattle.pr_num.specs.declared.value.TooWide.{TooWide}
use Rattle.pr_num.specs.Arithmetic.{negated}
use Rattle.pr_ast.specs.pr_labels.declared.item.Item.{Item}
use Rattle.pr_ast.specs.pr_labels.declared.matching.Matching.{Matching}
use Rattle.pr_ast.specs.declared.place.Place.{Place}
use Rattle.pr_ast.specs.declared.names.BinOp.{BinOp}
use Rattle.pr_ast.specs.declared.names.BinOp.TheVariants as op
use Rattle.spec_vectors.specs.declared.match_fault.MatchFault.{MatchFault}
use Rattle.spec_vectors.specs.declared.function_fault.FunctionFault.{FunctionFault}
use Rattle.spec_vectors.specs.private.Laws.{IsVector}
use Rattle.spec_vectors.specs.Vectors.{in_order}
use Rattle.spec_vectors.specs.Functions.{ValueFunction, mapped}
use Rattle.spec_vectors.specs.Matching.{Operator, fault_of_outcomes, is_matched, items_kept, joined, kept_pairs, left_alone, many_side, one_side, outcomes_of, side_fault}
use Rattle.spec_vectors.specs.Operators.{holds}
use Rattle.spec_vectors.proofs.Vectors.{vector_filter, vector_in_order, vector_unless}
use Rattle.spec_vectors.proofs.FunctionAnswers.{mapped_vector}
use Rattle.std.specs.Option.{option_or}
use Rattle.spec_meaning.specs.declared.fault.Fault.{Fault}
use Rattle.spec_meaning.specs.declared.value.Value.{Value}
use Rattle.spec_meaning.specs.declared.value.Value.TheVariants.{Scalar, Vector}
use Rattle.spec_meaning.specs.private.Laws.{IsAnswer}
use Rattle.spec_meaning.specs.Answers.{function_at, go_on, joined_at, scalar_at}
use Rattle.spec_meaning.specs.Operators.{comparison_of, is_filter, matching_of, operator_of, result_of}
use Rattle.spec_meaning.specs.Operations.{between_vectors, negated_value, operated, with_scalar}

pub next_answer : (next : Value → Result Value Fault) (r : Result Value Fault) → ((v : Value) → IsAnswer v → IfOk (next v) IsAnswer) → IfOk r IsAnswer → IfOk (go_on next r) IsAnswer
next_answer next (Ok v) h k = h v k
next_answer next (Err e) h k = tt

pub scalar_answer : (p : Place) (r : Result Num TooWide) → IfOk (scalar_at p r) IsAnswer
scalar_answer p (Ok v) = tt
scalar_answer p (Err e) = tt

pub function_answer : (p : Place) (r : Result (List (Item Num)) FunctionFault) → IfOk r IsVector → IfOk (function_at p r) IsAnswer
function_answer p (Ok items) h = h
function_answer p (Err e) h = tt

joined_answer : (p : Place) (r : Result (List (Item Num)) MatchFault) → IfOk r IsVector → IfOk (joined_at p r) IsAnswer
joined_answer p (Ok items) h = h
joined_answer p (Err e) h = tt

joined_vector : (how : Matching) (keep_name : Bool) (f : Operator) (left right : List (Item Num)) → IfOk (joined how keep_name f left right) IsVector
joined_vector how keep_name f left right =
    let manys = many_side how.card left right in
    let ones = one_side how.card left right in
    let outcomes = outcomes_of how keep_name f manys ones in
    vector_unless (option_or (side_fault how manys ones) (fault_of_outcomes how.card [] outcomes)) (in_order (items_kept (kept_pairs outcomes))) (vector_in_order (items_kept (kept_pairs outcomes)))

pub negated_answer : (p : Place) (v : Value) → IsAnswer v → IfOk (negated_value p v) IsAnswer
negated_answer p (Scalar v) h = tt
negated_answer p (Vector items) h = function_answer p (mapped (λ v. Ok (negated v)) items) (mapped_vector (λ v. Ok (negated v)) items)

scalar_side : (p : Place) (b : Bool) (test : Num → Bool) (f : ValueFunction) (items : List (Item Num)) → IsVector items → IfOk (with_scalar p b test f items) IsAnswer
scalar_side p true test f items h = vector_filter (λ e. test e.value) items h
scalar_side p false test f items h = function_answer p (mapped f items) (mapped_vector f items)

values_answer : (p : Place) (o : BinOp) (b : Bool) (how : Matching) (left right : List (Item Num)) → IfOk (joined_at p (joined how (is_filter o b) (operator_of o b) left right)) IsAnswer
values_answer p o b how left right = joined_answer p (joined how (is_filter o b) (operator_of o b) left right) (joined_vector how (is_filter o b) (operator_of o b) left right)

between_answer : (p : Place) (o : BinOp) (b : Bool) (how : Matching) (left right : List (Item Num)) → IsVector left → IfOk (between_vectors p o b how left right) IsAnswer
between_answer p op.Or b how left right h = vector_in_order (left ++ left_alone how right left)
between_answer p op.And b how left right h = vector_filter (is_matched how right) left h
between_answer p op.Unless b how left right h = vector_filter (λ e. not (is_matched how right e)) left h
between_answer p op.Equal b how left right h = values_answer p op.Equal b how left right
between_answer p op.NotEqual b how left right h = values_answer p op.NotEqual b how left right
between_answer p op.LessEqual b how left right h = values_answer p op.LessEqual b how left right
between_answer p op.Less b how left right h = values_answer p op.Less b how left right
between_answer p op.GreaterEqual b how left right h = values_answer p op.GreaterEqual b how left right
between_answer p op.Greater b how left right h = values_answer p op.Greater b how left right
between_answer p op.Add b how left right h = values_answer p op.Add b how left right
between_answer p op.Sub b how left right h = values_answer p op.Sub b how left right
between_answer p op.Mul b how left right h = values_answer p op.Mul b how left right
between_answer p op.Div b how left right h = values_answer p op.Div b how left right
between_answer p op.Rem b how left right h = values_answer p op.Rem b how left right

pub operated_answer : (p : Place) (o : BinOp) (b : Bool) (m : Option Matching) (v w : Value) → IsAnswer v → IsAnswer w → IfOk (operated p o b m v w) IsAnswer
operated_answer p o b m (Scalar x) (Scalar y) h k = scalar_answer p (result_of o x y)
operated_answer p o b m (Vector v) (Scalar y) h k = scalar_side p (is_filter o b) (λ x. holds (comparison_of o) x y) (λ x. result_of o x y) v h
operated_answer p o b m (Scalar x) (Vector w) h k = scalar_side p (is_filter o b) (λ y. holds (comparison_of o) x y) (λ y. result_of o x y) w k
operated_answer p o b m (Vector v) (Vector w) h k = between_answer p o b (matching_of m) v w h
