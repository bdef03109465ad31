-- The answers of functions rise in label order.
use Rattle.std.proofs.Common.{◌≡◌, Bool, true, false, cond, List, [], ◌∷◌, map, filter, fold, Option, Some, None, Result, Ok, Err, IfOk, if◌then◌else◌, refl, sym, ap}
use Rattle.std.specs.List.{filter_map, list_any}
use Rattle.pr_num.specs.declared.value.Num.{Num}
use Rattle.pr_num.specs.declared.value.TooWide.{TooWide}
use Rattle.pr_num.specs.Order.{compared}
use Rattle.spec_history.specs.pr_labels.declared.pair.Pair.{Pair}
use Rattle.spec_history.specs.pr_labels.declared.item.Item.{Item}
use Rattle.spec_history.specs.pr_labels.Order.{labels_cmp}
use Rattle.spec_history.specs.pr_labels.Rising.{IsBelowFirstSet, IsRising, with_labels}
use Rattle.spec_history.proofs.LabelsLabelOrder.{rising_fold}
use Rattle.spec_vectors.specs.declared.function_fault.FunctionFault.{FunctionFault}
use Rattle.spec_vectors.specs.declared.function_fault.FunctionFault.TheVariants as fault
use Rattle.spec_vectors.specs.private.Laws.{IsVector}
use Rattle.spec_vectors.specs.Vectors.{element, in_label_order, in_order, label_sets}
use Rattle.spec_vectors.specs.Functions.{ValueFunction, are_crossed, clamped, is_too_wide, least_twice, mapped, told_apart, unless_same, with_value, within}
use Rattle.spec_vectors.specs.Histogram.{elements_by, next_element}
use Rattle.spec_vectors.proofs.Vectors.{vector_in_order}

unless_vector : (o : Option (List Pair)) (items : List (Item Num)) → IsVector items → IfOk (unless_same o items) IsVector
unless_vector None items h = h
unless_vector (Some labels) items h = tt

pub apart_vector : (items : List (Item Num)) → IfOk (told_apart items) IsVector
apart_vector items = unless_vector (least_twice (label_sets items)) (in_order items) (vector_in_order items)

fault_or : (b : Bool) (r : Result (List (Item Num)) FunctionFault) → IfOk r IsVector → IfOk (if b then Err fault.TooWide else r) IsVector
fault_or true r h = tt
fault_or false r h = h

pub mapped_vector : (f : ValueFunction) (items : List (Item Num)) → IfOk (mapped f items) IsVector
mapped_vector f items =
    fault_or (list_any (is_too_wide f) items) (told_apart (filter_map (with_value f) items)) (apart_vector (filter_map (with_value f) items))

none_or : (b : Bool) (r : Result (List (Item Num)) FunctionFault) → IfOk r IsVector → IfOk (if b then Ok [] else r) IsVector
none_or true r h = tt
none_or false r h = h

pub clamped_vector : (least most : Num) (items : List (Item Num)) → IfOk (clamped least most items) IsVector
clamped_vector least most items =
    none_or (are_crossed (compared least most)) (mapped (λ v. Ok (within least most v)) items) (mapped_vector (λ v. Ok (within least most v)) items)

-- elements by rising labels have these labels
next_labels : (labels : List Pair) (sets : List (List Pair)) (r : Result Num TooWide) (rest : Result (List (Item Num)) FunctionFault)
    → IfOk rest (λ items. label_sets items ≡ sets) → IfOk (next_element labels r rest) (λ items. label_sets items ≡ labels ∷ sets)
next_labels labels sets (Ok value) (Ok rest) h = ap (λ (more : List (List Pair)). labels ∷ more) h
next_labels labels sets (Ok value) (Err e) h = tt
next_labels labels sets (Err e) (Ok rest) h = tt
next_labels labels sets (Err e) (Err f) h = tt

by_labels : (value : List Pair → Result Num TooWide) (sets : List (List Pair)) → IfOk (elements_by value sets) (λ items. label_sets items ≡ sets)
by_labels value [] = refl
by_labels value (labels ∷ more) = next_labels labels more (value labels) (elements_by value more) (by_labels value more)

rising_items : (sets : List (List Pair)) (r : Result (List (Item Num)) FunctionFault) → IsRising sets → IfOk r (λ items. label_sets items ≡ sets) → IfOk r IsVector
rising_items sets (Ok items) h e = let P : List (List Pair) → Type 0 = λ s. IsRising s in rw e h
rising_items sets (Err f) h e = tt

pub rising_answer : (value : List Pair → Result Num TooWide) (sets : List (List Pair)) → IsRising sets → IfOk (elements_by value sets) IsVector
rising_answer value sets h = rising_items sets (elements_by value sets) h (by_labels value sets)
