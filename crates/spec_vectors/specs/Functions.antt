-- Functions of instant vectors: what they do to each value, and when two results cannot be told
-- apart.
use Rattle.std.specs.Prelude.{zero, suc, Bool, true, false, ℤ, pos, negsuc, nat_lt, List, [], ◌∷◌, count_by, find, Option, Some, None, Result, Ok, Err, is_err, if◌then◌else◌}
use Rattle.std.specs.List.{filter_map, list_any}
use Rattle.std.specs.Option.{option_map}
use Rattle.std.specs.Result.{result_ok}
use Rattle.std.specs.declared.cmp.Ordering.{Ordering}
use Rattle.std.specs.declared.cmp.Ordering.TheVariants.{Less, Equal, Greater}
use Rattle.pr_num.specs.declared.value.Num.{Num}
use Rattle.pr_num.specs.declared.value.Num.TheVariants.{Finite, NaN, PosInf, NegInf}
use Rattle.pr_num.specs.declared.value.TooWide.{TooWide}
use Rattle.pr_num.specs.Arithmetic.{absolute, whole_of}
use Rattle.pr_num.specs.Multiples.{ceil_of, floor_of, rounded_to}
use Rattle.pr_num.specs.Order.{compared}
use Rattle.spec_history.specs.pr_labels.declared.pair.Pair.{Pair}
use Rattle.spec_history.specs.pr_labels.declared.item.Item.{Item}
use Rattle.spec_history.specs.pr_labels.Order.{labels_eq}
use Rattle.spec_history.specs.pr_labels.SeriesText.{unnamed}
use Rattle.spec_vectors.specs.declared.function_fault.FunctionFault.{FunctionFault}
use Rattle.spec_vectors.specs.declared.function_fault.FunctionFault.TheVariants as fault
use Rattle.spec_vectors.specs.Vectors.{element, in_label_order, in_order, label_sets}

-- The least label set, in label order, that comes twice or more.
abbrev pub comes_twice : List (List Pair) → List Pair → Bool
comes_twice sets labels = nat_lt 1 (count_by (λ other. labels_eq other labels) sets)

abbrev pub least_twice : List (List Pair) → Option (List Pair)
least_twice sets = find (comes_twice sets) (in_label_order sets)

-- The elements in label order, unless two of them have equal labels.
abbrev pub unless_same : Option (List Pair) → List (Item Num) → Result (List (Item Num)) FunctionFault
unless_same None items = Ok items
unless_same (Some labels) items = Err (fault.SameLabels labels)

abbrev pub told_apart : List (Item Num) → Result (List (Item Num)) FunctionFault
told_apart items = unless_same (least_twice (label_sets items)) (in_order items)

-- What a function does to a value: it gives one, or one that is too wide.
abbrev pub ValueFunction : Type 0
ValueFunction = Num → Result Num TooWide

abbrev pub is_too_wide : ValueFunction → Item Num → Bool
is_too_wide f e = is_err (f e.value)

-- The labels of a result are those of its element without the metric's name.
abbrev pub with_value : ValueFunction → Item Num → Option (Item Num)
with_value f e = option_map (element (unnamed e.labels)) (result_ok (f e.value))

-- A function of each value: too wide where one result is so, and only then are equal labels looked
-- for.
abbrev pub mapped : ValueFunction → List (Item Num) → Result (List (Item Num)) FunctionFault
mapped f items =
    if list_any (is_too_wide f) items then Err fault.TooWide
    else told_apart (filter_map (with_value f) items)

-- The sign of a value, as -1, 0 or 1.
abbrev pub sign_of_units : ℤ → Num
sign_of_units (pos zero) = whole_of (pos 0)
sign_of_units (pos (suc n)) = whole_of (pos 1)
sign_of_units (negsuc n) = whole_of (negsuc 0)

abbrev pub sign_of : Num → Num
sign_of (Finite a) = sign_of_units a
sign_of NaN = NaN
sign_of PosInf = whole_of (pos 1)
sign_of NegInf = whole_of (negsuc 0)

-- The greater and the lesser of two values; no number where one of them is none.
abbrev pub greater_by : Option Ordering → Num → Num → Num
greater_by None a b = NaN
greater_by (Some Less) a b = b
greater_by (Some Equal) a b = a
greater_by (Some Greater) a b = a

abbrev pub lesser_by : Option Ordering → Num → Num → Num
lesser_by None a b = NaN
lesser_by (Some Less) a b = a
lesser_by (Some Equal) a b = a
lesser_by (Some Greater) a b = b

-- A value that is at least, or at most, a limit.
abbrev pub at_least : Num → Num → Num
at_least least v = greater_by (compared v least) v least

abbrev pub at_most : Num → Num → Num
at_most most v = lesser_by (compared v most) v most

abbrev pub within : Num → Num → Num → Num
within least most v = at_most most (at_least least v)

-- The functions of the language, of a whole vector.
abbrev pub abs_of : List (Item Num) → Result (List (Item Num)) FunctionFault
abs_of items = mapped (λ v. Ok (absolute v)) items

abbrev pub ceils_of : List (Item Num) → Result (List (Item Num)) FunctionFault
ceils_of items = mapped ceil_of items

abbrev pub floors_of : List (Item Num) → Result (List (Item Num)) FunctionFault
floors_of items = mapped floor_of items

abbrev pub signs_of : List (Item Num) → Result (List (Item Num)) FunctionFault
signs_of items = mapped (λ v. Ok (sign_of v)) items

-- rounded to a multiple of a step, half way up
abbrev pub rounded_all : Num → List (Item Num) → Result (List (Item Num)) FunctionFault
rounded_all step items = mapped (λ v. rounded_to v step) items

abbrev pub clamped_min : Num → List (Item Num) → Result (List (Item Num)) FunctionFault
clamped_min least items = mapped (λ v. Ok (at_least least v)) items

abbrev pub clamped_max : Num → List (Item Num) → Result (List (Item Num)) FunctionFault
clamped_max most items = mapped (λ v. Ok (at_most most v)) items

-- nothing where the limits have changed places
abbrev pub are_crossed : Option Ordering → Bool
are_crossed (Some Greater) = true
are_crossed (Some Less) = false
are_crossed (Some Equal) = false
are_crossed None = false

abbrev pub clamped : Num → Num → List (Item Num) → Result (List (Item Num)) FunctionFault
clamped least most items =
    if are_crossed (compared least most) then Ok []
    else mapped (λ v. Ok (within least most v)) items

-- The value of the only element of a vector, and no number where there is none or more than one.
abbrev pub scalar_of : List (Item Num) → Num
scalar_of [] = NaN
scalar_of (only ∷ []) = only.value
scalar_of (first ∷ second ∷ rest) = NaN
