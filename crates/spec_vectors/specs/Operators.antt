-- Operators of two values: arithmetic and comparisons.
use Rattle.std.specs.Prelude.{Bool, true, false, cond, List, filter, Option, Some, None, Ok, pos}
use Rattle.std.specs.declared.cmp.Ordering.{Ordering}
use Rattle.std.specs.declared.cmp.Ordering.TheVariants.{Less, Equal, Greater}
use Rattle.pr_num.specs.declared.value.Num.{Num}
use Rattle.pr_num.specs.Arithmetic.{whole_of}
use Rattle.pr_num.specs.Order.{compared}
use Rattle.spec_history.specs.pr_labels.declared.item.Item.{Item}
use Rattle.spec_vectors.specs.Matching.{Operator}

-- A comparison asks how its left value stands to its right one. Values of which one is NaN stand to
-- each other in no way.
abbrev pub Comparison : Type 0
Comparison = Option Ordering → Bool

abbrev pub are_equal : Comparison
are_equal None = false
are_equal (Some Less) = false
are_equal (Some Equal) = true
are_equal (Some Greater) = false

abbrev pub are_unequal : Comparison
are_unequal None = true
are_unequal (Some Less) = true
are_unequal (Some Equal) = false
are_unequal (Some Greater) = true

abbrev pub is_less : Comparison
is_less None = false
is_less (Some Less) = true
is_less (Some Equal) = false
is_less (Some Greater) = false

abbrev pub is_at_most : Comparison
is_at_most None = false
is_at_most (Some Less) = true
is_at_most (Some Equal) = true
is_at_most (Some Greater) = false

abbrev pub is_greater : Comparison
is_greater None = false
is_greater (Some Less) = false
is_greater (Some Equal) = false
is_greater (Some Greater) = true

abbrev pub is_at_least : Comparison
is_at_least None = false
is_at_least (Some Less) = false
is_at_least (Some Equal) = true
is_at_least (Some Greater) = true

-- whether the comparison holds of two values
abbrev pub holds : Comparison → Num → Num → Bool
holds c left right = c (compared left right)

-- a comparison with `bool` gives 1 where it holds, else 0
abbrev pub truth_value : Bool → Num
truth_value b = cond b (whole_of (pos 1)) (whole_of (pos 0))

-- a comparison without `bool` is a filter, which gives the left value where it holds
abbrev pub filtering : Comparison → Operator
filtering c left right = Ok (cond (holds c left right) (Some left) None)

-- a filter between a vector and a scalar keeps the elements of whose values it holds, as they are
abbrev pub kept_where : (Num → Bool) → List (Item Num) → List (Item Num)
kept_where test items = filter (λ e. test e.value) items
