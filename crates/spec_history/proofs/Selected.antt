-- The items that a selector shows are in label order.
use Rattle.std.proofs.Common.{ℤ, List, [], ◌∷◌, map, Option, Some, None}
use Rattle.std.specs.List.{cons_option}
use Rattle.std.specs.Option.{option_map}
use Rattle.pr_num.specs.declared.value.Num.{Num}
use Rattle.pr_labels.specs.declared.pair.Pair.{Pair}
use Rattle.pr_labels.specs.declared.item.Item.{Item}
use Rattle.spec_history.specs.declared.entry.Entry.{Entry}
use Rattle.pr_labels.specs.Rising.{IsBelowFirstSet, IsRising}
use Rattle.pr_labels.proofs.LabelOrder.{below_next}
use Rattle.spec_history.specs.private.Laws.{value_at, has_values, items_of, values_shown}
use Rattle.spec_history.specs.Series.{element, chosen}
use Rattle.spec_history.proofs.Choosing.{chosen_rising}

abbrev sets_in : List (Item Num) → List (List Pair)
sets_in items = map (λ i. i.labels) items

-- an item more, where the series has a value
abbrev sets_after : List Pair → Option Num → List (Item Num) → List (List Pair)
sets_after labels value items = sets_in (cons_option (option_map (element labels) value) items)

below_items : (history : List Entry) (x : ℤ) (labels : List Pair) (sets : List (List Pair)) → IsBelowFirstSet labels sets → IsRising sets
    → IsBelowFirstSet labels (sets_in (items_of history x sets))
below_items history x labels [] h k = tt
below_items history x labels (first ∷ rest) h k = by (value_at history x first) (below_items history x labels rest (below_next labels first rest h k.0) k.1) where
  by : (value : Option Num) → IsBelowFirstSet labels (sets_in (items_of history x rest)) → IsBelowFirstSet labels (sets_after first value (items_of history x rest))
  by (Some v) more = h
  by None more = more

items_rising : (history : List Entry) (x : ℤ) (sets : List (List Pair)) → IsRising sets → IsRising (sets_in (items_of history x sets))
items_rising history x [] h = tt
items_rising history x (first ∷ rest) h = by (value_at history x first) (below_items history x first rest h.0 h.1) (items_rising history x rest h.1) where
  by : (value : Option Num) → IsBelowFirstSet first (sets_in (items_of history x rest)) → IsRising (sets_in (items_of history x rest)) → IsRising (sets_after first value (items_of history x rest))
  by (Some v) below more = (below, more)
  by None below more = more

pub selected_rising : (history : List Entry) (equal : List Pair) (x : ℤ) → IsRising (sets_in (values_shown history equal x))
selected_rising history equal x = items_rising history x (chosen (has_values equal) history) (chosen_rising (has_values equal) history)
