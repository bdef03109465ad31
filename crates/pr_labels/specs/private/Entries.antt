-- Label sets with what they have, in label order.
use Rattle.std.specs.Prelude.{◌≡◌, Bool, true, false, List, ◌++◌, map, Option, Some, None, is_some}
use Rattle.std.specs.List.{AllByRecursion}
use Rattle.std.specs.Map.{lookup}
use Rattle.std.specs.BTreeMap.{insert_entry, is_at}
use Rattle.std.specs.declared.cmp.Ordering.TheVariants.{Less}
use Rattle.pr_labels.specs.declared.pair.Pair.{Pair}
use Rattle.pr_labels.specs.declared.item.Item.{Item}
use Rattle.pr_labels.specs.Order.{labels_cmp}

-- whether a label set has something
abbrev pub is_known : {X : Type 0} → List Pair → List (List Pair × X) → Bool
is_known labels entries = is_some (lookup (is_at (labels_cmp labels)) entries)

-- What a put answers and leaves: the labels with the value at their place in label order, or the
-- labels back, where they stand there, and all as it was.
abbrev pub IsPut : {X : Type 0} → Option (List Pair) → List Pair → X → List (List Pair × X) → List (List Pair × X) → Type 0
IsPut None labels value old new = (is_known labels old ≡ false) × (new ≡ insert_entry labels_cmp old labels value)
IsPut (Some again) labels value old new = (again ≡ labels) × ((is_known labels old ≡ true) × (new ≡ old))

-- the same as items
abbrev pub entry_item : {X : Type 0} → List Pair × X → Item X
entry_item e = record { labels = e.0; value = e.1 }

abbrev pub items_of : {X : Type 0} → List (List Pair × X) → List (Item X)
items_of entries = map entry_item entries

abbrev pub label_sets_of : {X : Type 0} → List (Item X) → List (List Pair)
label_sets_of items = map (λ i. i.labels) items

abbrev pub item_entry : {X : Type 0} → Item X → List Pair × X
item_entry i = (i.labels, i.value)

abbrev pub item_entries : {X : Type 0} → List (Item X) → List (List Pair × X)
item_entries items = map item_entry items

-- the items that rise, and behind them what a map has
abbrev pub entries_of : {X : Type 0} → List (Item X) → List (List Pair × X) → List (List Pair × X)
entries_of rising placed = item_entries rising ++ placed

-- label sets that are all below one
abbrev pub AreBelow : List Pair → List (List Pair) → Type 0
AreBelow labels sets = AllByRecursion (λ l. labels_cmp l labels ≡ Less) sets
