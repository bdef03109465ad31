-- What is kept of the elements so far.
use Rattle.std.specs.Prelude.{◌≡◌, Bool, true, cond, List, Option, Some, None}
use Rattle.std.specs.Map.{keys_of}
use Rattle.std.specs.Ordering.{is_lt}
use Rattle.pr_num.specs.declared.value.Num.{Num}
use Rattle.pr_match.specs.pr_labels.declared.pair.Pair.{Pair}
use Rattle.pr_match.specs.pr_labels.declared.item.Item.{Item}
use Rattle.pr_match.specs.pr_labels.Order.{labels_cmp}
use Rattle.pr_match.specs.pr_labels.SeriesText.{unnamed}
use Rattle.spec_vectors.specs.Vectors.{element, in_label_order, in_order, label_sets}
use Rattle.spec_vectors.specs.Functions.{least_twice}
use Rattle.pr_match.specs.pr_labels.private.Entries.{items_of}
use Rattle.pr_fn.specs.declared.rows.DistinctElements.{DistinctElements}

-- the element without the metric's name
abbrev pub without_metric : Item Num → Item Num
without_metric e = element (unnamed e.labels) e.value

-- the lesser of labels and those that were the least before
abbrev pub is_below : List Pair → Option (List Pair) → Bool
is_below labels None = true
is_below labels (Some least) = is_lt (labels_cmp labels least)

abbrev pub least_with : Option (List Pair) → List Pair → Option (List Pair)
least_with least labels = cond (is_below labels least) (Some labels) least

-- Each label set that came has its place, the least of those that came again is known, and where
-- none did so, all elements are there.
pub record AreRows (front : List (Item Num)) (rows : DistinctElements) : Type 0 where
  pub known : keys_of rows.elements ≡ in_label_order (label_sets front)
  pub again : rows.again ≡ least_twice (label_sets front)
  pub listed : rows.again ≡ None → items_of rows.elements ≡ in_order front
