-- Vectors: elements with distinct label sets, in label order.
use Rattle.std.specs.Prelude.{List, [], ◌∷◌, map, fold}
use Rattle.std.specs.declared.cmp.Ordering.{Ordering}
use Rattle.std.specs.declared.cmp.Ordering.TheVariants.{Less, Equal, Greater}
use Rattle.pr_num.specs.declared.value.Num.{Num}
use Rattle.spec_history.specs.pr_labels.declared.pair.Pair.{Pair}
use Rattle.spec_history.specs.pr_labels.declared.item.Item.{Item}
use Rattle.spec_history.specs.pr_labels.Order.{labels_cmp}
use Rattle.spec_history.specs.pr_labels.Rising.{with_labels}
pub use Rattle.spec_history.specs.Series.{element}

abbrev pub label_sets : List (Item Num) → List (List Pair)
label_sets items = map (λ e. e.labels) items

-- label sets in label order, each once
abbrev pub in_label_order : List (List Pair) → List (List Pair)
in_label_order sets = fold with_labels [] sets

-- one element put among those in label order, in the place of one with its labels
abbrev pub item_placed : Ordering → Item Num → Item Num → List (Item Num) → List (Item Num) → List (Item Num)
item_placed Less e first rest more = e ∷ first ∷ rest
item_placed Equal e first rest more = e ∷ rest
item_placed Greater e first rest more = first ∷ more

abbrev pub with_element : List (Item Num) → Item Num → List (Item Num)
with_element [] e = e ∷ []
with_element (first ∷ rest) e = item_placed (labels_cmp e.labels first.labels) e first rest (with_element rest e)

-- elements in label order
abbrev pub in_order : List (Item Num) → List (Item Num)
in_order items = fold with_element [] items
