-- An entry put among entries, as an element put among elements.
use Rattle.std.proofs.Common.{◌≡◌, List, [], ◌∷◌, refl, sym, ap}
use Rattle.std.specs.Ordering.{match_ordering}
use Rattle.std.specs.declared.cmp.Ordering.{Ordering}
use Rattle.std.specs.declared.cmp.Ordering.TheVariants.{Less, Equal, Greater}
use Rattle.std.specs.BTreeMap.{insert_entry}
use Rattle.pr_num.specs.declared.value.Num.{Num}
use Rattle.spec_history.specs.pr_labels.declared.pair.Pair.{Pair}
use Rattle.spec_history.specs.pr_labels.declared.item.Item.{Item}
use Rattle.spec_history.specs.pr_labels.Order.{labels_cmp}
use Rattle.spec_history.proofs.LabelsLabelOrder.{tied}
use Rattle.spec_vectors.specs.Vectors.{element, item_placed, with_element}
use Rattle.spec_history.specs.pr_labels.private.Entries.{entry_item, items_of}

-- an element put among those in order
element_placed : (o : Ordering) (k : List Pair) (v : Num) (e : List Pair × Num) (es rest : List (List Pair × Num)) → labels_cmp k e.0 ≡ o
    → items_of rest ≡ with_element (items_of es) (element k v)
    → items_of (match_ordering o ((k, v) ∷ e ∷ es) ((e.0, v) ∷ es) (e ∷ rest)) ≡ item_placed o (element k v) (entry_item e) (items_of es) (with_element (items_of es) (element k v))
element_placed Less k v e es rest is h = refl
element_placed Equal k v e es rest is h = ap (λ (l : List Pair). element l v ∷ items_of es) (sym (tied k e.0 is))
element_placed Greater k v e es rest is h = ap (λ (xs : List (Item Num)). entry_item e ∷ xs) h

pub element_put : (es : List (List Pair × Num)) (k : List Pair) (v : Num) → items_of (insert_entry labels_cmp es k v) ≡ with_element (items_of es) (element k v)
element_put [] k v = refl
element_put (e ∷ es) k v = element_placed (labels_cmp k e.0) k v e es (insert_entry labels_cmp es k v) refl (element_put es k v)
