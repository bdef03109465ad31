-- The answers are in label order.
use Rattle.std.proofs.Common.{◌≡◌, List, [], ◌∷◌, Result, Ok, Err, IfOk, sym, subst}
use Rattle.std.proofs.lemmas.Map.Keys.{sorted_head, sorted_tail}
use Rattle.std.specs.List.{AllByRecursion}
use Rattle.std.specs.List.Sorted.{IsStrictlySortedBy}
use Rattle.std.specs.Map.{keys_of}
use Rattle.std.specs.declared.cmp.Ordering.TheVariants.{Less}
use Rattle.spec_vectors.specs.pr_num.declared.value.Num.{Num}
use Rattle.spec_vectors.specs.pr_labels.declared.pair.Pair.{Pair}
use Rattle.spec_vectors.specs.pr_labels.declared.item.Item.{Item}
use Rattle.spec_vectors.specs.pr_labels.Order.{labels_cmp}
use Rattle.spec_vectors.specs.pr_labels.Rising.{IsBelowFirstSet}
use Rattle.spec_vectors.specs.private.Laws.{IsVector}
use Rattle.spec_vectors.specs.Vectors.{label_sets}
use Rattle.spec_vectors.specs.pr_labels.private.Entries.{items_of}

-- what equals a vector is one
pub still_vector : {V E : Type 0} (r : Result V E) (items : V → List (Item Num)) (xs : List (Item Num)) → IsVector xs → IfOk r (λ v. items v ≡ xs) → IfOk r (λ v. IsVector (items v))
still_vector (Ok v) items xs h e = subst (λ (ys : List (Item Num)). IsVector ys) (sym e) h
still_vector (Err x) items xs h e = tt

-- the elements of a map whose keys are in order
first_below : (labels : List Pair) (entries : List (List Pair × Num)) → AllByRecursion (λ q. labels_cmp labels q ≡ Less) (keys_of entries) → IsBelowFirstSet labels (label_sets (items_of entries))
first_below labels [] h = tt
first_below labels (e ∷ es) h = h.0

pub sorted_vector : (entries : List (List Pair × Num)) → IsStrictlySortedBy labels_cmp (keys_of entries) → IsVector (items_of entries)
sorted_vector [] h = tt
sorted_vector (e ∷ es) h = (first_below e.0 es (sorted_head labels_cmp e.0 (keys_of es) h), sorted_vector es (sorted_tail labels_cmp e.0 (keys_of es) h))
