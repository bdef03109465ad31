-- What is put in order rises, and so does what a filter leaves of it.
use Rattle.std.proofs.Common.{◌≡◌, Bool, true, false, cond, List, [], ◌∷◌, filter, fold, Option, Some, None, IfOk, refl, sym, subst}
use Rattle.std.specs.declared.cmp.Ordering.{Ordering}
use Rattle.std.specs.declared.cmp.Ordering.TheVariants.{Less, Equal, Greater}
use Rattle.pr_num.specs.declared.value.Num.{Num}
use Rattle.spec_history.specs.pr_labels.declared.pair.Pair.{Pair}
use Rattle.spec_history.specs.pr_labels.declared.item.Item.{Item}
use Rattle.spec_history.specs.pr_labels.Order.{labels_cmp}
use Rattle.spec_history.specs.pr_labels.Rising.{IsBelowFirstSet}
use Rattle.spec_history.proofs.LabelsLabelOrder.{labels_total, tied, turned}
use Rattle.spec_vectors.specs.declared.match_fault.MatchFault.{MatchFault}
use Rattle.spec_vectors.specs.private.Laws.{IsVector}
use Rattle.spec_vectors.specs.Vectors.{in_order, item_placed, label_sets, with_element}
use Rattle.spec_vectors.specs.Matching.{unless_fault}

-- one more element leaves a vector
below_placed : (l : List Pair) (e first : Item Num) (rest : List (Item Num)) (o : Ordering) → labels_cmp l e.labels ≡ Less → labels_cmp l first.labels ≡ Less
    → IsBelowFirstSet l (label_sets (item_placed o e first rest (with_element rest e)))
below_placed l e first rest Less h k = h
below_placed l e first rest Equal h k = h
below_placed l e first rest Greater h k = k

below_with : (l : List Pair) (e : Item Num) (items : List (Item Num)) → labels_cmp l e.labels ≡ Less → IsBelowFirstSet l (label_sets items) → IsBelowFirstSet l (label_sets (with_element items e))
below_with l e [] h k = h
below_with l e (first ∷ rest) h k = below_placed l e first rest (labels_cmp e.labels first.labels) h k

same_below : (l m : List Pair) (items : List (Item Num)) → l ≡ m → IsBelowFirstSet m (label_sets items) → IsBelowFirstSet l (label_sets items)
same_below l m items e h = subst (λ n. IsBelowFirstSet n (label_sets items)) (sym e) h

vector_placed : (e first : Item Num) (rest : List (Item Num)) (o : Ordering) → labels_cmp e.labels first.labels ≡ o → IsVector (first ∷ rest) → IsVector (with_element rest e)
    → IsVector (item_placed o e first rest (with_element rest e))
vector_placed e first rest Less is h more = (is, h)
vector_placed e first rest Equal is h more = (same_below e.labels first.labels rest (tied e.labels first.labels is) h.0, h.1)
vector_placed e first rest Greater is h more = (below_with first.labels e rest (turned e.labels first.labels is) h.0, more)

vector_with : (e : Item Num) (items : List (Item Num)) → IsVector items → IsVector (with_element items e)
vector_with e [] h = (tt, tt)
vector_with e (first ∷ rest) h = vector_placed e first rest (labels_cmp e.labels first.labels) refl h (vector_with e rest h.1)

vector_fold : (items more : List (Item Num)) → IsVector items → IsVector (fold with_element items more)
vector_fold items [] h = h
vector_fold items (e ∷ more) h = vector_fold (with_element items e) more (vector_with e items h)

pub vector_in_order : (items : List (Item Num)) → IsVector (in_order items)
vector_in_order items = vector_fold [] items tt

-- a filter of a vector
below_next : (l : List Pair) (first : Item Num) (rest : List (Item Num)) → labels_cmp l first.labels ≡ Less → IsBelowFirstSet first.labels (label_sets rest) → IsBelowFirstSet l (label_sets rest)
below_next l first [] h k = tt
below_next l first (second ∷ rest) h k = labels_total.trans l first.labels second.labels h k

below_filter : (test : Item Num → Bool) (l : List Pair) (items : List (Item Num)) → IsBelowFirstSet l (label_sets items) → IsVector items → IsBelowFirstSet l (label_sets (filter test items))
below_filter test l [] h k = tt
below_filter test l (first ∷ rest) h k = by (test first) (below_filter test l rest (below_next l first rest h k.0) k.1) where
  by : (b : Bool) → IsBelowFirstSet l (label_sets (filter test rest)) → IsBelowFirstSet l (label_sets (cond b (first ∷ filter test rest) (filter test rest)))
  by true more = h
  by false more = more

pub vector_filter : (test : Item Num → Bool) (items : List (Item Num)) → IsVector items → IsVector (filter test items)
vector_filter test [] h = tt
vector_filter test (first ∷ rest) h = by (test first) (vector_filter test rest h.1) where
  by : (b : Bool) → IsVector (filter test rest) → IsVector (cond b (first ∷ filter test rest) (filter test rest))
  by true more = (below_filter test first.labels rest h.0 h.1, more)
  by false more = more

pub vector_unless : (fault : Option MatchFault) (items : List (Item Num)) → IsVector items → IfOk (unless_fault fault items) IsVector
vector_unless None items h = h
vector_unless (Some f) items h = tt
