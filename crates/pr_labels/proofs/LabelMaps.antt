-- Maps whose keys are label sets.
use Rattle.std.proofs.Common.{◌≡◌, Bool, true, false, ◌||◌, List, [], ◌∷◌, refl, sym, ap, subst}
use Rattle.std.specs.List.{AllByRecursion, list_any}
use Rattle.std.specs.Map.{keys_of}
use Rattle.std.specs.Ordering.{is_eq, match_ordering}
use Rattle.std.specs.declared.cmp.Ordering.{Ordering}
use Rattle.std.specs.declared.cmp.Ordering.TheVariants.{Less, Equal, Greater}
use Rattle.std.specs.BTreeMap.{insert_entry, is_at}
use Rattle.pr_labels.specs.declared.pair.Pair.{Pair}
use Rattle.pr_labels.specs.Order.{labels_cmp, labels_eq, labels_tie}
use Rattle.pr_labels.specs.Rising.{placed, with_labels}
use Rattle.pr_labels.proofs.LabelOrder.{tied}
use Rattle.pr_labels.proofs.Sorted.{equal_of}

-- a key is found where it is equal
pub tie : (a b : List Pair) → is_at (labels_cmp a) b ≡ labels_eq a b
tie a b = sym (labels_tie a b)

pub same_labels : (a b : List Pair) → is_eq (labels_cmp a b) ≡ true → a ≡ b
same_labels a b h = tied a b (equal_of (labels_cmp a b) h)

-- the keys of a map with one more
key_placed : {V : Type 0} (o : Ordering) (k : List Pair) (v : V) (e : List Pair × V) (es rest : List (List Pair × V)) → keys_of rest ≡ with_labels (keys_of es) k
    → keys_of (match_ordering o ((k, v) ∷ e ∷ es) ((e.0, v) ∷ es) (e ∷ rest)) ≡ placed o k e.0 (keys_of es) (with_labels (keys_of es) k)
key_placed Less k v e es rest h = refl
key_placed Equal k v e es rest h = refl
key_placed Greater k v e es rest h = ap (λ (r : List (List Pair)). e.0 ∷ r) h

pub keys_insert : {V : Type 0} (es : List (List Pair × V)) (k : List Pair) (v : V) → keys_of (insert_entry labels_cmp es k v) ≡ with_labels (keys_of es) k
keys_insert [] k v = refl
keys_insert (e ∷ es) k v = key_placed (labels_cmp k e.0) k v e es (insert_entry labels_cmp es k v) (keys_insert es k v)

-- a label set below each of a list is below one that is among them
pub below_some : (x k : List Pair) (xs : List (List Pair)) → AllByRecursion (λ y. labels_cmp x y ≡ Less) xs → list_any (is_at (labels_cmp k)) xs ≡ true → labels_cmp x k ≡ Less
below_some x k [] a h = cc
below_some x k (y ∷ ys) a h = by_test (is_at (labels_cmp k) y) refl h (below_some x k ys a.1) where
  by_test : (b : Bool) → is_at (labels_cmp k) y ≡ b → (b || list_any (is_at (labels_cmp k)) ys) ≡ true → (list_any (is_at (labels_cmp k)) ys ≡ true → labels_cmp x k ≡ Less) → labels_cmp x k ≡ Less
  by_test true e g more = subst (λ (z : List Pair). labels_cmp x z ≡ Less) (sym (tied k y (equal_of (labels_cmp k y) e))) a.0
  by_test false e g more = more g
