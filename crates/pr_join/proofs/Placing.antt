-- One more element among the places.
use Rattle.std.proofs.Common.{◌≡◌, ℕ, zero, suc, ◌+◌, ◌<◌, ◌≤◌, Bool, true, false, cond, List, [], ◌∷◌, ◌++◌, length, filter, Option, Some, None, refl, sym, ap, ◌∙◌, subst, arith}
use Rattle.std.proofs.lemmas.List.Folds.{find-append}
use Rattle.std.proofs.lemmas.List.Sums.{sum_by-append}
use Rattle.std.proofs.lemmas.Bool.{eqb-true, eq-eqb}
use Rattle.std.proofs.lemmas.Bool.Decides.{nat_tests}
use Rattle.std.specs.Bool.{nat_eq, nat_lt}
use Rattle.std.specs.List.{find, count_by, slice_get}
use Rattle.std.specs.Option.{option_or, option_to_list, IfSome}
use Rattle.indexmap.specs.IndexMap.{IndexMap, IsUnique, Updates, get}
use Rattle.spec_vectors.specs.pr_num.declared.value.Num.{Num}
use Rattle.spec_vectors.specs.pr_labels.declared.pair.Pair.{Pair}
use Rattle.spec_vectors.specs.pr_labels.declared.item.Item.{Item}
use Rattle.spec_vectors.specs.pr_labels.declared.matching.Matching.{Matching}
use Rattle.spec_vectors.specs.pr_labels.Order.{labels_eq}
use Rattle.spec_vectors.proofs.LabelsLabelOrder.{labels_decide}
use Rattle.spec_vectors.specs.Matching.{has_key, is_shared, key_of}
use Rattle.pr_join.specs.declared.places.KeyPlace.{KeyPlace}
use Rattle.pr_join.specs.private.Places.{IsPlaceOf, IsIndexOf, IsOnlyAt, IsPlaced, place_with}

-- what was counted and found, with one more
count_more : (p : Item Num → Bool) (front : List (Item Num)) (x : Item Num) → count_by p (front ++ x ∷ []) ≡ count_by p front + cond (p x) 1 0
count_more p front x = omega (arith, sum_by-append (λ (y : Item Num). cond (p y) 1 0) front (x ∷ []))

pub count_cons : (p : Item Num → Bool) (x : Item Num) (xs : List (Item Num)) → count_by p (x ∷ xs) ≡ cond (p x) 1 0 + count_by p xs
count_cons p x xs = omega (arith, sum_by-append (λ (y : Item Num). cond (p y) 1 0) (x ∷ []) xs)

none_counted : (p : Item Num → Bool) (xs : List (Item Num)) → find p xs ≡ None → count_by p xs ≡ 0
none_counted p [] h = refl
none_counted p (x ∷ xs) h = count_cons p x xs ∙ by_test (p x) h (none_counted p xs) where
  by_test : (b : Bool) → cond b (Some x) (find p xs) ≡ None → (find p xs ≡ None → count_by p xs ≡ 0) → cond b 1 0 + count_by p xs ≡ 0
  by_test true h k = cc
  by_test false h k = omega (arith, k h)

some_counted : (p : Item Num → Bool) (xs : List (Item Num)) (y : Item Num) → find p xs ≡ Some y → 1 ≤ count_by p xs
some_counted p [] y h = cc
some_counted p (x ∷ xs) y h = subst (λ (n : ℕ). 1 ≤ n) (sym (count_cons p x xs)) (by_test (p x) h (some_counted p xs y)) where
  by_test : (b : Bool) → cond b (Some x) (find p xs) ≡ Some y → (find p xs ≡ Some y → 1 ≤ count_by p xs) → 1 ≤ cond b 1 0 + count_by p xs
  by_test true h k = omega arith
  by_test false h k = omega (arith, k h)

or_same : (o : Option (Item Num)) (y : Item Num) (w : Option (Item Num)) → o ≡ Some y → option_or o w ≡ o
or_same None y w h = cc
or_same (Some x) y w h = refl

or_none : (o : Option (Item Num)) → option_or o None ≡ o
or_none None = refl
or_none (Some x) = refl

lt_one : (n k : ℕ) → n ≡ 0 → k ≡ 1 → false ≡ nat_lt 1 (n + k)
lt_one n k h e = grind (arith, nat_tests)

lt_more : (n k : ℕ) → 1 ≤ n → k ≡ 1 → true ≡ nat_lt 1 (n + k)
lt_more n k h e = grind (arith, nat_tests)

same : (x y : Item Num) → Some x ≡ Some y → x ≡ y
same x y h = cc

pub some_within : (xs : List (Item Num)) (i : ℕ) → i < length xs → slice_get xs i ≡ None → ⊥
some_within [] i w e = omega arith
some_within (x ∷ xs) zero w e = cc
some_within (x ∷ xs) (suc i) w e = some_within xs i (omega arith) e

-- an element with another key
place_same : (how : Matching) (side front : List (Item Num)) (x : Item Num) (q : List Pair) (o : Option KeyPlace) → has_key how q x ≡ false
    → IsPlaceOf how side front q o → IsPlaceOf how side (front ++ x ∷ []) q o
place_same how side front x q o absent h = record {
  first = h.first ∙ sym (find-append (has_key how q) front (x ∷ []) ∙ ap (λ (b : Bool). option_or (find (has_key how q) front) (cond b (Some x) None)) absent ∙ or_none (find (has_key how q) front));
  within = h.within;
  shared = shared_same o h.shared;
} where
  count : count_by (has_key how q) (front ++ x ∷ []) ≡ count_by (has_key how q) front
  count = count_more (has_key how q) front x ∙ ap (λ (b : Bool). count_by (has_key how q) front + cond b 1 0) absent ∙ omega arith

  shared_same : (o : Option KeyPlace) → IfSome o (λ p. p.shared ≡ is_shared how front q) → IfSome o (λ p. p.shared ≡ is_shared how (front ++ x ∷ []) q)
  shared_same None k = tt
  shared_same (Some p) k = k ∙ ap (λ (n : ℕ). nat_lt 1 n) (sym count)

-- and one with this key
place_more : (how : Matching) (side front : List (Item Num)) (x : Item Num) (q : List Pair) (o : Option KeyPlace) (i : ℕ) → has_key how q x ≡ true → slice_get side i ≡ Some x → i < length side
    → IsPlaceOf how side front q o → IsPlaceOf how side (front ++ x ∷ []) q (Some (place_with o i))
place_more how side front x q None i present at within h = record {
  first = at ∙ sym (find-append (has_key how q) front (x ∷ []) ∙ (λ j. option_or (sym h.first j) (cond (present j) (Some x) None)));
  within = within;
  shared = lt_one (count_by (has_key how q) front) (cond (has_key how q x) 1 0) (none_counted (has_key how q) front (sym h.first)) (ap (λ (b : Bool). cond b 1 0) present) ∙ ap (λ (n : ℕ). nat_lt 1 n) (sym (count_more (has_key how q) front x));
}
place_more how side front x q (Some p) i present at within h = by_item (slice_get side p.index) refl where
  by_item : (o : Option (Item Num)) → slice_get side p.index ≡ o → IsPlaceOf how side (front ++ x ∷ []) q (Some (record { index = p.index; shared = true }))
  by_item None e = absurd (some_within side p.index h.within e)
  by_item (Some y) e = record {
    first = h.first ∙ sym (find-append (has_key how q) front (x ∷ []) ∙ or_same (find (has_key how q) front) y (find (has_key how q) (x ∷ [])) (sym h.first ∙ e));
    within = h.within;
    shared = lt_more (count_by (has_key how q) front) (cond (has_key how q x) 1 0) (some_counted (has_key how q) front y (sym h.first ∙ e)) (ap (λ (b : Bool). cond b 1 0) present) ∙ ap (λ (n : ℕ). nat_lt 1 n) (sym (count_more (has_key how q) front x));
  }

pub index_more : {S : Type 0} (how : Matching) (side front : List (Item Num)) (x : Item Num) (i : ℕ) (m n : IndexMap (List Pair) KeyPlace S) → slice_get side i ≡ Some x → i < length side
    → IsPlaced how x i m n → IsIndexOf how side front m → IsIndexOf how side (front ++ x ∷ []) n
index_more how side front x i m n at within placed h = record {
  unique = placed.unique;
  at = λ q. by_key q (has_key how q x) refl;
} where
  by_key : (q : List Pair) (b : Bool) → has_key how q x ≡ b → IsPlaceOf how side (front ++ x ∷ []) q (get labels_eq n q)
  by_key q true present =
      let new : get labels_eq n q ≡ Some (place_with (get labels_eq m q) i) = placed.at q ∙ ap (λ (b : Bool). cond b (Some (place_with (get labels_eq m q) i)) (get labels_eq m q)) present in
      subst (λ (o : Option KeyPlace). IsPlaceOf how side (front ++ x ∷ []) q o) (sym new) (place_more how side front x q (get labels_eq m q) i present at within (h.at q))
  by_key q false absent =
      let new : get labels_eq n q ≡ get labels_eq m q = placed.at q ∙ ap (λ (b : Bool). cond b (Some (place_with (get labels_eq m q) i)) (get labels_eq m q)) absent in
      subst (λ (o : Option KeyPlace). IsPlaceOf how side (front ++ x ∷ []) q o) (sym new) (place_same how side front x q (get labels_eq m q) absent (h.at q))

-- one more element is put in by its key
twice : (b : Bool) (v w o : Option KeyPlace) → cond b w (cond b v o) ≡ cond b w o
twice true v w o = refl
twice false v w o = refl

module _ {S : Type 0} (how : Matching) (x : Item Num) (i : ℕ) (m : IndexMap (List Pair) KeyPlace S) where
  at_key : (n : IndexMap (List Pair) KeyPlace S) (key : List Pair) (v : KeyPlace) → key ≡ key_of how x → v ≡ place_with (get labels_eq m key) i
      → ((q : List Pair) → get labels_eq n q ≡ cond (labels_eq key q) (Some v) (get labels_eq m q))
      → (q : List Pair) → get labels_eq n q ≡ cond (has_key how q x) (Some (place_with (get labels_eq m q) i)) (get labels_eq m q)
  at_key n key v is value u q =
      u q ∙ by_test (labels_eq key q) refl
      ∙ ap (λ (k : List Pair). cond (labels_eq k q) (Some (place_with (get labels_eq m q) i)) (get labels_eq m q)) is
    where
      by_test : (b : Bool) → labels_eq key q ≡ b → cond b (Some v) (get labels_eq m q) ≡ cond b (Some (place_with (get labels_eq m q) i)) (get labels_eq m q)
      by_test true h = ap (λ (p : KeyPlace). Some p) (value ∙ ap (λ (k : List Pair). place_with (get labels_eq m k) i) ((labels_decide key q).0 h))
      by_test false h = refl

  pub placed_alone : (n : IndexMap (List Pair) KeyPlace S) (key : List Pair) → key ≡ key_of how x → None ≡ get labels_eq m key
      → Updates labels_eq m n key (Some (record { index = i; shared = false })) → IsUnique labels_eq n → IsPlaced how x i m n
  placed_alone n key is none u unique = record {
    unique = unique;
    at = at_key n key (record { index = i; shared = false }) is (ap (λ (o : Option KeyPlace). place_with o i) none) u.0;
  }

  pub placed_again : (n o : IndexMap (List Pair) KeyPlace S) (key same : List Pair) (first : KeyPlace) → key ≡ key_of how x → same ≡ key_of how x → Some first ≡ get labels_eq m key
      → Updates labels_eq m n key (Some (record { index = i; shared = false }))
      → Updates labels_eq n o same (Some (record { index = first.index; shared = true })) → IsUnique labels_eq o
      → IsPlaced how x i m o
  placed_again n o key same first is also some u v unique =
      let both : KeyPlace = record { index = first.index; shared = true } in
      let alone : KeyPlace = record { index = i; shared = false } in
      record {
        unique = unique;
        at = at_key o key both is (ap (λ (p : Option KeyPlace). place_with p i) some)
            (λ q. v.0 q ∙ (λ j. cond (labels_eq ((also ∙ sym is) j) q) (Some both) (u.0 q j)) ∙ twice (labels_eq key q) (Some alone) (Some both) (get labels_eq m q));
      }

-- where no key is shared, an element has at most one pair
none_passes : (p : Item Num → Bool) (xs : List (Item Num)) → count_by p xs ≡ 0 → filter p xs ≡ []
none_passes p [] h = refl
none_passes p (x ∷ xs) h = by_test (p x) (sym (count_cons p x xs) ∙ h) (none_passes p xs) where
  by_test : (b : Bool) → cond b 1 0 + count_by p xs ≡ 0 → (count_by p xs ≡ 0 → filter p xs ≡ []) → cond b (x ∷ filter p xs) (filter p xs) ≡ []
  by_test true h k = absurd (omega arith)
  by_test false h k = k (omega arith)

at_most_one : (p : Item Num → Bool) (xs : List (Item Num)) → count_by p xs ≤ 1 → filter p xs ≡ option_to_list (find p xs)
at_most_one p [] h = refl
at_most_one p (x ∷ xs) h = by_test (p x) (subst (λ (n : ℕ). n ≤ 1) (count_cons p x xs) h) (at_most_one p xs) where
  by_test : (b : Bool) → cond b 1 0 + count_by p xs ≤ 1 → (count_by p xs ≤ 1 → filter p xs ≡ option_to_list (find p xs)) → cond b (x ∷ filter p xs) (filter p xs) ≡ option_to_list (cond b (Some x) (find p xs))
  by_test true h k = ap (λ (ys : List (Item Num)). x ∷ ys) (none_passes p xs (omega arith))
  by_test false h k = k (omega arith)

not_more : (n : ℕ) → nat_lt 1 n ≡ false → n ≤ 1
not_more n h = grind (arith, nat_tests)

pub one_pair : {S : Type 0} (how : Matching) (side : List (Item Num)) (m : IndexMap (List Pair) KeyPlace S) (k : List Pair) → IsIndexOf how side side m → IfSome (get labels_eq m k) (λ p. p.shared ≡ false)
    → filter (has_key how k) side ≡ option_to_list (find (has_key how k) side)
one_pair how side m k h clear = by_place (get labels_eq m k) (h.at k) clear where
  by_place : (o : Option KeyPlace) → IsPlaceOf how side side k o → IfSome o (λ p. p.shared ≡ false) → filter (has_key how k) side ≡ option_to_list (find (has_key how k) side)
  by_place None p c = at_most_one (has_key how k) side (omega (arith, none_counted (has_key how k) side (sym p.first)))
  by_place (Some q) p c = at_most_one (has_key how k) side (not_more (count_by (has_key how k) side) (sym p.shared ∙ c))

-- and where it has one, its key stands at one place
none_at : (p : Item Num → Bool) (xs : List (Item Num)) → count_by p xs ≡ 0 → (i : ℕ) (x : Item Num) → slice_get xs i ≡ Some x → p x ≡ false
none_at p [] h i x s = cc
none_at p (y ∷ xs) h i x s = by_test (p y) refl (sym (count_cons p y xs) ∙ h) (none_at p xs) i s where
  by_test : (b : Bool) → p y ≡ b → cond b 1 0 + count_by p xs ≡ 0 → (count_by p xs ≡ 0 → (j : ℕ) (z : Item Num) → slice_get xs j ≡ Some z → p z ≡ false)
      → (j : ℕ) → slice_get (y ∷ xs) j ≡ Some x → p x ≡ false
  by_test true e k more j t = absurd (omega (arith, k))
  by_test false e k more zero t = subst (λ (z : Item Num). p z ≡ false) (same y x t) e
  by_test false e k more (suc j) t = more (omega (arith, k)) j x t

none_behind : (p : Item Num → Bool) (z : Item Num) (xs : List (Item Num)) (i : ℕ) (x : Item Num) → count_by p (z ∷ xs) ≤ 1 → p z ≡ true → slice_get xs i ≡ Some x → p x ≡ false
none_behind p z xs i x h e s =
    let here : ◌≡◌ {A = ℕ} (cond (p z) 1 0) 1 = ap (λ (b : Bool). cond b 1 0) e in
    none_at p xs (omega (arith, here, subst (λ (n : ℕ). n ≤ 1) (count_cons p z xs) h)) i x s

one_at : (p : Item Num → Bool) (xs : List (Item Num)) (i j : ℕ) (x y : Item Num) → count_by p xs ≤ 1 → slice_get xs i ≡ Some x → p x ≡ true → slice_get xs j ≡ Some y → p y ≡ true → j ≡ i
one_at p [] i j x y h s e t f = cc
one_at p (z ∷ xs) zero zero x y h s e t f = refl
one_at p (z ∷ xs) zero (suc j) x y h s e t f = absurd (other (none_behind p z xs j y h (subst (λ (w : Item Num). p w ≡ true) (sym (same z x s)) e) t)) where
  other : p y ≡ false → ⊥
  other g = cc
one_at p (z ∷ xs) (suc i) zero x y h s e t f = absurd (other (none_behind p z xs i x h (subst (λ (w : Item Num). p w ≡ true) (sym (same z y t)) f) s)) where
  other : p x ≡ false → ⊥
  other g = cc
one_at p (z ∷ xs) (suc i) (suc j) x y h s e t f =
    ap (λ (k : ℕ). suc k) (one_at p xs i j x y (omega (arith, subst (λ (n : ℕ). n ≤ 1) (count_cons p z xs) h)) s e t f)

pub found_passes : (p : Item Num → Bool) (xs : List (Item Num)) (x : Item Num) → find p xs ≡ Some x → p x ≡ true
found_passes p [] x h = cc
found_passes p (y ∷ ys) x h = by_test (p y) refl h (found_passes p ys x) where
  by_test : (b : Bool) → p y ≡ b → cond b (Some y) (find p ys) ≡ Some x → (find p ys ≡ Some x → p x ≡ true) → p x ≡ true
  by_test true e k more = subst (λ (z : Item Num). p z ≡ true) (same y x k) e
  by_test false e k more = more k

pub only_place : {S : Type 0} (how : Matching) (side : List (Item Num)) (m : IndexMap (List Pair) KeyPlace S) (k : List Pair) (p : KeyPlace) → IsIndexOf how side side m → IfSome (get labels_eq m k) (λ q. q.shared ≡ false)
    → get labels_eq m k ≡ Some p → IsOnlyAt how side k p.index
only_place how side m k p h clear e = by_item (slice_get side p.index) refl where
  at : IsPlaceOf how side side k (Some p)
  at = subst (λ (o : Option KeyPlace). IsPlaceOf how side side k o) e (h.at k)

  alone : p.shared ≡ false
  alone = subst (λ (o : Option KeyPlace). IfSome o (λ q. q.shared ≡ false)) e clear

  few : count_by (has_key how k) side ≤ 1
  few = not_more (count_by (has_key how k) side) (sym at.shared ∙ alone)

  by_item : (o : Option (Item Num)) → slice_get side p.index ≡ o → IsOnlyAt how side k p.index
  by_item None s = absurd (some_within side p.index at.within s)
  by_item (Some x) s = record {
    within = at.within;
    only = λ i y t. by_tests i y t (has_key how k y) (nat_eq i p.index) refl refl;
  } where
    has : has_key how k x ≡ true
    has = found_passes (has_key how k) side x (sym at.first ∙ s)

    by_tests : (i : ℕ) (y : Item Num) → slice_get side i ≡ Some y → (b c : Bool) → has_key how k y ≡ b → nat_eq i p.index ≡ c → b ≡ c
    by_tests i y t true true f g = refl
    by_tests i y t false false f g = refl
    by_tests i y t true false f g =
        let here : nat_eq i p.index ≡ true = eq-eqb i p.index (one_at (has_key how k) side p.index i x y few s has t f) in
        cc
    by_tests i y t false true f g =
        let one : x ≡ y = same x y (sym s ∙ ap (λ (j : ℕ). slice_get side j) (sym (eqb-true i p.index g)) ∙ t) in
        let own : has_key how k y ≡ true = subst (λ (z : Item Num). has_key how k z ≡ true) one has in
        cc
