-- The least key that two elements have, and keys that no two have.
use Rattle.std.proofs.Common.{◌≡◌, ℕ, suc, ◌<◌, Bool, true, false, cond, ◌||◌, List, [], ◌∷◌, length, map, fold, filter, is_some, slice_get, Option, Some, None, refl, sym, ap, ◌∙◌, subst}
use Rattle.std.proofs.lemmas.Map.Entries.{hash_map_get_place}
use Rattle.std.proofs.lemmas.Map.Made.{is_some-lookup}
use Rattle.std.specs.List.{AllByRecursion, find}
use Rattle.std.specs.Map.{keys_of}
use Rattle.std.specs.Option.{IfSome, option_and_then, option_to_list}
use Rattle.std.specs.Ordering.{is_lt, ordering_reverse}
use Rattle.std.specs.declared.cmp.Ordering.{Ordering}
use Rattle.std.specs.declared.cmp.Ordering.TheVariants.{Less, Equal, Greater}
use Rattle.indexmap.specs.IndexMap.{IndexMap, get}
use Rattle.spec_vectors.specs.pr_num.declared.value.Num.{Num}
use Rattle.spec_vectors.specs.pr_labels.declared.pair.Pair.{Pair}
use Rattle.spec_vectors.specs.pr_labels.declared.item.Item.{Item}
use Rattle.spec_vectors.specs.pr_labels.declared.matching.Matching.{Matching}
use Rattle.spec_vectors.specs.pr_labels.Order.{labels_cmp, labels_eq}
use Rattle.spec_vectors.specs.pr_labels.Rising.{IsBelowFirstSet, IsRising, is_among, placed, with_labels}
use Rattle.spec_vectors.proofs.LabelsElements.{equal_turned}
use Rattle.spec_vectors.proofs.LabelsLabelOrder.{among_fold, below_next, labels_decide, labels_total, rising_fold, rising_with, same_rising, tied, turned}
use Rattle.spec_vectors.specs.Matching.{has_key, is_shared, key_of, key_set, least_shared}
use Rattle.pr_agg.specs.private.Chosen.{labels_equiv}
use Rattle.pr_join.specs.declared.places.KeyPlace.{KeyPlace}
use Rattle.pr_join.specs.private.Places.{IsIndexOf, IsOnlyAt, IsPlaceOf, IsTold, item_at, least_with, lesser}
use Rattle.pr_join.proofs.Placing.{found_passes, one_pair, only_place, some_within}

not_below : (a b : List Pair) → labels_cmp b a ≡ Less → is_lt (labels_cmp a b) ≡ false
not_below a b e = ap is_lt (labels_total.antisymm a b ∙ ap ordering_reverse e)

-- the first label set of those in order that passes a test is the least of all that pass it
module _ (test : List Pair → Bool) where
  abbrev least_key : Option (List Pair) → List Pair → Option (List Pair)
  least_key least key = cond (test key) (Some (lesser least key)) least

  lesser_below : (x : List Pair) (ks : List (List Pair)) → IsBelowFirstSet x ks → IsRising ks → lesser (find test ks) x ≡ x
  lesser_below x [] below r = refl
  lesser_below x (y ∷ ys) below r = by_test (test y) (lesser_below x ys (below_next x y ys below r.0) r.1) where
    by_test : (b : Bool) → lesser (find test ys) x ≡ x → lesser (cond b (Some y) (find test ys)) x ≡ x
    by_test true h = ap (λ (b : Bool). cond b y x) (not_below y x below)
    by_test false h = h

  find_with : (x : List Pair) (ks : List (List Pair)) → IsRising ks → find test (with_labels ks x) ≡ cond (test x) (Some (lesser (find test ks) x)) (find test ks)
  find_with x [] r = refl
  find_with x (y ∷ ys) r = by_order (labels_cmp x y) refl (find_with x ys r.1) where
    picks : (b : Bool) → x ≡ y → y ≡ cond b y x
    picks true same = refl
    picks false same = sym same

    by_same : (b : Bool) → test y ≡ b → x ≡ y → cond b (Some y) (find test ys) ≡ cond (test x) (Some (lesser (cond b (Some y) (find test ys)) x)) (cond b (Some y) (find test ys))
    by_same true e same =
        ap (λ (k : List Pair). Some k) (picks (is_lt (labels_cmp y x)) same)
        ∙ ap (λ (b : Bool). cond b (Some (cond (is_lt (labels_cmp y x)) y x)) (Some y)) (sym (ap test same ∙ e))
    by_same false e same = ap (λ (b : Bool). cond b (Some (lesser (find test ys) x)) (find test ys)) (sym (ap test same ∙ e))

    either : (b : Bool) (k : List Pair) → y ≡ k → Some y ≡ cond b (Some k) (Some y)
    either true k h = ap (λ (q : List Pair). Some q) h
    either false k h = refl

    by_above : (b : Bool) → labels_cmp x y ≡ Greater → find test (with_labels ys x) ≡ cond (test x) (Some (lesser (find test ys) x)) (find test ys)
        → cond b (Some y) (find test (with_labels ys x)) ≡ cond (test x) (Some (lesser (cond b (Some y) (find test ys)) x)) (cond b (Some y) (find test ys))
    by_above true e h = either (test x) (cond (is_lt (labels_cmp y x)) y x) (sym (ap (λ (o : Ordering). cond (is_lt o) y x) (turned x y e)))
    by_above false e h = h

    by_order : (o : Ordering) → labels_cmp x y ≡ o → find test (with_labels ys x) ≡ cond (test x) (Some (lesser (find test ys) x)) (find test ys)
        → find test (placed o x y ys (with_labels ys x)) ≡ cond (test x) (Some (lesser (find test (y ∷ ys)) x)) (find test (y ∷ ys))
    by_order Less e h = ap (λ (k : List Pair). cond (test x) (Some k) (find test (y ∷ ys))) (sym (lesser_below x (y ∷ ys) e r))
    by_order Equal e h = by_same (test y) refl (tied x y e)
    by_order Greater e h = by_above (test y) e h

  find_fold : (sets more : List (List Pair)) → IsRising sets → find test (fold with_labels sets more) ≡ fold least_key (find test sets) more
  find_fold sets [] r = refl
  find_fold sets (x ∷ more) r =
      find_fold (with_labels sets x) more (rising_with x sets r) ∙ ap (λ (o : Option (List Pair)). fold least_key o more) (find_with x sets r)

  -- where none is found, none of them passes
  none_tests : (k : List Pair) (ks : List (List Pair)) → find test ks ≡ None → is_among k ks ≡ true → test k ≡ false
  none_tests k [] f a = cc
  none_tests k (x ∷ xs) f a = by_tests (test x) (labels_eq k x) refl refl f a (none_tests k xs) where
    by_tests : (b c : Bool) → test x ≡ b → labels_eq k x ≡ c → cond b (Some x) (find test xs) ≡ None → (c || is_among k xs) ≡ true → (find test xs ≡ None → is_among k xs ≡ true → test k ≡ false) → test k ≡ false
    by_tests true c e g h i more = cc
    by_tests false true e g h i more = ap test ((labels_decide k x).0 g) ∙ e
    by_tests false false e g h i more = more h i

module _ (how : Matching) (side : List (Item Num)) where
  -- a key has a place exactly where an element has it
  some_found : (key : List Pair) (xs : List (Item Num)) → is_some (find (has_key how key) xs) ≡ is_among key (map (key_of how) xs)
  some_found key [] = refl
  some_found key (x ∷ xs) = by_test (has_key how key x) (labels_eq key (key_of how x)) (equal_turned (key_of how x) key) (some_found key xs) where
    by_test : (b c : Bool) → b ≡ c → is_some (find (has_key how key) xs) ≡ is_among key (map (key_of how) xs)
        → is_some (cond b (Some x) (find (has_key how key) xs)) ≡ (c || is_among key (map (key_of how) xs))
    by_test true true e h = refl
    by_test true false e h = cc
    by_test false true e h = cc
    by_test false false e h = h

  is_there : (o : Option KeyPlace) → IfSome o (λ p. p.index < length side) → is_some o ≡ is_some (option_and_then (item_at side) o)
  is_there None w = refl
  is_there (Some p) w = by_item (slice_get side p.index) refl where
    by_item : (x : Option (Item Num)) → slice_get side p.index ≡ x → true ≡ is_some x
    by_item None s = absurd (some_within side p.index w s)
    by_item (Some x) s = refl

  known_key : (key : List Pair) (o : Option KeyPlace) → IsPlaceOf how side side key o → is_some o ≡ is_among key (map (key_of how) side)
  known_key key o p = is_there o p.within ∙ ap (λ (x : Option (Item Num)). is_some x) p.first ∙ some_found key side

  -- the entries tell what is kept of their keys
  each_told : (es : List (List Pair × KeyPlace)) → ((i : ℕ) (e : List Pair × KeyPlace) → slice_get es i ≡ Some e → IsTold how side e) → AllByRecursion (IsTold how side) es
  each_told [] h = tt
  each_told (e ∷ es) h = (h 0 e refl, each_told es (λ i x s. h (suc i) x s))

  pub told_key : (e : List Pair × KeyPlace) (x : Item Num) → IsTold how side e → slice_get side e.1.index ≡ Some x → key_of how x ≡ e.0
  told_key e x t s = (labels_decide (key_of how x) e.0).0 (found_passes (has_key how e.0) side x (sym t.first ∙ s))

  by_keys : (es : List (List Pair × KeyPlace)) (o : Option (List Pair)) → AllByRecursion (IsTold how side) es → fold least_with o es ≡ fold (least_key (is_shared how side)) o (keys_of es)
  by_keys [] o h = refl
  by_keys (e ∷ es) o h =
      ap (λ (b : Bool). fold least_with (cond b (Some (lesser o e.0)) o) es) h.0.shared ∙ by_keys es (least_key (is_shared how side) o e.0) h.1

  module _ {S : Type 0} (m : IndexMap (List Pair) KeyPlace S) (h : IsIndexOf how side side m) where
    pub all_told : AllByRecursion (IsTold how side) m.entries
    all_told = each_told m.entries (λ i e s. subst (λ (o : Option KeyPlace). IsPlaceOf how side side e.0 o) (hash_map_get_place labels_equiv m i e.0 e.1 h.unique s) (h.at e.0))

    pub least_found : fold least_with None m.entries ≡ least_shared how side
    least_found =
        by_keys m.entries None all_told ∙ sym (find_fold (is_shared how side) [] (keys_of m.entries) tt)
        ∙ ap (find (is_shared how side)) (same_rising (fold with_labels [] (keys_of m.entries)) (key_set how side) (rising_fold [] (keys_of m.entries) tt) (rising_fold [] (map (key_of how) side) tt) among)
      where
        among : (one : List Pair) → is_among one (fold with_labels [] (keys_of m.entries)) ≡ is_among one (key_set how side)
        among one =
            among_fold one [] (keys_of m.entries) ∙ sym (is_some-lookup (labels_eq one) m.entries) ∙ known_key one (get labels_eq m one) (h.at one)
            ∙ sym (among_fold one [] (map (key_of how) side))

    -- where no key is shared, an element has at most one pair, and its key stands at one place
    module _ (none : least_shared how side ≡ None) (key : List Pair) where
      unshared : IfSome (get labels_eq m key) (λ p. p.shared ≡ false)
      unshared = by_place (get labels_eq m key) (h.at key) where
        by_place : (o : Option KeyPlace) → IsPlaceOf how side side key o → IfSome o (λ p. p.shared ≡ false)
        by_place None p = tt
        by_place (Some q) p = p.shared ∙ none_tests (is_shared how side) key (key_set how side) none (among_fold key [] (map (key_of how) side) ∙ sym (known_key key (Some q) p))

      pub place_found : (o : Option KeyPlace) → o ≡ get labels_eq m key → filter (has_key how key) side ≡ option_to_list (option_and_then (item_at side) o)
      place_found o e =
          one_pair how side m key h unshared
          ∙ ap (λ (x : Option (Item Num)). option_to_list x) (sym (h.at key).first ∙ ap (λ (p : Option KeyPlace). option_and_then (item_at side) p) (sym e))

      pub place_only : (p : KeyPlace) → Some p ≡ get labels_eq m key → IsOnlyAt how side key p.index
      place_only p e = only_place how side m key p h unshared (sym e)
