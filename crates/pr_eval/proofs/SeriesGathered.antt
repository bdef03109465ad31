-- The series of a subquery, gathered element by element.
use Rattle.std.proofs.Common.{◌≡◌, ℕ, zero, suc, ℤ, pos, ◌≤ℤ◌, Bool, true, false, cond, List, [], ◌∷◌, ◌++◌, map, filter, find, flat_map, fold, slice_get, Option, Some, None, Result, Ok, Err, OnOk, refl, sym, ap, ◌∙◌, subst, arith, append_assoc, append-nil}
use Rattle.std.specs.List.{cons_option, filter_map, AllByRecursion}
use Rattle.std.specs.Option.{option_map, option_to_list}
use Rattle.std.proofs.lemmas.Int.{ints}
use Rattle.std.proofs.lemmas.Grind.{flat_map-append}
use Rattle.std.proofs.lemmas.List.{map-append}
use Rattle.std.proofs.lemmas.List.Concat.{flat_map-cons}
use Rattle.std.proofs.lemmas.List.Elements.{filter-append}
use Rattle.std.proofs.lemmas.Map.Entries.{btree_map_get_place}
use Rattle.std.proofs.lemmas.Map.Keys.{sorted_head, sorted_tail}
use Rattle.std.specs.List.Sorted.{IsStrictlySortedBy}
use Rattle.std.specs.Map.{keys_of}
use Rattle.std.specs.declared.cmp.Ordering.TheVariants.{Less}
use Rattle.std.specs.BTreeMap.{BTreeMap, IsOrdered, get, is_at, keys, Updates}
use Rattle.pr_num.specs.declared.value.Num.{Num}
use Rattle.pr_labels.specs.declared.pair.Pair.{Pair}
use Rattle.pr_labels.specs.declared.item.Item.{Item}
use Rattle.pr_labels.specs.Order.{labels_cmp, labels_eq}
use Rattle.pr_labels.specs.Rising.{IsBelowFirstSet, IsRising}
use Rattle.pr_labels.proofs.LabelOrder.{labels_decide, labels_total}
use Rattle.pr_labels.proofs.LabelMaps.{tie, same_labels}
use Rattle.pr_range.specs.spec_history.declared.spot.Spot.{Spot}
use Rattle.pr_range.specs.spec_history.Lookback.{spot_of}
use Rattle.pr_range.specs.spec_vectors.private.Laws.{IsVector}
use Rattle.pr_range.specs.spec_vectors.Vectors.{element, in_label_order, label_sets}
use Rattle.spec_meaning.specs.Subqueries.{Taken, all_taken, series_taken, spot_taken}
use Rattle.pr_range.specs.private.Spots.{AreWithin}
use Rattle.pr_fn.specs.private.Gathered.{of_key, with_key}
use Rattle.pr_fn.proofs.Gathering.{gathered_more}
use Rattle.pr_fn.proofs.LabelKeys.{labels_key}
use Rattle.pr_eval.specs.private.Taken.{AreAllWithin, AreTaken, IsGathered, all_timed, entry_series, spot_labels, series_in, spots_listed, spots_with, taken, item_at, timed_in}
use Rattle.pr_eval.specs.private.Times.{AreTimesWithin}
use Rattle.pr_eval.proofs.AskedSeries.{rising_without}
use Rattle.pr_eval.proofs.ToldApart.{not_equal, skip}

-- one more element
spots_more : (es : List (Item Spot)) (x : Item Spot) → Some (spots_with (spots_listed es) x.value) ≡ spots_listed (es ++ x ∷ [])
spots_more [] x = refl
spots_more (e ∷ es) x = ap (λ (l : List Spot). Some l) (sym (map-append (λ (s : Item Spot). s.value) (e ∷ es) (x ∷ [])))

pub one_gathered : (front : List (Item Spot)) (x : Item Spot) (m n : BTreeMap (List Pair) (List Spot)) → keys n ≡ with_key labels_cmp (keys m) x.labels
    → Updates labels_cmp m n x.labels (Some (spots_with (get labels_cmp m x.labels) x.value)) → IsOrdered labels_cmp n → IsGathered front m → IsGathered (front ++ x ∷ []) n
one_gathered front x m n known u ordered h =
    gathered_more labels_cmp same_labels spot_labels spots_listed front x m n (spots_with (get labels_cmp m x.labels) x.value)
    (ap (λ (o : Option (List Spot)). Some (spots_with o x.value)) (h.at x.labels) ∙ spots_more (of_key labels_cmp spot_labels x.labels front) x)
    known u ordered h

-- one more time
pub timed_more : (ts : List Taken) (t : Taken) → all_timed (ts ++ t ∷ []) ≡ all_timed ts ++ timed_in t
timed_more ts t = flat_map-append timed_in ts (t ∷ []) ∙ ap (λ l. all_timed ts ++ l) (flat_map-cons timed_in t [] ∙ append-nil (timed_in t))

vectors_more : (ts : List Taken) (t : Taken) → ((i : ℕ) (u : Taken) → slice_get ts i ≡ Some u → IsVector u.items) → IsVector t.items → (i : ℕ) (u : Taken) → slice_get (ts ++ t ∷ []) i ≡ Some u → IsVector u.items
vectors_more [] t h k zero u at = let same : t ≡ u = cc in subst (λ (v : Taken). IsVector v.items) same k
vectors_more [] t h k (suc i) u at = cc
vectors_more (s ∷ ts) t h k zero u at = h 0 u at
vectors_more (s ∷ ts) t h k (suc i) u at = vectors_more ts t (λ j v e. h (suc j) v e) k i u at

pub taken_more : (ts : List Taken) (time : ℕ) (items : List (Item Num)) (m n : BTreeMap (List Pair) (List Spot)) → AreTaken ts m → IsVector items → IsGathered (all_timed ts ++ map (item_at time) items) n
    → AreTaken (ts ++ taken time items ∷ []) n
taken_more ts time items m n h vector gathered = record {
  gathered = subst (λ l. IsGathered l n) (sym (timed_more ts (taken time items))) gathered;
  vectors = vectors_more ts (taken time items) h.vectors vector;
}

timed_labels : (time : ℕ) (items : List (Item Num)) → map spot_labels (map (item_at time) items) ≡ label_sets items
timed_labels time [] = refl
timed_labels time (e ∷ items) = ap (λ l. e.labels ∷ l) (timed_labels time items)

all_labels : (ts : List Taken) → map spot_labels (all_timed ts) ≡ flat_map (λ (t : Taken). label_sets t.items) ts
all_labels [] = refl
all_labels (t ∷ ts) =
    ap (map spot_labels) (flat_map-cons timed_in t ts) ∙ map-append spot_labels (timed_in t) (all_timed ts)
    ∙ (λ i. timed_labels t.time t.items i ++ all_labels ts i)
    ∙ sym (flat_map-cons (λ (u : Taken). label_sets u.items) t ts)

keys_are : (ts : List Taken) (m : BTreeMap (List Pair) (List Spot)) → IsGathered (all_timed ts) m → in_label_order (flat_map (λ (t : Taken). label_sets t.items) ts) ≡ keys_of m.entries
keys_are ts m h =
    ap in_label_order (sym (all_labels ts)) ∙ (λ i. fold (λ known labels. labels_key known labels i) [] (map spot_labels (all_timed ts))) ∙ sym h.known

-- the values of a label set at one time
abbrev value_of : Item Spot → Spot
value_of s = s.value

abbrev found : ℕ → List Pair → List (Item Num) → Option Spot
found time q items = option_map (λ (e : Item Num). spot_of time e.value) (find (λ (e : Item Num). labels_eq e.labels q) items)

by_test : (q : List Pair) (front : List (Item Spot)) → of_key labels_cmp spot_labels q front ≡ filter (λ (e : Item Spot). labels_eq e.labels q) front
by_test q front = λ i. filter (λ (e : Item Spot). tie e.labels q i) front

none_of : (time : ℕ) (l : List Pair) (items : List (Item Num)) → IsRising (l ∷ label_sets items) → filter (λ (e : Item Spot). labels_eq e.labels l) (map (item_at time) items) ≡ []
none_of time l [] h = refl
none_of time l (e ∷ items) h =
    ap (λ b. cond b (item_at time e ∷ filter (λ (x : Item Spot). labels_eq x.labels l) (map (item_at time) items)) (filter (λ (x : Item Spot). labels_eq x.labels l) (map (item_at time) items))) (not_equal l e.labels h.0)
    ∙ none_of time l items (skip l e.labels (label_sets items) h)

one_time : (time : ℕ) (q : List Pair) (items : List (Item Num)) (rest : List Spot) → IsVector items
    → map value_of (filter (λ (e : Item Spot). labels_eq e.labels q) (map (item_at time) items)) ++ rest ≡ cons_option (found time q items) rest
one_time time q [] rest h = refl
one_time time q (e ∷ items) rest h = by (labels_eq e.labels q) refl (one_time time q items rest h.1) where
  by : (b : Bool) → labels_eq e.labels q ≡ b
      → map value_of (filter (λ (x : Item Spot). labels_eq x.labels q) (map (item_at time) items)) ++ rest ≡ cons_option (found time q items) rest
      → map value_of (cond b (item_at time e ∷ filter (λ (x : Item Spot). labels_eq x.labels q) (map (item_at time) items)) (filter (λ (x : Item Spot). labels_eq x.labels q) (map (item_at time) items))) ++ rest
      ≡ cons_option (option_map (λ (x : Item Num). spot_of time x.value) (cond b (Some e) (find (λ (x : Item Num). labels_eq x.labels q) items))) rest
  by true here more =
      let same : e.labels ≡ q = (labels_decide e.labels q).0 here in
      let none : filter (λ (x : Item Spot). labels_eq x.labels q) (map (item_at time) items) ≡ [] = none_of time q items (subst (λ l. IsRising (l ∷ label_sets items)) same h) in
      ap (λ l. map value_of (item_at time e ∷ l) ++ rest) none
  by false apart more = more

-- the values of a label set at all times
all_times : (q : List Pair) (ts : List Taken) → ((i : ℕ) (t : Taken) → slice_get ts i ≡ Some t → IsVector t.items)
    → map value_of (of_key labels_cmp spot_labels q (all_timed ts)) ≡ filter_map (spot_taken q) ts
all_times q [] h = refl
all_times q (t ∷ ts) h =
    ap (λ l. map value_of (of_key labels_cmp spot_labels q l)) (flat_map-cons timed_in t ts)
    ∙ ap (map value_of) (filter-append (λ (x : Item Spot). is_at (labels_cmp (spot_labels x)) q) (timed_in t) (all_timed ts))
    ∙ map-append value_of (of_key labels_cmp spot_labels q (timed_in t)) (of_key labels_cmp spot_labels q (all_timed ts))
    ∙ (λ i. map value_of (by_test q (timed_in t) i) ++ all_times q ts (λ j u e. h (suc j) u e) i)
    ∙ one_time t.time q t.items (filter_map (spot_taken q) ts) (h 0 t refl)

listed_are : (es : List (Item Spot)) (spots : List Spot) → spots_listed es ≡ Some spots → map value_of es ≡ spots
listed_are [] spots h = cc
listed_are (e ∷ es) spots h = cc

series_are : (ts : List Taken) (es : List (List Pair × List Spot)) → ((i : ℕ) (e : List Pair × List Spot) → slice_get es i ≡ Some e → filter_map (spot_taken e.0) ts ≡ e.1)
    → map (series_taken ts) (keys_of es) ≡ map entry_series es
series_are ts [] h = refl
series_are ts (e ∷ es) h = λ j. record { labels = e.0; value = h 0 e refl j } ∷ series_are ts es (λ i x s. h (suc i) x s) j

pub series_taken_are : (ts : List Taken) (m : BTreeMap (List Pair) (List Spot)) → AreTaken ts m → series_in m ≡ all_taken ts
series_taken_are ts m h =
    sym (ap (map (series_taken ts)) (keys_are ts m h.gathered)
    ∙ series_are ts m.entries (λ i e s. sym (all_times e.0 ts h.vectors)
    ∙ listed_are (of_key labels_cmp spot_labels e.0 (all_timed ts)) e.1 (sym (h.gathered.at e.0) ∙ btree_map_get_place labels_total m i e.0 e.1 h.gathered.ordered s)))

-- the values of a series rise and lie in the range
lower : (from later to : ℤ) (spots : List Spot) → from ≤ℤ later → AreWithin later to spots → AreWithin from to spots
lower from later to [] h k = tt
lower from later to (s ∷ spots) h k = let low = k.0 in (omega (arith, ints), k.1, k.2)

spots_within : (from to : ℤ) (q : List Pair) (ts : List Taken) → AreTimesWithin from to (map (λ (t : Taken). t.time) ts) → AreWithin from to (filter_map (spot_taken q) ts)
spots_within from to q [] h = tt
spots_within from to q (t ∷ ts) h = by (find (λ (e : Item Num). labels_eq e.labels q) t.items) (spots_within (pos t.time) to q ts h.2) where
  by : (o : Option (Item Num)) → AreWithin (pos t.time) to (filter_map (spot_taken q) ts) → AreWithin from to (cons_option (option_map (λ (e : Item Num). spot_of t.time e.value) o) (filter_map (spot_taken q) ts))
  by (Some e) more = (h.0, h.1, more)
  by None more = let low = h.0 in lower from (pos t.time) to (filter_map (spot_taken q) ts) (omega (arith, ints)) more

all_within : (from to : ℤ) (ts : List Taken) (sets : List (List Pair)) → AreTimesWithin from to (map (λ (t : Taken). t.time) ts) → AreAllWithin from to (map (series_taken ts) sets)
all_within from to ts [] h = tt
all_within from to ts (q ∷ sets) h = (spots_within from to q ts h, all_within from to ts sets h)

pub taken_within : (from to : ℤ) (ts : List Taken) (m : BTreeMap (List Pair) (List Spot)) → AreTaken ts m → AreTimesWithin from to (map (λ (t : Taken). t.time) ts) → AreAllWithin from to (series_in m)
taken_within from to ts m h k =
    subst (AreAllWithin from to) (sym (series_taken_are ts m h)) (all_within from to ts (in_label_order (flat_map (λ (t : Taken). label_sets t.items) ts)) k)

pub one_added : {E : Type 0} (front : List (Item Spot)) (x : Item Spot) (m n : BTreeMap (List Pair) (List Spot)) (r : Result (Unit {0}) E) → OnOk r (keys n ≡ with_key labels_cmp (keys m) x.labels)
    → OnOk r (Updates labels_cmp m n x.labels (Some (spots_with (get labels_cmp m x.labels) x.value))) → OnOk r (IsOrdered labels_cmp n) → IsGathered front m → OnOk r (IsGathered (front ++ x ∷ []) n)
one_added front x m n (Ok u) known updates ordered h = one_gathered front x m n known updates ordered h
one_added front x m n (Err e) known updates ordered h = tt

entries_vector : (es : List (List Pair × List Spot)) → IsStrictlySortedBy labels_cmp (keys_of es) → IsRising (map (λ (s : Item (List Spot)). s.labels) (map entry_series es))
entries_vector [] h = tt
entries_vector (e ∷ es) h = (first_below e.0 es (sorted_head labels_cmp e.0 (keys_of es) h), entries_vector es (sorted_tail labels_cmp e.0 (keys_of es) h)) where
  first_below : (labels : List Pair) (entries : List (List Pair × List Spot)) → AllByRecursion (λ q. labels_cmp labels q ≡ Less) (keys_of entries)
      → IsBelowFirstSet labels (map (λ (s : Item (List Spot)). s.labels) (map entry_series entries))
  first_below labels [] a = tt
  first_below labels (x ∷ xs) a = a.0

pub series_rise : (m : BTreeMap (List Pair) (List Spot)) → IsOrdered labels_cmp m → IsRising (map (λ (s : Item (List Spot)). s.labels) (series_in m))
series_rise m h = entries_vector m.entries h

-- the answer of one more series keeps the order
pub element_rises : (done : List (Item Num)) (labels : List Pair) (given : Option Num) (rest : List (List Pair)) → IsRising (label_sets done ++ labels ∷ rest)
    → IsRising (label_sets (done ++ map (element labels) (option_to_list given)) ++ rest)
element_rises done labels None rest h = subst (λ l. IsRising (label_sets l ++ rest)) (sym (append-nil done)) (rising_without (label_sets done) labels rest h)
element_rises done labels (Some v) rest h =
    subst IsRising
    (sym (ap (λ l. l ++ rest) (map-append (λ (e : Item Num). e.labels) done (element labels v ∷ [])) ∙ append_assoc (label_sets done) (labels ∷ []) rest)) h
