-- What aggregations give has the groups as its labels; no part is empty; one that always has a
-- value has no fault.
use Rattle.std.proofs.Common.{◌≡◌, ◌≢◌, ℕ, Bool, true, false, cond, ◌||◌, List, [], ◌∷◌, map, Result, Ok, Err, IfOk, IsOk, refl, sym, ap, ◌∙◌, subst}
use Rattle.pr_num.specs.declared.value.Num.{Num}
use Rattle.pr_num.specs.declared.value.TooWide.{TooWide}
use Rattle.spec_history.specs.pr_labels.declared.pair.Pair.{Pair}
use Rattle.spec_history.specs.pr_labels.declared.item.Item.{Item}
use Rattle.spec_history.specs.pr_labels.declared.grouping.Grouping.{Grouping}
use Rattle.spec_history.specs.pr_labels.Order.{labels_eq}
use Rattle.spec_history.specs.pr_labels.Rising.{IsRising, is_among}
use Rattle.spec_history.proofs.LabelsLabelOrder.{among_fold, labels_decide, rising_fold}
use Rattle.spec_vectors.specs.private.Laws.{IsVector}
use Rattle.spec_vectors.specs.Vectors.{element, in_label_order, label_sets}
use Rattle.spec_vectors.specs.Aggregation.{of_groups, always, group_answers, behind, counted, group_of, groups, part, value_count, value_group, values_of}

either : (a b : Bool) → b ≡ true → (a || b) ≡ true
either true b h = refl
either false b h = h

itself : (k : List Pair) (ks : List (List Pair)) → is_among k (k ∷ ks) ≡ true
itself k ks = ap (λ (b : Bool). b || is_among k ks) ((labels_decide k k).1 refl)

answers_alike : (g h : List Pair → Result Num TooWide) (ks : List (List Pair)) → ((k : List Pair) → is_among k ks ≡ true → g k ≡ h k) → group_answers g ks ≡ group_answers h ks
answers_alike g h [] e = refl
answers_alike g h (k ∷ ks) e = λ j. behind k (e k (itself k ks) j) (answers_alike g h ks (λ q m. e q (either (labels_eq q k) (is_among q ks) m)) j)

-- the elements that are grouped by these labels
not_empty : (by : Grouping) (k : List Pair) (vector : List (Item Num)) → is_among k (map (group_of by) vector) ≡ true → values_of (part by vector k) ≡ [] → ⊥
not_empty by k [] m e = cc
not_empty by k (x ∷ xs) m e = by_tests (labels_eq (group_of by x) k) (labels_eq k (group_of by x)) refl refl m e (not_empty by k xs) where
  by_tests : (a b : Bool) → labels_eq (group_of by x) k ≡ a → labels_eq k (group_of by x) ≡ b → (b || is_among k (map (group_of by) xs)) ≡ true → values_of (cond a (x ∷ part by xs k) (part by xs k)) ≡ []
      → (is_among k (map (group_of by) xs) ≡ true → values_of (part by xs k) ≡ [] → ⊥) → ⊥
  by_tests true b p q m e more = cc
  by_tests false true p q m e more = let same : labels_eq (group_of by x) k ≡ true = (labels_decide (group_of by x) k).1 (sym ((labels_decide k (group_of by x)).0 q)) in cc
  by_tests false false p q m e more = more m e

module _ (g h : List Num → Result Num TooWide) (agree : (x : Num) (xs : List Num) → g (x ∷ xs) ≡ h (x ∷ xs)) where
  on_values : (xs : List Num) → (xs ≡ [] → ⊥) → g xs ≡ h xs
  on_values [] some = absurd (some refl)
  on_values (x ∷ xs) some = agree x xs

  -- aggregations agree which agree on values that there are
  pub aggregated_alike : (by : Grouping) (vector : List (Item Num)) → of_groups g by vector ≡ of_groups h by vector
  aggregated_alike by vector =
      answers_alike (λ k. g (values_of (part by vector k))) (λ k. h (values_of (part by vector k))) (groups by vector)
      (λ k m. on_values (values_of (part by vector k)) (not_empty by k vector (sym (among_fold k [] (map (group_of by) vector)) ∙ m)))

pub parts_not_empty : (by : Grouping) (k : List Pair) (vector : List (Item Num)) → is_among k (groups by vector) ≡ true → values_of (part by vector k) ≢ []
parts_not_empty by k vector m = not_empty by k vector (sym (among_fold k [] (map (group_of by) vector)) ∙ m)

-- the labels of what is answered
labels_behind : (k : List Pair) (answer : Result Num TooWide) (ks : List (List Pair)) (rest : Result (List (Item Num)) TooWide)
    → IfOk rest (λ items. label_sets items ≡ ks) → IfOk (behind k answer rest) (λ items. label_sets items ≡ k ∷ ks)
labels_behind k (Ok v) ks (Ok items) h = ap (λ (sets : List (List Pair)). k ∷ sets) h
labels_behind k (Ok v) ks (Err e) h = tt
labels_behind k (Err e) ks rest h = tt

labels_answered : (answer : List Pair → Result Num TooWide) (ks : List (List Pair)) → IfOk (group_answers answer ks) (λ items. label_sets items ≡ ks)
labels_answered answer [] = refl
labels_answered answer (k ∷ ks) = labels_behind k (answer k) ks (group_answers answer ks) (labels_answered answer ks)

rising_labels : (sets : List (List Pair)) → IsRising (in_label_order sets)
rising_labels sets = rising_fold [] sets tt

still_rising : (ks : List (List Pair)) (answer : Result (List (Item Num)) TooWide) → IsRising ks → IfOk answer (λ items. label_sets items ≡ ks) → IfOk answer IsVector
still_rising ks (Ok items) r h = subst (λ (sets : List (List Pair)). IsRising sets) (sym h) r
still_rising ks (Err e) r h = tt

pub aggregated_is_vector : (of_values : List Num → Result Num TooWide) (by : Grouping) (vector : List (Item Num)) → IfOk (of_groups of_values by vector) IsVector
aggregated_is_vector of_values by vector =
    still_rising (groups by vector) (of_groups of_values by vector) (rising_labels (map (group_of by) vector))
    (labels_answered (λ k. of_values (values_of (part by vector k))) (groups by vector))

labels_made : (value : List Pair → Num) (ks : List (List Pair)) → label_sets (map (λ k. element k (value k)) ks) ≡ ks
labels_made value [] = refl
labels_made value (k ∷ ks) = ap (λ (sets : List (List Pair)). k ∷ sets) (labels_made value ks)

pub counted_is_vector : (label : List ℕ) (by : Grouping) (vector : List (Item Num)) → IsVector (counted label by vector)
counted_is_vector label by vector =
    subst (λ (sets : List (List Pair)). IsRising sets) (sym (labels_made (value_count label by vector) (in_label_order (map (value_group label by) vector))))
    (rising_labels (map (value_group label by) vector))

-- what always has a value
ok_behind : (k : List Pair) (v : Num) (rest : Result (List (Item Num)) TooWide) → IsOk rest → IsOk (behind k (Ok v) rest)
ok_behind k v (Ok items) h = h
ok_behind k v (Err e) h = h

ok_answered : (answer : List Pair → Num) (ks : List (List Pair)) → IsOk (group_answers (λ k. Ok (answer k)) ks)
ok_answered answer [] = refl
ok_answered answer (k ∷ ks) = ok_behind k (answer k) (group_answers (λ q. Ok (answer q)) ks) (ok_answered answer ks)

pub always_is_ok : (of_values : List Num → Num) (by : Grouping) (vector : List (Item Num)) → IsOk (of_groups (always of_values) by vector)
always_is_ok of_values by vector = ok_answered (λ k. of_values (values_of (part by vector k))) (groups by vector)
