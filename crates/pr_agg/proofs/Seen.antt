-- What was seen before an element, in order of rank, is what comes before it.
use Rattle.std.proofs.Common.{◌≡◌, ℕ, ◌+◌, ◌<◌, Bool, true, false, cond, List, [], ◌∷◌, ◌++◌, length, filter, Option, Some, None, refl, sym, ap, ◌∙◌, subst, arith, slice_get}
use Rattle.std.proofs.lemmas.Map.Entries.{btree_map_get_place}
use Rattle.std.specs.List.{sum_by, count_by}
use Rattle.std.specs.List.Sorted.{IsStrictlySortedBy}
use Rattle.std.specs.Option.{IfSome, option_map, unwrap_or}
use Rattle.std.specs.Map.{keys_of, values_of}
use Rattle.std.specs.Ordering.{is_lt}
use Rattle.std.specs.BTreeMap.{BTreeMap, get}
use Rattle.pr_num.specs.declared.value.Num.{Num}
use Rattle.pr_num.specs.declared.value.Num.TheVariants.{NaN}
use Rattle.pr_window.specs.pr_labels.declared.item.Item.{Item}
use Rattle.pr_window.specs.pr_labels.declared.grouping.Grouping.{Grouping}
use Rattle.pr_window.specs.pr_labels.Order.{labels_eq}
use Rattle.pr_window.specs.pr_labels.Rising.{IsRising}
use Rattle.pr_window.specs.spec_vectors.Vectors.{label_sets}
use Rattle.pr_window.specs.spec_vectors.Aggregation.{comes_before, group_of, rank}
use Rattle.pr_agg.specs.declared.firsts.Rank.{Rank}
use Rattle.pr_agg.specs.private.Firsts.{AreRanks, in_group, order_toward, rank_at, rank_cmp, rank_of, weigh_at}
use Rattle.pr_window.proofs.LabelsSorted.{before_entry, sum_cons}
use Rattle.pr_agg.proofs.Ranking.{before_by_rank, rank_total}

-- a count in a part
both_tests : (a b : Bool) (n : ℕ) → cond a (cond b 1 0) 0 + n ≡ cond a (cond b 1 0 + n) n
both_tests true b n = refl
both_tests false b n = omega arith

count_in_part : (p q : Item Num → Bool) (xs : List (Item Num)) → count_by p (filter q xs) ≡ sum_by (λ x. cond (q x) (cond (p x) 1 0) 0) xs
count_in_part p q [] = refl
count_in_part p q (x ∷ xs) =
    by_test (q x) ∙ ap (λ (n : ℕ). cond (q x) (cond (p x) 1 0) 0 + n) (count_in_part p q xs) ∙ sym (sum_cons (λ y. cond (q y) (cond (p y) 1 0) 0) x xs)
  where
    by_test : (b : Bool) → count_by p (cond b (x ∷ filter q xs) (filter q xs)) ≡ cond b (cond (p x) 1 0) 0 + count_by p (filter q xs)
    by_test true = sum_cons (λ y. cond (p y) 1 0) x (filter q xs)
    by_test false = omega arith

exchanged : (a b : Bool) → ◌≡◌ {A = ℕ} (cond a (cond b 1 0) 0) (cond b (cond a 1 0) 0)
exchanged true true = refl
exchanged true false = refl
exchanged false true = refl
exchanged false false = refl

module _ (greatest : Bool) (by : Grouping) (vector : List (Item Num)) (rising : IsRising (label_sets vector)) (m : BTreeMap Rank ℕ) (ranks : AreRanks greatest vector vector m) where
  -- each entry has the rank of its place
  entry_ranked : (o : Option ℕ) (q : Rank) (i : ℕ) → o ≡ Some i → IfSome o (λ i. (q ≡ rank_at greatest vector i) × (i < length vector)) → (q ≡ rank_at greatest vector i) × (i < length vector)
  entry_ranked None q i e h = cc
  entry_ranked (Some j) q i e h = subst (λ (k : ℕ). (q ≡ rank_at greatest vector k) × (k < length vector)) (cc) h

  pub entry_at : (j : ℕ) (e : Rank × ℕ) → slice_get m.entries j ≡ Some e → (e.0 ≡ rank_at greatest vector e.1) × (e.1 < length vector)
  entry_at j e s = entry_ranked (get rank_cmp m e.0) e.0 e.1 (btree_map_get_place rank_total m j e.0 e.1 ranks.ordered s) (ranks.keyed e.0)

  weight_before : (item : Item Num) (i : ℕ) → slice_get vector i ≡ Some item → (k : ℕ) (o : Option (Item Num)) → slice_get vector k ≡ o
      → unwrap_or (option_map (λ o. cond (labels_eq (group_of by o) (group_of by item)) (cond (comes_before (order_toward greatest) o item) 1 0) 0) o) 0
      ≡ cond (is_lt (rank_cmp (rank_of greatest (unwrap_or (option_map (λ e. e.value) o) NaN) k) (rank_of greatest item.value i))) (unwrap_or (option_map (in_group by (group_of by item)) o) 0) 0
  weight_before item i at k None e = empty (is_lt (rank_cmp (rank_of greatest NaN k) (rank_of greatest item.value i))) where
    empty : (b : Bool) → ◌≡◌ {A = ℕ} 0 (cond b 0 0)
    empty true = refl
    empty false = refl
  weight_before item i at k (Some o) e =
      exchanged (labels_eq (group_of by o) (group_of by item)) (comes_before (order_toward greatest) o item)
      ∙ ap (λ (b : Bool). cond b (in_group by (group_of by item) o) 0) (before_by_rank greatest vector k i o item rising e at)

  pub seen_is_rank : (r : Rank) (i : ℕ) (item : Item Num) (ys t : List (Rank × ℕ)) → m.entries ≡ ys ++ (r, i) ∷ t → slice_get vector i ≡ Some item → r ≡ rank_of greatest item.value i
      → sum_by (weigh_at vector (in_group by (group_of by item))) (values_of ys) ≡ rank (order_toward greatest) by vector item
  seen_is_rank r i item ys t split at ranked =
      sym (before_entry rank_cmp rank_total (weigh_at vector weight) (weigh_at vector (in_group by (group_of by item))) r i ys t (subst (λ (es : List (Rank × ℕ)). IsStrictlySortedBy rank_cmp (keys_of es)) split ranks.ordered) each)
      ∙ ap (λ (es : List (Rank × ℕ)). sum_by (weigh_at vector weight) (values_of es)) (sym split)
      ∙ ranks.sums weight
      ∙ sym (count_in_part (λ o. comes_before (order_toward greatest) o item) (λ o. labels_eq (group_of by o) (group_of by item)) vector)
    where
      weight : Item Num → ℕ
      weight o = cond (labels_eq (group_of by o) (group_of by item)) (cond (comes_before (order_toward greatest) o item) 1 0) 0

      each : (j : ℕ) (e : Rank × ℕ) → slice_get (ys ++ (r, i) ∷ t) j ≡ Some e → weigh_at vector weight e.1 ≡ cond (is_lt (rank_cmp e.0 r)) (weigh_at vector (in_group by (group_of by item)) e.1) 0
      each j e s =
          weight_before item i at e.1 (slice_get vector e.1) refl
          ∙ (λ k. cond (is_lt (rank_cmp (sym (entry_at j e (ap (λ (es : List (Rank × ℕ)). slice_get es j) split ∙ s)).0 k) (sym ranked k))) (weigh_at vector (in_group by (group_of by item)) e.1) 0)
