-- One more element in its part.
use Rattle.std.proofs.Common.{◌≡◌, ℕ, suc, ◌+◌, ◌<◌, ◌≤◌, ◌^◌, Bool, true, false, cond, List, [], ◌∷◌, ◌++◌, length, Option, Some, None, refl, sym, ap, ◌∙◌, subst, arith, append-nil}
use Rattle.std.proofs.lemmas.List.{map-append}
use Rattle.std.proofs.lemmas.List.Elements.{filter-append}
use Rattle.std.proofs.lemmas.List.Sums.{length-filter, count_by-le-length}
use Rattle.std.specs.Option.{IfSome}
use Rattle.indexmap.specs.IndexMap.{IndexMap, IsUnique, Updates, get}
use Rattle.pr_num.specs.declared.value.Num.{Num}
use Rattle.pr_window.specs.pr_labels.declared.pair.Pair.{Pair}
use Rattle.pr_window.specs.pr_labels.declared.item.Item.{Item}
use Rattle.pr_window.specs.pr_labels.Order.{labels_eq}
use Rattle.pr_window.proofs.LabelsLabelOrder.{labels_decide}
use Rattle.pr_window.specs.spec_vectors.Aggregation.{values_of}
use Rattle.pr_window.specs.private.Folding.{folded, with_next}
use Rattle.pr_window.proofs.Folding.{folded_more, weight_folded}
use Rattle.pr_agg.specs.private.Parts.{AreGrouped, part_by}

-- the values of a part with one more element
values_more : (key : Item Num → List Pair) (front : List (Item Num)) (x : Item Num) (q : List Pair) → values_of (part_by key (front ++ x ∷ []) q) ≡ values_of (part_by key front q) ++ values_of (part_by key (x ∷ []) q)
values_more key front x q =
    ap values_of (filter-append (λ (e : Item Num). labels_eq (key e) q) front (x ∷ []))
    ∙ map-append (λ (e : Item Num). e.value) (part_by key front q) (part_by key (x ∷ []) q)

-- there is room for one more value
pub light : {A : Type 0} (weight : A → ℕ) (o : Option A) (n m : ℕ) → n ≤ m → m + 1 < 2 ^ 64 → IfSome o (λ a. weight a ≤ n) → IfSome o (λ a. weight a + 1 < 2 ^ 64)
light weight None n m le small h = tt
light weight (Some a) n m le small h = omega arith

module _ {A : Type 0} (lift : Num → A) (combine : A → A → A) where
  pub grouped_more : {S : Type 0} (key : Item Num → List Pair) (front : List (Item Num)) (x : Item Num) (m n : IndexMap (List Pair) A S) (w : A)
      → w ≡ with_next lift combine (get labels_eq m (key x)) x.value
      → Updates labels_eq m n (key x) (Some w) → IsUnique labels_eq n
      → AreGrouped lift combine key front m → AreGrouped lift combine key (front ++ x ∷ []) n
  grouped_more key front x m n w is u unique h = record {
    unique = unique;
    at = λ q. by_group q (labels_eq (key x) q) refl;
  } where
    by_group : (q : List Pair) (b : Bool) → labels_eq (key x) q ≡ b → get labels_eq n q ≡ folded lift combine (values_of (part_by key (front ++ x ∷ []) q))
    by_group q true here =
        u.0 q ∙ ap (λ (b : Bool). cond b (Some w) (get labels_eq m q)) here
        ∙ ap (λ (a : A). Some a) (is ∙ ap (λ (k : List Pair). with_next lift combine (get labels_eq m k) x.value) ((labels_decide (key x) q).0 here) ∙ ap (λ (o : Option A). with_next lift combine o x.value) (h.at q))
        ∙ sym (folded_more lift combine (values_of (part_by key front q)) x.value)
        ∙ ap (folded lift combine) (ap (λ (b : Bool). values_of (part_by key front q) ++ values_of (cond b (x ∷ []) [])) (sym here) ∙ sym (values_more key front x q))
    by_group q false apart =
        u.0 q ∙ ap (λ (b : Bool). cond b (Some w) (get labels_eq m q)) apart ∙ h.at q
        ∙ ap (folded lift combine) (sym (append-nil (values_of (part_by key front q))) ∙ ap (λ (b : Bool). values_of (part_by key front q) ++ values_of (cond b (x ∷ []) [])) (sym apart) ∙ sym (values_more key front x q))

  -- a part weighs no more than there are elements
  module _ (weight : A → ℕ) (lifted : (v : Num) → weight (lift v) ≤ 1) (combined : (a b : A) → weight (combine a b) ≤ weight a + weight b) where
    length_of_values : (xs : List (Item Num)) → length (values_of xs) ≡ length xs
    length_of_values [] = refl
    length_of_values (x ∷ xs) = ap (λ (n : ℕ). suc n) (length_of_values xs)

    some_weight : (o : Option A) (n m : ℕ) → n ≤ m → IfSome o (λ a. weight a ≤ n) → IfSome o (λ a. weight a ≤ m)
    some_weight None n m le h = tt
    some_weight (Some a) n m le h = omega arith

    pub part_weight : {S : Type 0} (key : Item Num → List Pair) (front : List (Item Num)) (m : IndexMap (List Pair) A S) (q : List Pair) → AreGrouped lift combine key front m
        → IfSome (get labels_eq m q) (λ a. weight a ≤ length front)
    part_weight key front m q h =
        subst (λ (o : Option A). IfSome o (λ a. weight a ≤ length front)) (sym (h.at q))
        (some_weight (folded lift combine (values_of (part_by key front q))) (length (values_of (part_by key front q))) (length front)
        (omega (arith, length_of_values (part_by key front q), length-filter (λ (e : Item Num). labels_eq (key e) q) front, count_by-le-length (λ (e : Item Num). labels_eq (key e) q) front))
        (weight_folded lift combine weight lifted combined (values_of (part_by key front q))))
