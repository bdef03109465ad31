-- A vector is told apart already.
use Rattle.std.proofs.Common.{◌≡◌, ◌+◌, ◌≤◌, Bool, true, false, cond, List, [], ◌∷◌, ◌++◌, find, fold, count_by, Some, None, Ok, refl, sym, ap, ◌∙◌, subst, arith, append_assoc, append-nil}
use Rattle.std.proofs.lemmas.Bool.{le-ltb}
use Rattle.std.proofs.lemmas.List.Sums.{sum_by-cons}
use Rattle.std.specs.Ordering.{ordering_reverse}
use Rattle.std.specs.declared.cmp.Ordering.TheVariants.{Less, Greater}
use Rattle.pr_num.specs.declared.value.Num.{Num}
use Rattle.pr_labels.specs.declared.pair.Pair.{Pair}
use Rattle.pr_labels.specs.declared.item.Item.{Item}
use Rattle.pr_labels.specs.Order.{labels_cmp, labels_eq}
use Rattle.pr_labels.specs.Rising.{IsRising}
use Rattle.pr_labels.proofs.LabelOrder.{labels_decide, labels_total}
use Rattle.pr_range.specs.spec_vectors.Functions.{comes_twice, told_apart, unless_same}
use Rattle.pr_range.specs.spec_vectors.private.Laws.{IsVector}
use Rattle.pr_range.specs.spec_vectors.Vectors.{in_label_order, in_order, item_placed, label_sets, with_element}

-- in order
first_below : (l : List Pair) (mid : List (Item Num)) (e : Item Num) (rest : List (Item Num)) → IsRising (l ∷ label_sets (mid ++ e ∷ rest)) → labels_cmp l e.labels ≡ Less
first_below l [] e rest h = h.0
first_below l (m ∷ mid) e rest h = labels_total.trans l m.labels e.labels h.0 (first_below m.labels mid e rest h.1)

above : (a b : List Pair) → labels_cmp a b ≡ Less → labels_cmp b a ≡ Greater
above a b h = labels_total.antisymm b a ∙ ap ordering_reverse h

put_last : (front : List (Item Num)) (e : Item Num) (rest : List (Item Num)) → IsVector (front ++ e ∷ rest) → with_element front e ≡ front ++ e ∷ []
put_last [] e rest h = refl
put_last (x ∷ front) e rest h =
    ap (λ o. item_placed o e x front (with_element front e)) (above x.labels e.labels (first_below x.labels front e rest h))
    ∙ ap (λ l. x ∷ l) (put_last front e rest h.1)

all_put : (front rest : List (Item Num)) → IsVector (front ++ rest) → fold with_element front rest ≡ front ++ rest
all_put front [] h = sym (append-nil front)
all_put front (e ∷ rest) h =
    ap (λ l. fold with_element l rest) (put_last front e rest h)
    ∙ all_put (front ++ e ∷ []) rest (subst IsVector (sym (append_assoc front (e ∷ []) rest)) h)
    ∙ append_assoc front (e ∷ []) rest

-- no label set comes twice
pub not_equal : (a b : List Pair) → labels_cmp a b ≡ Less → labels_eq b a ≡ false
not_equal a b h = by (labels_eq b a) refl where
  by : (t : Bool) → labels_eq b a ≡ t → labels_eq b a ≡ false
  by true e =
      let same : b ≡ a = (labels_decide b a).0 e in
      let here : labels_cmp a a ≡ Less = subst (λ l. labels_cmp a l ≡ Less) same h in
      let both : Less ≡ Greater = sym here ∙ above a a here in cc
  by false e = e

pub skip : (l m : List Pair) (rest : List (List Pair)) → IsRising (l ∷ m ∷ rest) → IsRising (l ∷ rest)
skip l m [] h = (tt, tt)
skip l m (r ∷ rest) h = (labels_total.trans l m r h.0 h.1.0, h.1.1)

counted : (l m : List Pair) (sets : List (List Pair)) (b : Bool) → labels_eq m l ≡ b → count_by (λ other. labels_eq other l) (m ∷ sets) ≡ cond b 1 0 + count_by (λ other. labels_eq other l) sets
counted l m sets b h = sum_by-cons (λ other. cond (labels_eq other l) 1 0) m sets ∙ ap (λ c. cond c 1 0 + count_by (λ other. labels_eq other l) sets) h

none_again : (l : List Pair) (sets : List (List Pair)) → IsRising (l ∷ sets) → count_by (λ other. labels_eq other l) sets ≡ 0
none_again l [] h = refl
none_again l (m ∷ sets) h =
    counted l m sets (labels_eq m l) refl ∙ (λ i. cond (not_equal l m h.0 i) 1 0 + none_again l sets (skip l m sets h) i)

at_most_once : (l : List Pair) (sets : List (List Pair)) → IsRising sets → count_by (λ other. labels_eq other l) sets ≤ 1
at_most_once l [] h = omega arith
at_most_once l (m ∷ sets) h = by (labels_eq m l) refl (at_most_once l sets h.1) where
  by : (b : Bool) → labels_eq m l ≡ b → count_by (λ other. labels_eq other l) sets ≤ 1 → count_by (λ other. labels_eq other l) (m ∷ sets) ≤ 1
  by true e few =
      let same : m ≡ l = (labels_decide m l).0 e in
      let none : count_by (λ other. labels_eq other l) sets ≡ 0 = none_again l sets (subst (λ k. IsRising (k ∷ sets)) same h) in
      let sum : count_by (λ other. labels_eq other l) (m ∷ sets) ≡ 1 + count_by (λ other. labels_eq other l) sets = counted l m sets true e in
      omega arith
  by false e few =
      let sum : count_by (λ other. labels_eq other l) (m ∷ sets) ≡ 0 + count_by (λ other. labels_eq other l) sets = counted l m sets false e in
      omega arith

none_twice : (sets known : List (List Pair)) → IsRising sets → find (comes_twice sets) known ≡ None
none_twice sets [] h = refl
none_twice sets (l ∷ known) h =
    ap (λ b. cond b (Some l) (find (comes_twice sets) known)) (le-ltb 1 (count_by (λ other. labels_eq other l) sets) (at_most_once l sets h)) ∙ none_twice sets known h

pub told_vector : (items : List (Item Num)) → IsVector items → told_apart items ≡ Ok items
told_vector items h =
    ap (λ o. unless_same o (in_order items)) (none_twice (label_sets items) (in_label_order (label_sets items)) h) ∙ ap Ok (all_put [] items h)
