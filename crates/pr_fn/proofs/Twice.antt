-- The least label set that comes twice, with one more.
use Rattle.std.proofs.Common.{◌≡◌, ℕ, ◌+◌, ◌≤◌, Bool, true, false, cond, ◌||◌, List, [], ◌∷◌, ◌++◌, Option, Some, refl, sym, ap, ◌∙◌, subst, arith}
use Rattle.std.proofs.lemmas.List.Sums.{fold-append, sum_by-append}
use Rattle.std.proofs.lemmas.Bool.Decides.{nat_tests}
use Rattle.std.specs.Bool.{nat_lt}
use Rattle.std.specs.List.{AllByRecursion, count_by, find, list_any}
use Rattle.std.specs.Ordering.{is_eq, ordering_reverse}
use Rattle.std.specs.declared.cmp.Ordering.{Ordering}
use Rattle.std.specs.declared.cmp.Ordering.TheVariants.{Less, Equal, Greater}
use Rattle.std.specs.BTreeMap.{is_at}
use Rattle.pr_match.specs.pr_labels.declared.pair.Pair.{Pair}
use Rattle.pr_match.specs.pr_labels.Order.{labels_cmp, labels_eq}
use Rattle.pr_match.specs.pr_labels.Rising.{IsBelowFirstSet, IsRising, is_among, placed, with_labels}
use Rattle.pr_match.proofs.LabelsLabelOrder.{among_fold, below_next, labels_decide, labels_total, rising_fold, tied}
use Rattle.pr_match.proofs.LabelsLabelMaps.{below_some, tie}
use Rattle.spec_vectors.specs.Vectors.{in_label_order}
use Rattle.spec_vectors.specs.Functions.{comes_twice, least_twice}
use Rattle.pr_match.proofs.LabelsElements.{equal_turned}
use Rattle.pr_fn.specs.private.Rows.{is_below, least_with}

-- how often a label set comes
abbrev times : List Pair → List (List Pair) → ℕ
times labels sets = count_by (λ other. labels_eq other labels) sets

times_more : (q : List Pair) (sets : List (List Pair)) (labels : List Pair) → times q (sets ++ labels ∷ []) ≡ times q sets + cond (labels_eq labels q) 1 0
times_more q sets labels = omega (arith, sum_by-append (λ (other : List Pair). cond (labels_eq other q) 1 0) sets (labels ∷ []))

times_first : (q first : List Pair) (sets : List (List Pair)) → times q (first ∷ sets) ≡ cond (labels_eq first q) 1 0 + times q sets
times_first q first sets = omega (arith, sum_by-append (λ (other : List Pair). cond (labels_eq other q) 1 0) (first ∷ []) sets)

none_counted : (q : List Pair) (sets : List (List Pair)) → is_among q sets ≡ false → times q sets ≡ 0
none_counted q [] h = refl
none_counted q (first ∷ sets) h = times_first q first sets ∙ by_test (labels_eq q first) (equal_turned first q) h (none_counted q sets) where
  by_test : (b : Bool) → labels_eq first q ≡ b → (b || is_among q sets) ≡ false → (is_among q sets ≡ false → times q sets ≡ 0) → cond (labels_eq first q) 1 0 + times q sets ≡ 0
  by_test true e g more = cc
  by_test false e g more = let rest : times q sets ≡ 0 = more g in rw e (omega arith)

some_counted : (q : List Pair) (sets : List (List Pair)) → is_among q sets ≡ true → 1 ≤ times q sets
some_counted q [] h = cc
some_counted q (first ∷ sets) h = subst (λ (n : ℕ). 1 ≤ n) (sym (times_first q first sets)) (by_test (labels_eq q first) (equal_turned first q) h (some_counted q sets)) where
  by_test : (b : Bool) → labels_eq first q ≡ b → (b || is_among q sets) ≡ true → (is_among q sets ≡ true → 1 ≤ times q sets) → 1 ≤ cond (labels_eq first q) 1 0 + times q sets
  by_test true e g more = rw e (omega arith)
  by_test false e g more = let rest : 1 ≤ times q sets = more g in rw e (omega arith)

not_once : (n k m : ℕ) → n ≡ 0 → k ≡ 1 → m ≡ n + k → nat_lt 1 m ≡ nat_lt 1 n
not_once n k m h e s = grind (arith, nat_tests)

once_more : (n k m : ℕ) → 1 ≤ n → k ≡ 1 → m ≡ n + k → nat_lt 1 m ≡ true
once_more n k m h e s = grind (arith, nat_tests)

no_more : (n k m : ℕ) → k ≡ 0 → m ≡ n + k → m ≡ n
no_more n k m e s = omega arith

-- other label sets come as often as before
others_stay : (sets : List (List Pair)) (labels q : List Pair) → labels_eq labels q ≡ false → comes_twice (sets ++ labels ∷ []) q ≡ comes_twice sets q
others_stay sets labels q h =
    ap (λ (n : ℕ). nat_lt 1 n) (no_more (times q sets) (cond (labels_eq labels q) 1 0) (times q (sets ++ labels ∷ [])) (ap (λ (b : Bool). cond b 1 0) h) (times_more q sets labels))

-- and so does a new one
new_stays : (sets : List (List Pair)) (labels : List Pair) → is_among labels sets ≡ false → (q : List Pair) → comes_twice (sets ++ labels ∷ []) q ≡ comes_twice sets q
new_stays sets labels h q = by_test (labels_eq labels q) refl where
  by_test : (b : Bool) → labels_eq labels q ≡ b → comes_twice (sets ++ labels ∷ []) q ≡ comes_twice sets q
  by_test true e =
      let none : times q sets ≡ 0 = none_counted q sets (ap (λ (l : List Pair). is_among l sets) (sym ((labels_decide labels q).0 e)) ∙ h) in
      not_once (times q sets) (cond (labels_eq labels q) 1 0) (times q (sets ++ labels ∷ [])) none (ap (λ (b : Bool). cond b 1 0) e) (times_more q sets labels)
  by_test false e = others_stay sets labels q e

new_once : (sets : List (List Pair)) (labels : List Pair) → is_among labels sets ≡ false → comes_twice sets labels ≡ false
new_once sets labels h = ap (λ (n : ℕ). nat_lt 1 n) (none_counted labels sets h)

same_is_equal : (labels : List Pair) → labels_eq labels labels ≡ true
same_is_equal labels = (labels_decide labels labels).1 refl

again_twice : (sets : List (List Pair)) (labels : List Pair) → is_among labels sets ≡ true → comes_twice (sets ++ labels ∷ []) labels ≡ true
again_twice sets labels h =
    once_more (times labels sets) (cond (labels_eq labels labels) 1 0) (times labels (sets ++ labels ∷ [])) (some_counted labels sets h) (ap (λ (b : Bool). cond b 1 0) (same_is_equal labels)) (times_more labels sets labels)

-- what fails is not found, wherever it is put
not_found : (test : List Pair → Bool) (sets : List (List Pair)) (labels : List Pair) → test labels ≡ false → find test (with_labels sets labels) ≡ find test sets
not_found test [] labels h = rw h refl
not_found test (first ∷ sets) labels h = by_order (labels_cmp labels first) (not_found test sets labels h) where
  by_order : (o : Ordering) → find test (with_labels sets labels) ≡ find test sets → find test (placed o labels first sets (with_labels sets labels)) ≡ find test (first ∷ sets)
  by_order Less more = rw h refl
  by_order Equal more = refl
  by_order Greater more = ap (λ (o : Option (List Pair)). cond (test first) (Some first) o) more

order_more : (sets : List (List Pair)) (labels : List Pair) → in_label_order (sets ++ labels ∷ []) ≡ with_labels (in_label_order sets) labels
order_more sets labels = fold-append with_labels [] sets (labels ∷ [])

among_order : (labels : List Pair) (sets : List (List Pair)) → is_among labels (in_label_order sets) ≡ is_among labels sets
among_order labels sets = among_fold labels [] sets

-- a new label set
pub least_stays : (sets : List (List Pair)) (labels : List Pair) → is_among labels (in_label_order sets) ≡ false → least_twice sets ≡ least_twice (sets ++ labels ∷ [])
least_stays sets labels h =
    let new : is_among labels sets ≡ false = sym (among_order labels sets) ∙ h in
    let tests : comes_twice (sets ++ labels ∷ []) ≡ comes_twice sets = λ i q. new_stays sets labels new q i in
    sym (ap (λ (ks : List (List Pair)). find (comes_twice (sets ++ labels ∷ [])) ks) (order_more sets labels)
    ∙ ap (λ (test : List Pair → Bool). find test (with_labels (in_label_order sets) labels)) tests
    ∙ not_found (comes_twice sets) (in_label_order sets) labels (new_once sets labels new))

-- one that came before
above_all : (first : List Pair) (rest : List (List Pair)) → IsBelowFirstSet first rest → IsRising rest → AllByRecursion (λ l. labels_cmp first l ≡ Less) rest
above_all first [] h r = tt
above_all first (next ∷ rest) h r = (h, above_all first rest (below_next first next rest h r.0) r.1)

found_above : (test : List Pair → Bool) (first : List Pair) (rest : List (List Pair)) → AllByRecursion (λ l. labels_cmp first l ≡ Less) rest → is_below first (find test rest) ≡ true
found_above test first [] h = refl
found_above test first (next ∷ rest) h = by_test (test next) (found_above test first rest h.1) where
  by_test : (b : Bool) → is_below first (find test rest) ≡ true → is_below first (cond b (Some next) (find test rest)) ≡ true
  by_test true more = rw h.0 refl
  by_test false more = more

among_rest : (labels first : List Pair) (rest : List (List Pair)) (o : Ordering) → labels_cmp labels first ≡ o → is_eq o ≡ false → list_any (is_at (labels_cmp labels)) (first ∷ rest) ≡ true → list_any (is_at (labels_cmp labels)) rest ≡ true
among_rest labels first rest o e apart h = let other : is_at (labels_cmp labels) first ≡ false = ap is_eq e ∙ apart in sym (ap (λ (b : Bool). b || list_any (is_at (labels_cmp labels)) rest) other) ∙ h

not_before : (labels first : List Pair) (rest : List (List Pair)) → IsRising (first ∷ rest) → list_any (is_at (labels_cmp labels)) rest ≡ true → labels_cmp labels first ≡ Less → ⊥
not_before labels first rest r h e =
    let above : labels_cmp first labels ≡ Less = below_some first labels rest (above_all first rest r.0 r.1) h in
    let turned : labels_cmp labels first ≡ Greater = labels_total.antisymm labels first ∙ ap ordering_reverse above in
    apart (sym e ∙ turned)
  where
    apart : Less ≡ Greater → ⊥
    apart e = cc

-- the same label sets, of which one passes from now on
found_least : (old new : List Pair → Bool) (labels : List Pair) (sets : List (List Pair)) → IsRising sets → list_any (is_at (labels_cmp labels)) sets ≡ true → new labels ≡ true → ((q : List Pair) → labels_eq labels q ≡ false → new q ≡ old q)
    → least_with (find old sets) labels ≡ find new sets
found_least old new labels [] r h passes others = cc
found_least old new labels (first ∷ rest) r h passes others = by_order (labels_cmp labels first) refl (λ g. found_least old new labels rest r.1 g passes others) where
  apart_by : (o : Ordering) → labels_cmp labels first ≡ o → is_eq o ≡ false → new first ≡ old first
  apart_by o e g = others first (sym (tie labels first) ∙ ap is_eq e ∙ g)

  by_old : (b : Bool) → labels_cmp labels first ≡ Equal → least_with (cond b (Some first) (find old rest)) labels ≡ Some first
  by_old true e = rw e refl
  by_old false e =
      let same : labels ≡ first = tied labels first e in
      let below : is_below labels (find old rest) ≡ true = ap (λ (l : List Pair). is_below l (find old rest)) same ∙ found_above old first rest (above_all first rest r.0 r.1) in
      ap (λ (b : Bool). cond b (Some labels) (find old rest)) below ∙ ap (λ (l : List Pair). Some l) same

  by_both : (b : Bool) → labels_cmp labels first ≡ Greater → least_with (find old rest) labels ≡ find new rest → least_with (cond b (Some first) (find old rest)) labels ≡ cond b (Some first) (find new rest)
  by_both true e more = rw e refl
  by_both false e more = more

  by_order : (o : Ordering) → labels_cmp labels first ≡ o → (list_any (is_at (labels_cmp labels)) rest ≡ true → least_with (find old rest) labels ≡ find new rest) → least_with (find old (first ∷ rest)) labels ≡ find new (first ∷ rest)
  by_order Less e more = absurd (not_before labels first rest r (among_rest labels first rest Less e refl h) e)
  by_order Equal e more =
      let yes : new first ≡ true = ap new (sym (tied labels first e)) ∙ passes in
      by_old (old first) e ∙ sym (ap (λ (b : Bool). cond b (Some first) (find new rest)) yes)
  by_order Greater e more =
      by_both (old first) e (more (among_rest labels first rest Greater e refl h))
      ∙ sym (ap (λ (b : Bool). cond b (Some first) (find new rest)) (apart_by Greater e refl))

-- nothing goes in twice
known_stays : (labels : List Pair) (sets : List (List Pair)) → IsRising sets → list_any (is_at (labels_cmp labels)) sets ≡ true → with_labels sets labels ≡ sets
known_stays labels [] r h = cc
known_stays labels (first ∷ rest) r h = by_order (labels_cmp labels first) refl (λ g. known_stays labels rest r.1 g) where
  by_order : (o : Ordering) → labels_cmp labels first ≡ o → (list_any (is_at (labels_cmp labels)) rest ≡ true → with_labels rest labels ≡ rest) → placed o labels first rest (with_labels rest labels) ≡ first ∷ rest
  by_order Less e more = absurd (not_before labels first rest r (among_rest labels first rest Less e refl h) e)
  by_order Equal e more = refl
  by_order Greater e more = ap (λ (xs : List (List Pair)). first ∷ xs) (more (among_rest labels first rest Greater e refl h))

by_place : (labels : List Pair) (sets : List (List Pair)) → is_among labels sets ≡ true → list_any (is_at (labels_cmp labels)) sets ≡ true
by_place labels sets h = (λ i. list_any (λ q. tie labels q i) sets) ∙ h

pub order_stays : (sets : List (List Pair)) (labels : List Pair) → is_among labels (in_label_order sets) ≡ true → in_label_order sets ≡ in_label_order (sets ++ labels ∷ [])
order_stays sets labels h = sym (order_more sets labels ∙ known_stays labels (in_label_order sets) (rising_fold [] sets tt) (by_place labels (in_label_order sets) h))

pub least_again : (sets : List (List Pair)) (labels : List Pair) → is_among labels (in_label_order sets) ≡ true → least_with (least_twice sets) labels ≡ least_twice (sets ++ labels ∷ [])
least_again sets labels h =
    found_least (comes_twice sets) (comes_twice (sets ++ labels ∷ [])) labels (in_label_order sets) (rising_fold [] sets tt) (by_place labels (in_label_order sets) h)
    (again_twice sets labels (sym (among_order labels sets) ∙ h)) (λ q e. others_stay sets labels q e)
    ∙ ap (λ (ks : List (List Pair)). find (comes_twice (sets ++ labels ∷ [])) ks) (order_stays sets labels h)
