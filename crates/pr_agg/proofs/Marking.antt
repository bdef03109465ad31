-- One more place counted and marked.
use Rattle.std.proofs.Common.{◌≡◌, ℕ, zero, suc, ◌+◌, ◌<◌, ◌≤◌, ◌==◌, Bool, true, false, cond, ◌&&◌, ◌||◌, List, [], ◌∷◌, ◌++◌, length, map, Option, Some, None, refl, sym, ap, ◌∙◌, arith, slice_get, set, eq-eqb}
use Rattle.std.proofs.lemmas.List.{map-append}
use Rattle.std.proofs.lemmas.List.Sums.{sum_by-append}
use Rattle.std.proofs.lemmas.List.Folds.{list_any-append}
use Rattle.std.proofs.Math.ListN.{length-set}
use Rattle.std.specs.List.{list_any, sum_by}
use Rattle.std.specs.Option.{option_map, unwrap_or}
use Rattle.std.specs.Map.{lookup, values_of}
use Rattle.std.specs.BTreeMap.{BTreeMap, get, Updates, is_at}
use Rattle.pr_num.specs.declared.value.Num.{Num}
use Rattle.pr_num.specs.declared.value.Num.TheVariants.{NaN}
use Rattle.pr_window.specs.pr_labels.declared.pair.Pair.{Pair}
use Rattle.pr_window.specs.pr_labels.declared.item.Item.{Item}
use Rattle.pr_window.specs.pr_labels.declared.grouping.Grouping.{Grouping}
use Rattle.pr_window.specs.pr_labels.Order.{labels_cmp, labels_eq}
use Rattle.pr_window.specs.pr_labels.Rising.{IsRising}
use Rattle.pr_window.proofs.LabelsLabelOrder.{labels_decide}
use Rattle.pr_window.proofs.LabelsLabelMaps.{tie}
use Rattle.pr_window.specs.spec_vectors.Vectors.{label_sets}
use Rattle.pr_window.specs.spec_vectors.Aggregation.{group_of, is_within, rank}
use Rattle.pr_agg.specs.declared.firsts.Rank.{Rank}
use Rattle.pr_agg.specs.private.Firsts.{AreMarks, AreRanks, AreSeen, IsMarked, in_group, is_first, mark_of, order_toward, rank_at, rank_cmp, rank_of, weigh_at}
use Rattle.pr_agg.proofs.RanksOf.{equal_if}
use Rattle.pr_agg.proofs.Seen.{entry_at, seen_is_rank}

pub map_same : {X : Type 0} (xs : List X) → map (λ x. x) xs ≡ xs
map_same [] = refl
map_same (x ∷ xs) = ap (λ ys. x ∷ ys) (map_same xs)

pub split_of : (entries ys iter next : List (Rank × ℕ)) (e : Rank × ℕ) → entries ≡ map (λ x. x) ys ++ iter → iter ≡ e ∷ next → entries ≡ ys ++ e ∷ next
split_of entries ys iter next e h k = h ∙ (λ i. map_same ys i ++ k i)

get_mid : (ys t : List (Rank × ℕ)) (e : Rank × ℕ) → slice_get (ys ++ e ∷ t) (length ys) ≡ Some e
get_mid [] t e = refl
get_mid (y ∷ ys) t e = get_mid ys t e

-- no more were counted than seen
weigh_small : (vector : List (Item Num)) (by : Grouping) (q : List Pair) (o : Option (Item Num)) → unwrap_or (option_map (in_group by q) o) 0 ≤ 1
weigh_small vector by q None = omega arith
weigh_small vector by q (Some e) = by_test (labels_eq (group_of by e) q) where
  by_test : (b : Bool) → cond b 1 0 ≤ 1
  by_test true = omega arith
  by_test false = omega arith

pub counted_small : (vector : List (Item Num)) (by : Grouping) (q : List Pair) (seen : List ℕ) → sum_by (weigh_at vector (in_group by q)) seen ≤ length seen
counted_small vector by q [] = omega arith
counted_small vector by q (i ∷ seen) =
    omega (arith, sum_by-append (weigh_at vector (in_group by q)) (i ∷ []) seen, weigh_small vector by q (slice_get vector i), counted_small vector by q seen)

length_of_values : (es : List (Rank × ℕ)) → length (values_of es) ≡ length es
length_of_values [] = refl
length_of_values (e ∷ es) = ap (λ (n : ℕ). suc n) (length_of_values es)

pub counts_small : (vector : List (Item Num)) (by : Grouping) (m : BTreeMap (List Pair) ℕ) (ys : List (Rank × ℕ)) (q : List Pair) (n : ℕ) → AreSeen by vector (values_of ys) m → length ys < n → unwrap_or (get labels_cmp m q) 0 < n
counts_small vector by m ys q n h lt =
    omega (arith, h.counts q, counted_small vector by q (values_of ys), length_of_values ys)

values_more : (ys : List (Rank × ℕ)) (e : Rank × ℕ) → values_of (ys ++ e ∷ []) ≡ values_of ys ++ e.1 ∷ []
values_more ys e = map-append (λ x. x.1) ys (e ∷ [])

pub seen_more : (vector : List (Item Num)) (by : Grouping) (seen : List ℕ) (i : ℕ) (e : Item Num) (m n : BTreeMap (List Pair) ℕ) → slice_get vector i ≡ Some e
    → Updates labels_cmp m n (group_of by e) (Some (unwrap_or (get labels_cmp m (group_of by e)) 0 + 1)) → AreSeen by vector seen m → AreSeen by vector (seen ++ i ∷ []) n
seen_more vector by seen i e m n at u h = record { counts = λ q. by_group q (labels_eq (group_of by e) q) refl } where
  by_group : (q : List Pair) (b : Bool) → labels_eq (group_of by e) q ≡ b → unwrap_or (get labels_cmp n q) 0 ≡ sum_by (weigh_at vector (in_group by q)) (seen ++ i ∷ [])
  by_group q true here =
      let weight : weigh_at vector (in_group by q) i ≡ 1 = ap (λ (o : Option (Item Num)). unwrap_or (option_map (in_group by q) o) 0) at ∙ ap (λ (b : Bool). cond b 1 0) here in
      let same : group_of by e ≡ q = (labels_decide (group_of by e) q).0 here in
      let new : get labels_cmp n q ≡ Some (unwrap_or (get labels_cmp m q) 0 + 1) = u.0 q ∙ ap (λ (b : Bool). cond b (Some (unwrap_or (get labels_cmp m (group_of by e)) 0 + 1)) (get labels_cmp m q)) (tie (group_of by e) q ∙ here) ∙ ap (λ (k : List Pair). Some (unwrap_or (get labels_cmp m k) 0 + 1)) same in
      ap (λ (o : Option ℕ). unwrap_or o 0) new ∙ omega (arith, h.counts q, weight, sum_by-append (weigh_at vector (in_group by q)) seen (i ∷ []))
  by_group q false apart =
      let weight : weigh_at vector (in_group by q) i ≡ 0 = ap (λ (o : Option (Item Num)). unwrap_or (option_map (in_group by q) o) 0) at ∙ ap (λ (b : Bool). cond b 1 0) apart in
      let new : get labels_cmp n q ≡ get labels_cmp m q = u.0 q ∙ ap (λ (b : Bool). cond b (Some (unwrap_or (get labels_cmp m (group_of by e)) 0 + 1)) (get labels_cmp m q)) (tie (group_of by e) q ∙ apart) in
      ap (λ (o : Option ℕ). unwrap_or o 0) new ∙ omega (arith, h.counts q, weight, sum_by-append (weigh_at vector (in_group by q)) seen (i ∷ []))

-- a mark set
set_here : (marks : List Bool) (i : ℕ) (b : Bool) → i < length marks → slice_get (set marks i b) i ≡ Some b
set_here [] i b h = absurd (omega arith)
set_here (x ∷ xs) zero b h = refl
set_here (x ∷ xs) (suc i) b h = set_here xs i b (omega arith)

set_apart : (marks : List Bool) (i j : ℕ) (b : Bool) → (i ≡ j → ⊥) → slice_get (set marks i b) j ≡ slice_get marks j
set_apart [] i j b h = refl
set_apart (x ∷ xs) zero zero b h = absurd (h refl)
set_apart (x ∷ xs) zero (suc j) b h = refl
set_apart (x ∷ xs) (suc i) zero b h = refl
set_apart (x ∷ xs) (suc i) (suc j) b h = set_apart xs i j b (λ e. h (ap (λ (k : ℕ). suc k) e))

or_true : (a b : Bool) → ((a || (true || false)) && b) ≡ b
or_true true b = refl
or_true false b = refl

or_false : (a b : Bool) → (a && b) ≡ ((a || (false || false)) && b)
or_false true b = refl
or_false false b = refl

pub marks_more : (greatest : Bool) (k : Num) (by : Grouping) (vector : List (Item Num)) (seen : List ℕ) (i : ℕ) (e : Item Num) (b : Bool) (marks marked : List Bool) → slice_get vector i ≡ Some e → i < length vector
    → b ≡ is_first greatest k by vector e → marked ≡ set marks i b → AreMarks greatest k by vector seen marks → AreMarks greatest k by vector (seen ++ i ∷ []) marked
marks_more greatest k by vector seen i e b marks marked at within is new h = record {
  long = ap length new ∙ length-set marks i b ∙ h.long;
  marked = λ j x s. by_place j x s (i == j) refl;
} where
  by_place : (j : ℕ) (x : Item Num) → slice_get vector j ≡ Some x → (t : Bool) → (i == j) ≡ t → slice_get marked j ≡ Some (mark_of (seen ++ i ∷ []) j (is_first greatest k by vector x))
  by_place j x s true here =
      let same : i ≡ j = equal_if i j here in
      let one : e ≡ x = some_same (sym at ∙ ap (λ (p : ℕ). slice_get vector p) same ∙ s) in
      ap (λ (l : List Bool). slice_get l j) new ∙ ap (λ (p : ℕ). slice_get (set marks i b) p) (sym same) ∙ set_here marks i b (omega (arith, h.long))
      ∙ ap (λ (t : Bool). Some t) (is ∙ ap (λ (y : Item Num). is_first greatest k by vector y) one ∙ sym (or_true (list_any (λ p. p == j) seen) (is_first greatest k by vector x)) ∙ (λ n. (list_any (λ p. p == j) seen || (sym here n || false)) && is_first greatest k by vector x) ∙ ap (λ (a : Bool). a && is_first greatest k by vector x) (sym (list_any-append (λ (p : ℕ). p == j) seen (i ∷ []))))
    where
      some_same : {y z : Item Num} → Some y ≡ Some z → y ≡ z
      some_same q = cc
  by_place j x s false apart =
      ap (λ (l : List Bool). slice_get l j) new ∙ set_apart marks i j b (λ q. let t : (i == j) ≡ true = eq-eqb i j q in cc) ∙ h.marked j x s
      ∙ ap (λ (t : Bool). Some t) (or_false (list_any (λ p. p == j) seen) (is_first greatest k by vector x) ∙ (λ n. (list_any (λ p. p == j) seen || (sym apart n || false)) && is_first greatest k by vector x) ∙ ap (λ (a : Bool). a && is_first greatest k by vector x) (sym (list_any-append (λ (p : ℕ). p == j) seen (i ∷ []))))

-- each place has an entry
found_value : (test : Rank → Bool) (es : List (Rank × ℕ)) (i : ℕ) → lookup test es ≡ Some i → list_any (λ p. p == i) (values_of es) ≡ true
found_value test [] i h = cc
found_value test (e ∷ es) i h = by_test (test e.0) h (found_value test es i) where
  or_left : (a b : Bool) → a ≡ true → (a || b) ≡ true
  or_left true b h = refl
  or_left false b h = cc

  or_right : (a b : Bool) → b ≡ true → (a || b) ≡ true
  or_right true b h = refl
  or_right false b h = h

  by_test : (t : Bool) → cond t (Some e.1) (lookup test es) ≡ Some i → (lookup test es ≡ Some i → list_any (λ p. p == i) (values_of es) ≡ true) → ((e.1 == i) || list_any (λ p. p == i) (values_of es)) ≡ true
  by_test true g more = let same : e.1 ≡ i = cc in or_left (e.1 == i) (list_any (λ p. p == i) (values_of es)) (eq-eqb e.1 i same)
  by_test false g more = or_right (e.1 == i) (list_any (λ p. p == i) (values_of es)) (more g)

pub all_marked : (greatest : Bool) (k : Num) (by : Grouping) (vector : List (Item Num)) (m : BTreeMap Rank ℕ) (ys : List (Rank × ℕ)) (marks : List Bool) → AreRanks greatest vector vector m → ys ≡ m.entries
    → AreMarks greatest k by vector (values_of ys) marks → (i : ℕ) (e : Item Num) → slice_get vector i ≡ Some e → i < length vector → slice_get marks i ≡ Some (is_first greatest k by vector e)
all_marked greatest k by vector m ys marks ranks all h i e s within =
    h.marked i e s
    ∙ ap (λ (b : Bool). Some (b && is_first greatest k by vector e))
    (ap (λ (es : List (Rank × ℕ)). list_any (λ p. p == i) (values_of es)) all ∙ found_value (is_at (rank_cmp (rank_at greatest vector i))) m.entries i (ranks.found i within))

pub at_place : (vector : List (Item Num)) (i : ℕ) → i < length vector → (e : Item Num) × (slice_get vector i ≡ Some e)
at_place [] i h = absurd (omega arith)
at_place (x ∷ xs) zero h = (x, refl)
at_place (x ∷ xs) (suc i) h = at_place xs i (omega arith)

module _ (greatest : Bool) (k : Num) (by : Grouping) (vector : List (Item Num)) (rising : IsRising (label_sets vector)) (m : BTreeMap Rank ℕ) (ranks : AreRanks greatest vector vector m)
    (ys next : List (Rank × ℕ)) (entry : Rank × ℕ) (split : m.entries ≡ ys ++ entry ∷ next) where
  pub entry_place : (entry.0 ≡ rank_at greatest vector entry.1) × (entry.1 < length vector)
  entry_place = entry_at greatest by vector rising m ranks (length ys) entry (ap (λ (es : List (Rank × ℕ)). slice_get es (length ys)) split ∙ get_mid ys next entry)

  pub mark_step : (seen counted : BTreeMap (List Pair) ℕ) (marks marked : List Bool) → ((e : Item Num) → slice_get vector entry.1 ≡ Some e → IsMarked k by e entry.1 seen marks counted marked)
      → AreSeen by vector (values_of ys) seen → AreMarks greatest k by vector (values_of ys) marks
      → AreSeen by vector (values_of (ys ++ entry ∷ [])) counted × AreMarks greatest k by vector (values_of (ys ++ entry ∷ [])) marked
  mark_step seen counted marks marked one s h =
      let there = at_place vector entry.1 entry_place.1 in
      let e = there.0 in
      let at : slice_get vector entry.1 ≡ Some e = there.1 in
      let by_one = one e at in
      let ranked : entry.0 ≡ rank_of greatest e.value entry.1 = entry_place.0 ∙ ap (λ (o : Option (Item Num)). rank_of greatest (unwrap_or (option_map (λ x. x.value) o) NaN) entry.1) at in
      let before : unwrap_or (get labels_cmp seen (group_of by e)) 0 ≡ rank (order_toward greatest) by vector e = s.counts (group_of by e) ∙ seen_is_rank greatest by vector rising m ranks entry.0 entry.1 e ys next split at ranked in (
        rw (values_more ys entry) (seen_more vector by (values_of ys) entry.1 e seen counted at by_one.counted s),
        rw (values_more ys entry) (marks_more greatest k by vector (values_of ys) entry.1 e (is_within k (unwrap_or (get labels_cmp seen (group_of by e)) 0)) marks marked at entry_place.1 (ap (λ (n : ℕ). is_within k n) before) by_one.mark h),
      )
