-- How ranks stand to each other, and to the elements.
use Rattle.std.proofs.Common.{◌≡◌, ℕ, zero, suc, ◌<◌, Bool, true, false, ℤ, neg_ℤ, ◌<ℤ◌, List, [], ◌∷◌, Some, refl, sym, ap, ◌∙◌, subst, arith, slice_get}
use Rattle.std.proofs.lemmas.Int.{ints}
use Rattle.std.specs.Cmp.{IsTotalOrder, nat_cmp_total, int_cmp_total, then_total, on_total, int_cmp_is}
use Rattle.std.proofs.lemmas.Cmp.{tied_itself, ranked as nat_ranked, int_ranked, by_ranked}
use Rattle.std.specs.Ordering.{MatchOrdering, nat_cmp, int_cmp, is_lt, ordering_then, ordering_reverse}
use Rattle.std.specs.declared.cmp.Ordering.{Ordering}
use Rattle.std.specs.declared.cmp.Ordering.TheVariants.{Less, Equal, Greater}
use Rattle.pr_num.specs.declared.value.Num.{Num}
use Rattle.pr_num.specs.declared.value.Num.TheVariants.{Finite, NaN, PosInf, NegInf}
use Rattle.pr_num.specs.Order.{order_of}
use Rattle.pr_window.specs.pr_labels.declared.pair.Pair.{Pair}
use Rattle.pr_window.specs.pr_labels.declared.item.Item.{Item}
use Rattle.pr_window.specs.pr_labels.Order.{labels_cmp}
use Rattle.pr_window.specs.pr_labels.Rising.{IsBelowFirstSet, IsRising}
use Rattle.pr_window.specs.spec_vectors.Vectors.{label_sets}
use Rattle.pr_window.specs.spec_vectors.Aggregation.{comes_before, greatest_first, least_first}
use Rattle.pr_window.proofs.LabelsLabelOrder.{labels_total}
use Rattle.pr_agg.specs.private.Firsts.{class_of, order_toward, rank_cmp, rank_of, ranked, units_of}

pub rank_total : IsTotalOrder rank_cmp
rank_total = then_total (on_total (λ r. r.class) nat_cmp_total) (then_total (on_total (λ r. r.units) int_cmp_total) (on_total (λ r. r.index) nat_cmp_total))

-- the least first, by class and units
least_keys : (a b : Num) → least_first a b ≡ ordering_then (nat_cmp (class_of a) (class_of b)) (int_cmp (units_of a) (units_of b))
unfolding order_of
least_keys NaN NaN = refl
least_keys NaN (Finite b) = refl
least_keys NaN PosInf = refl
least_keys NaN NegInf = refl
least_keys (Finite a) NaN = refl
least_keys PosInf NaN = refl
least_keys NegInf NaN = refl
least_keys (Finite a) (Finite b) = refl
least_keys (Finite a) PosInf = refl
least_keys (Finite a) NegInf = refl
least_keys PosInf (Finite b) = refl
least_keys PosInf PosInf = refl
least_keys PosInf NegInf = refl
least_keys NegInf (Finite b) = refl
least_keys NegInf PosInf = refl
least_keys NegInf NegInf = refl

-- the greatest first are the least first of the negated values
turned_match : (a b : ℤ) (r : Ordering) → MatchOrdering r (b <ℤ a) (b ≡ a) (a <ℤ b) → MatchOrdering r (neg_ℤ a <ℤ neg_ℤ b) (neg_ℤ a ≡ neg_ℤ b) (neg_ℤ b <ℤ neg_ℤ a)
turned_match a b Less h = omega (arith, ints)
turned_match a b Equal h = ap neg_ℤ (sym h)
turned_match a b Greater h = omega (arith, ints)

turned_ints : (a b : ℤ) → int_cmp b a ≡ int_cmp (neg_ℤ a) (neg_ℤ b)
turned_ints a b = int_cmp_is (neg_ℤ a) (neg_ℤ b) (int_cmp b a) (turned_match a b (int_cmp b a) (int_ranked b a (int_cmp b a) refl))

greatest_is_least : (a b : Num) → greatest_first a b ≡ least_first (ranked true a) (ranked true b)
unfolding order_of
greatest_is_least NaN NaN = refl
greatest_is_least NaN (Finite b) = refl
greatest_is_least NaN PosInf = refl
greatest_is_least NaN NegInf = refl
greatest_is_least (Finite a) NaN = refl
greatest_is_least PosInf NaN = refl
greatest_is_least NegInf NaN = refl
greatest_is_least (Finite a) (Finite b) = turned_ints a b
greatest_is_least (Finite a) PosInf = refl
greatest_is_least (Finite a) NegInf = refl
greatest_is_least PosInf (Finite b) = refl
greatest_is_least PosInf PosInf = refl
greatest_is_least PosInf NegInf = refl
greatest_is_least NegInf (Finite b) = refl
greatest_is_least NegInf PosInf = refl
greatest_is_least NegInf NegInf = refl

order_keys : (greatest : Bool) (a b : Num) → order_toward greatest a b ≡ ordering_then (nat_cmp (class_of (ranked greatest a)) (class_of (ranked greatest b))) (int_cmp (units_of (ranked greatest a)) (units_of (ranked greatest b)))
order_keys true a b = greatest_is_least a b ∙ least_keys (ranked true a) (ranked true b)
order_keys false a b = least_keys a b

then_again : (x y z : Ordering) → ordering_then x (ordering_then y z) ≡ ordering_then (ordering_then x y) z
then_again Less y z = refl
then_again Equal y z = refl
then_again Greater y z = refl

-- a vector's elements stand in label order
first_below : (a : List Pair) (vector : List (Item Num)) (j : ℕ) (b : Item Num) → IsBelowFirstSet a (label_sets vector) → IsRising (label_sets vector) → slice_get vector j ≡ Some b → labels_cmp a b.labels ≡ Less
first_below a [] j b h r s = cc
first_below a (x ∷ xs) zero b h r s = let same : x ≡ b = cc in subst (λ (y : Item Num). labels_cmp a y.labels ≡ Less) same h
first_below a (x ∷ xs) (suc j) b h r s = labels_total.trans a x.labels b.labels h (first_below x.labels xs j b r.0 r.1 s)

rising_less : (vector : List (Item Num)) (i j : ℕ) (a b : Item Num) → IsRising (label_sets vector) → i < j → slice_get vector i ≡ Some a → slice_get vector j ≡ Some b → labels_cmp a.labels b.labels ≡ Less
rising_less [] i j a b r lt s t = cc
rising_less (x ∷ xs) i zero a b r lt s t = absurd (omega arith)
rising_less (x ∷ xs) zero (suc j) a b r lt s t = let same : x ≡ a = cc in subst (λ (y : Item Num). labels_cmp y.labels b.labels ≡ Less) same (first_below x.labels xs j b r.0 r.1 t)
rising_less (x ∷ xs) (suc i) (suc j) a b r lt s t = rising_less xs i j a b r.1 (omega arith) s t

place_order : (vector : List (Item Num)) (i j : ℕ) (a b : Item Num) → IsRising (label_sets vector) → slice_get vector i ≡ Some a → slice_get vector j ≡ Some b → labels_cmp a.labels b.labels ≡ nat_cmp i j
place_order vector i j a b r s t =
    by_ranked (i < j) (i ≡ j) (j < i) (nat_cmp i j) (nat_ranked i j (nat_cmp i j) refl)
    (λ o lt. rising_less vector i j a b r lt s t ∙ sym o)
    (λ o e. subst (λ (y : Item Num). labels_cmp a.labels y.labels ≡ Equal) (same e) (tied_itself labels_total a.labels) ∙ sym o)
    (λ o gt. labels_total.antisymm a.labels b.labels ∙ ap ordering_reverse (rising_less vector j i b a r gt t s) ∙ sym o)
  where
    same : i ≡ j → a ≡ b
    same e = let both : Some a ≡ Some b = sym s ∙ ap (λ (k : ℕ). slice_get vector k) e ∙ t in cc

-- an element comes before another exactly where its rank is below
pub before_by_rank : (greatest : Bool) (vector : List (Item Num)) (i j : ℕ) (a b : Item Num) → IsRising (label_sets vector) → slice_get vector i ≡ Some a → slice_get vector j ≡ Some b
    → comes_before (order_toward greatest) a b ≡ is_lt (rank_cmp (rank_of greatest a.value i) (rank_of greatest b.value j))
before_by_rank greatest vector i j a b r s t =
    ap is_lt ((λ k. ordering_then (order_keys greatest a.value b.value k) (place_order vector i j a b r s t k))
    ∙ sym (then_again (nat_cmp (class_of (ranked greatest a.value)) (class_of (ranked greatest b.value))) (int_cmp (units_of (ranked greatest a.value)) (units_of (ranked greatest b.value))) (nat_cmp i j)))
