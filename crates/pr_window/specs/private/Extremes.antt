-- The greatest and the least value as summaries: the first of two in an order. Values need no
-- bound, so that none weighs anything.
use Rattle.std.specs.Prelude.{◌≡◌, ℕ, ◌+◌, ◌≤◌, Bool, true, false, cond}
use Rattle.std.proofs.Common.{arith, refl, sym, ap, ◌∙◌}
use Rattle.std.proofs.lemmas.Cmp.{upto}
use Rattle.std.specs.Cmp.{IsTotalOrder, back_total, nat_cmp_total, on_total, then_total}
use Rattle.std.specs.Ordering.{is_gt, is_lt, ord_min, ordering_reverse}
use Rattle.std.specs.declared.cmp.Ordering.{Ordering}
use Rattle.std.specs.declared.cmp.Ordering.TheVariants.{Less, Equal, Greater}
use Rattle.pr_num.specs.declared.value.Num.{Num}
use Rattle.spec_vectors.specs.spec_history.declared.spot.Spot.{Spot}
use Rattle.pr_num.proofs.Algebra.{order_is_total}
use Rattle.spec_vectors.specs.Aggregation.{greatest_first, least_first, nan_class}

-- a value alone
abbrev pub value_alone : Spot → Num
value_alone s = s.value

-- the greater and the lesser of two values, and the other one where one is NaN
abbrev pub greater : Num → Num → Num
greater a b = ord_min greatest_first a b

abbrev pub lesser : Num → Num → Num
lesser a b = ord_min least_first a b

abbrev pub no_weight : Num → ℕ
no_weight v = 0

pub alone_weightless : (s : Spot) → no_weight (value_alone s) ≤ 1
alone_weightless s = omega arith

pub greater_weightless : (a b : Num) → no_weight (greater a b) ≤ no_weight a + no_weight b
greater_weightless a b = omega arith

pub lesser_weightless : (a b : Num) → no_weight (lesser a b) ≤ no_weight a + no_weight b
lesser_weightless a b = omega arith

pub greatest_total : IsTotalOrder greatest_first
greatest_total = back_total order_is_total

pub least_total : IsTotalOrder least_first
least_total = then_total (on_total nan_class nat_cmp_total) order_is_total

less_of : (o : Ordering) → is_lt o ≡ true → o ≡ Less
less_of Less h = refl
less_of Equal h = cc
less_of Greater h = cc

turned : (o : Ordering) → is_gt (ordering_reverse o) ≡ is_lt o
turned Less = refl
turned Equal = refl
turned Greater = refl

module _ (order : Num → Num → Ordering) (total : IsTotalOrder order) where
  above : (a b : Num) → is_gt (order a b) ≡ is_lt (order b a)
  above a b = ap is_gt (total.antisymm a b) ∙ turned (order b a)

  below_both : (a b c : Num) → is_lt (order b a) ≡ true → is_lt (order c b) ≡ true → is_lt (order c a) ≡ true
  below_both a b c h k = ap is_lt (total.trans c b a (less_of (order c b) k) (less_of (order b a) h))

  below_none : (a b c : Num) → is_lt (order b a) ≡ false → is_lt (order c b) ≡ false → is_lt (order c a) ≡ false
  below_none a b c h k = sym (above a c) ∙ upto total a b c (above a b ∙ h) (above b c ∙ k)

  pub first_assoc : (a b c : Num) → ord_min order (ord_min order a b) c ≡ ord_min order a (ord_min order b c)
  first_assoc a b c = by_tests (is_lt (order b a)) (is_lt (order c b)) refl refl where
    by_tests : (p q : Bool) → is_lt (order b a) ≡ p → is_lt (order c b) ≡ q → ord_min order (cond p b a) c ≡ ord_min order a (cond q c b)
    by_tests true true h k = ap (λ (t : Bool). cond t c b) k ∙ sym (ap (λ (t : Bool). cond t c a) (below_both a b c h k))
    by_tests true false h k = ap (λ (t : Bool). cond t c b) k ∙ sym (ap (λ (t : Bool). cond t b a) h)
    by_tests false true h k = refl
    by_tests false false h k = ap (λ (t : Bool). cond t c a) (below_none a b c h k) ∙ sym (ap (λ (t : Bool). cond t b a) h)

pub greater_assoc : (a b c : Num) → greater (greater a b) c ≡ greater a (greater b c)
greater_assoc = first_assoc greatest_first greatest_total

pub lesser_assoc : (a b c : Num) → lesser (lesser a b) c ≡ lesser a (lesser b c)
lesser_assoc = first_assoc least_first least_total
