-- Laws of sums, products, the order and totals.
use Rattle.std.proofs.Common.{◌≡◌, ◌≢◌, ◌↔◌, ℕ, ℤ, pos, ◌^◌, List, [], ◌∷◌, ◌++◌, sym, ◌∙◌, ap, refl, arith, IfSome}
use Rattle.std.proofs.Math.IntN.{*ℤ_comm, +ℤ_comm}
use Rattle.std.proofs.lemmas.Int.{ints}
use Rattle.std.proofs.lemmas.Cmp.{int_cmp_total, nat_cmp_total, then_total, on_total}
use Rattle.std.proofs.lemmas.List.Sorted.{ranks_by}
use Rattle.std.specs.Cmp.{IsStrictWeakOrder, IsTotalOrder, signed_Decides}
use Rattle.std.specs.Ordering.{int_cmp, nat_cmp, then_cmp, on, ordering_reverse, is_eq, is_lt}
use Rattle.std.specs.declared.cmp.Ordering.{Ordering}
use Rattle.std.specs.declared.cmp.Ordering.TheVariants.{Equal, Greater}
use Rattle.pr_num.specs.declared.value.Num.{Num}
use Rattle.pr_num.specs.declared.value.Num.TheVariants.{Finite, NaN, PosInf, NegInf}
use Rattle.pr_num.specs.Half.{half}
use Rattle.pr_num.specs.Arithmetic.{fitted, sum_of, product_of}
use Rattle.pr_num.specs.Order.{compared, order_of}
use Rattle.pr_num.specs.Total.{Tally, joined, no_values, one_value, total_of}

pub sum_commutes : (a b : Num) → sum_of a b ≡ sum_of b a
unfolding sum_of
sum_commutes (Finite a) (Finite b) = ap fitted (+ℤ_comm a b)
sum_commutes (Finite a) NaN = refl
sum_commutes (Finite a) PosInf = refl
sum_commutes (Finite a) NegInf = refl
sum_commutes NaN (Finite b) = refl
sum_commutes NaN NaN = refl
sum_commutes NaN PosInf = refl
sum_commutes NaN NegInf = refl
sum_commutes PosInf (Finite b) = refl
sum_commutes PosInf NaN = refl
sum_commutes PosInf PosInf = refl
sum_commutes PosInf NegInf = refl
sum_commutes NegInf (Finite b) = refl
sum_commutes NegInf NaN = refl
sum_commutes NegInf PosInf = refl
sum_commutes NegInf NegInf = refl

pub product_commutes : (a b : Num) → product_of a b ≡ product_of b a
unfolding product_of
product_commutes (Finite a) (Finite b) = ap (λ (z : ℤ). fitted (half z (pos (10 ^ 9)))) (*ℤ_comm a b)
product_commutes (Finite a) NaN = refl
product_commutes (Finite a) PosInf = refl
product_commutes (Finite a) NegInf = refl
product_commutes NaN (Finite b) = refl
product_commutes NaN NaN = refl
product_commutes NaN PosInf = refl
product_commutes NaN NegInf = refl
product_commutes PosInf (Finite b) = refl
product_commutes PosInf NaN = refl
product_commutes PosInf PosInf = refl
product_commutes PosInf NegInf = refl
product_commutes NegInf (Finite b) = refl
product_commutes NegInf NaN = refl
product_commutes NegInf PosInf = refl
product_commutes NegInf NegInf = refl

-- which kind a value is, from below
kind : Num → ℕ
kind NaN = 0
kind NegInf = 1
kind (Finite a) = 2
kind PosInf = 3

units : Num → ℤ
units (Finite a) = a
units NaN = pos 0
units PosInf = pos 0
units NegInf = pos 0

-- the order is that of the kinds, and then of the units
order-by : (a b : Num) → order_of a b ≡ then_cmp (on kind nat_cmp) (on units int_cmp) a b
unfolding kind units order_of
order-by (Finite a) (Finite b) = refl
order-by (Finite a) NaN = refl
order-by (Finite a) PosInf = refl
order-by (Finite a) NegInf = refl
order-by NaN (Finite b) = refl
order-by NaN NaN = refl
order-by NaN PosInf = refl
order-by NaN NegInf = refl
order-by PosInf (Finite b) = refl
order-by PosInf NaN = refl
order-by PosInf PosInf = refl
order-by PosInf NegInf = refl
order-by NegInf (Finite b) = refl
order-by NegInf NaN = refl
order-by NegInf PosInf = refl
order-by NegInf NegInf = refl

-- the same order by another definition
total-along : (R S : Num → Num → Ordering) → ((a b : Num) → S a b ≡ R a b) → IsTotalOrder R → IsTotalOrder S
total-along R S e o = record {
  antisymm = λ x y. e x y ∙ o.antisymm x y ∙ ap ordering_reverse (sym (e y x));
  trans = λ x y z p q. e x z ∙ o.trans x y z (sym (e x y) ∙ p) (sym (e y z) ∙ q);
  congr = λ x y z p. e x z ∙ o.congr x y z (sym (e x y) ∙ p) ∙ sym (e y z);
}

pub order_is_total : IsTotalOrder order_of
order_is_total = total-along (then_cmp (on kind nat_cmp) (on units int_cmp)) order_of order-by (then_total (on_total kind nat_cmp_total) (on_total units int_cmp_total))

equal_itself : (a : ℤ) → int_cmp a a ≡ Equal
equal_itself a = grind (arith, ints)

-- what a sort by `order` asks
pub order_ranks : IsStrictWeakOrder (λ (a b : Num). is_lt (order_of a b))
order_ranks = ranks_by order_is_total (λ v. v)

pub order_tells_apart : (a b : Num) → (order_of a b ≡ Equal) ↔ (a ≡ b)
unfolding order_of
order_tells_apart (Finite a) (Finite b) = (λ e. ap (λ (z : ℤ). Finite z) ((signed_Decides a b).0 (ap is_eq e)), λ e. let same : a ≡ b = cc in ap (int_cmp a) (sym same) ∙ equal_itself a)
order_tells_apart (Finite a) NaN = (λ e. cc, λ e. cc)
order_tells_apart (Finite a) PosInf = (λ e. cc, λ e. cc)
order_tells_apart (Finite a) NegInf = (λ e. cc, λ e. cc)
order_tells_apart NaN (Finite b) = (λ e. cc, λ e. cc)
order_tells_apart NaN NaN = (λ e. refl, λ e. refl)
order_tells_apart NaN PosInf = (λ e. cc, λ e. cc)
order_tells_apart NaN NegInf = (λ e. cc, λ e. cc)
order_tells_apart PosInf (Finite b) = (λ e. cc, λ e. cc)
order_tells_apart PosInf NaN = (λ e. cc, λ e. cc)
order_tells_apart PosInf PosInf = (λ e. refl, λ e. refl)
order_tells_apart PosInf NegInf = (λ e. cc, λ e. cc)
order_tells_apart NegInf (Finite b) = (λ e. cc, λ e. cc)
order_tells_apart NegInf NaN = (λ e. cc, λ e. cc)
order_tells_apart NegInf PosInf = (λ e. cc, λ e. cc)
order_tells_apart NegInf NegInf = (λ e. refl, λ e. refl)

pub nan_is_first : (b : Num) → order_of NaN b ≢ Greater
unfolding order_of
nan_is_first (Finite b) = λ e. cc
nan_is_first NaN = λ e. cc
nan_is_first PosInf = λ e. cc
nan_is_first NegInf = λ e. cc

pub order_agrees : (a b : Num) → IfSome (compared a b) (λ o. order_of a b ≡ o)
unfolding compared order_of
order_agrees (Finite a) (Finite b) = refl
order_agrees (Finite a) NaN = tt
order_agrees (Finite a) PosInf = refl
order_agrees (Finite a) NegInf = refl
order_agrees NaN (Finite b) = tt
order_agrees NaN NaN = tt
order_agrees NaN PosInf = tt
order_agrees NaN NegInf = tt
order_agrees PosInf (Finite b) = refl
order_agrees PosInf NaN = tt
order_agrees PosInf PosInf = refl
order_agrees PosInf NegInf = refl
order_agrees NegInf (Finite b) = refl
order_agrees NegInf NaN = tt
order_agrees NegInf PosInf = refl
order_agrees NegInf NegInf = refl

tally : ℤ → ℕ → ℕ → ℕ → ℕ → Tally
tally u c n p m = record { units = u; count = c; nans = n; pos_infs = p; neg_infs = m }

tally-cong : (u u' : ℤ) (c c' n n' p p' m m' : ℕ) → u ≡ u' → c ≡ c' → n ≡ n' → p ≡ p' → m ≡ m' → tally u c n p m ≡ tally u' c' n' p' m'
tally-cong u u' c c' n n' p p' m m' hu hc hn hp hm = cc

-- two tallies with equal parts
tally-equal : (a b : Tally) → a.units ≡ b.units → a.count ≡ b.count → a.nans ≡ b.nans → a.pos_infs ≡ b.pos_infs → a.neg_infs ≡ b.neg_infs → a ≡ b
unfolding tally
tally-equal a b u c n p m = tally-cong a.units b.units a.count b.count a.nans b.nans a.pos_infs b.pos_infs a.neg_infs b.neg_infs u c n p m

pub joined_groups : (a b c : Tally) → joined (joined a b) c ≡ joined a (joined b c)
joined_groups a b c = tally-equal (joined (joined a b) c) (joined a (joined b c)) (omega (arith, ints)) (omega arith) (omega arith) (omega arith) (omega arith)

pub nothing_joined_left : (a : Tally) → joined no_values a ≡ a
nothing_joined_left a = tally-equal (joined no_values a) a (omega (arith, ints)) (omega arith) (omega arith) (omega arith) (omega arith)

pub nothing_joined_right : (a : Tally) → joined a no_values ≡ a
nothing_joined_right a = tally-equal (joined a no_values) a (omega (arith, ints)) (omega arith) (omega arith) (omega arith) (omega arith)

pub joined_lists : (xs ys : List Num) → total_of (xs ++ ys) ≡ joined (total_of xs) (total_of ys)
joined_lists [] ys = sym (nothing_joined_left (total_of ys))
joined_lists (x ∷ xs) ys = ap (joined (one_value x)) (joined_lists xs ys) ∙ sym (joined_groups (one_value x) (total_of xs) (total_of ys))
