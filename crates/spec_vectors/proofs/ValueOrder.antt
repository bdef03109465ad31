-- The values in order are one list, which a sort gives.
use Rattle.std.proofs.Common.{◌≡◌, ℕ, ◌+◌, false, List, [], ◌∷◌, fold, refl, ap, ◌∙◌, arith}
use Rattle.std.proofs.lemmas.Cmp.{upto}
use Rattle.std.specs.List.{AllByRecursion, sum_by}
use Rattle.std.specs.List.Sorted.{IsPermutation, IsSorted}
use Rattle.std.specs.Ordering.{is_gt, ordering_reverse}
use Rattle.std.specs.declared.cmp.Ordering.{Ordering}
use Rattle.std.specs.declared.cmp.Ordering.TheVariants.{Less, Equal, Greater}
use Rattle.pr_num.specs.declared.value.Num.{Num}
use Rattle.pr_num.specs.Order.{order_of}
use Rattle.pr_num.proofs.Algebra.{order_is_total, order_tells_apart}
use Rattle.spec_history.proofs.LabelsSorted.{IsUp, sorted_is, sum_cons}
use Rattle.spec_vectors.specs.Aggregation.{in_value_order, value_placed, with_placed}

-- one value put in its place
all_put : (P : Num → Type 0) (v : Num) (zs : List Num) → P v → AllByRecursion P zs → AllByRecursion P (with_placed order_of zs v)
all_put P v [] h a = (h, tt)
all_put P v (z ∷ zs) h a = by_order (order_of v z) (all_put P v zs h a.1) where
  by_order : (o : Ordering) → AllByRecursion P (with_placed order_of zs v) → AllByRecursion P (value_placed o v z zs (with_placed order_of zs v))
  by_order Less more = (h, a)
  by_order Equal more = (a.0, more)
  by_order Greater more = (a.0, more)

all_behind : (v z : Num) (zs : List Num) → is_gt (order_of v z) ≡ false → AllByRecursion (λ y. is_gt (order_of z y) ≡ false) zs → AllByRecursion (λ y. is_gt (order_of v y) ≡ false) zs
all_behind v z [] h a = tt
all_behind v z (y ∷ ys) h a = (upto order_is_total v z y h a.0, all_behind v z ys h a.1)

up_put : (v : Num) (zs : List Num) → IsUp order_of zs → IsUp order_of (with_placed order_of zs v)
up_put v [] u = (tt, tt)
up_put v (z ∷ zs) u = by_order (order_of v z) refl (up_put v zs u.1) where
  turned : (o : Ordering) → is_gt (ordering_reverse o) ≡ false → order_of v z ≡ o → is_gt (order_of z v) ≡ false
  turned o h e = ap is_gt (order_is_total.antisymm z v ∙ ap ordering_reverse e) ∙ h

  by_order : (o : Ordering) → order_of v z ≡ o → IsUp order_of (with_placed order_of zs v) → IsUp order_of (value_placed o v z zs (with_placed order_of zs v))
  by_order Less e more = ((ap is_gt e, all_behind v z zs (ap is_gt e) u.0), u)
  by_order Equal e more = (all_put (λ y. is_gt (order_of z y) ≡ false) v zs (turned Equal refl e) u.0, more)
  by_order Greater e more = (all_put (λ y. is_gt (order_of z y) ≡ false) v zs (turned Greater refl e) u.0, more)

up_fold : (xs zs : List Num) → IsUp order_of zs → IsUp order_of (fold (with_placed order_of) zs xs)
up_fold [] zs u = u
up_fold (x ∷ xs) zs u = up_fold xs (with_placed order_of zs x) (up_put x zs u)

sum_put : (f : Num → ℕ) (v : Num) (zs : List Num) → sum_by f (with_placed order_of zs v) ≡ f v + sum_by f zs
sum_put f v [] = sum_cons f v []
sum_put f v (z ∷ zs) = by_order (order_of v z) (sum_put f v zs) where
  by_order : (o : Ordering) → sum_by f (with_placed order_of zs v) ≡ f v + sum_by f zs → sum_by f (value_placed o v z zs (with_placed order_of zs v)) ≡ f v + sum_by f (z ∷ zs)
  by_order Less more = sum_cons f v (z ∷ zs)
  by_order Equal more = omega (arith, more, sum_cons f z (with_placed order_of zs v), sum_cons f z zs)
  by_order Greater more = omega (arith, more, sum_cons f z (with_placed order_of zs v), sum_cons f z zs)

sum_fold : (f : Num → ℕ) (xs zs : List Num) → sum_by f (fold (with_placed order_of) zs xs) ≡ sum_by f zs + sum_by f xs
sum_fold f [] zs = omega arith
sum_fold f (x ∷ xs) zs = omega (arith, sum_fold f xs (with_placed order_of zs x), sum_put f x zs, sum_cons f x xs)

same_sum : (f : Num → ℕ) (xs : List Num) → sum_by f (in_value_order order_of xs) ≡ sum_by f xs
same_sum f xs = omega (arith, sum_fold f xs [])

pub sorted_in_order : (xs ys : List Num) → IsPermutation xs ys → IsSorted order_of ys → ys ≡ in_value_order order_of xs
sorted_in_order xs ys p s =
    sorted_is order_of order_is_total (λ x y e. (order_tells_apart x y).0 e) (in_value_order order_of xs) ys xs p s (up_fold xs [] tt) (λ f. same_sum f xs)
