-- Sums of weights over sorted lists: they tell the list, and what stands before an entry.
use Rattle.std.proofs.Common.{◌≡◌, ℕ, suc, ◌+◌, ◌<◌, ◌≤◌, Bool, true, false, cond, List, [], ◌∷◌, ◌++◌, length, get_or, slice_get, Some, refl, sym, ap, ◌∙◌, subst, arith}
use Rattle.std.proofs.lemmas.List.Sums.{sum_by-append}
use Rattle.std.proofs.lemmas.List.Sorted.{ranks_by, sorted_far, sum_by-IsPermutation}
use Rattle.std.proofs.lemmas.Cmp.{tied_itself}
use Rattle.std.proofs.lemmas.Map.Keys.{sorted_head, sorted_tail}
use Rattle.std.specs.Cmp.{IsTotalOrder}
use Rattle.std.specs.List.{AllByRecursion, sum_by}
use Rattle.std.specs.List.Sorted.{IsPermutation, IsSorted, IsStrictlySortedBy}
use Rattle.std.specs.Map.{keys_of, values_of}
use Rattle.std.specs.Ordering.{is_eq, is_gt, is_lt, ordering_reverse}
use Rattle.std.specs.declared.cmp.Ordering.{Ordering}
use Rattle.std.specs.declared.cmp.Ordering.TheVariants.{Less, Equal, Greater}

pub sum_cons : {X : Type 0} (f : X → ℕ) (x : X) (xs : List X) → sum_by f (x ∷ xs) ≡ f x + sum_by f xs
sum_cons f x xs = omega (arith, sum_by-append f (x ∷ []) xs)

-- each value is at most those behind it
abbrev pub IsUp : {X : Type 0} → (X → X → Ordering) → List X → Type 0
IsUp cmp [] = Unit {0}
IsUp cmp (x ∷ xs) = AllByRecursion (λ y. is_gt (cmp x y) ≡ false) xs × IsUp cmp xs

all_from : {X : Type 0} (P : X → Type 0) (xs : List X) → ((k : ℕ) (d : X) → k < length xs → P (get_or xs k d)) → AllByRecursion P xs
all_from P [] h = tt
all_from P (x ∷ xs) h = (h 0 x (omega arith), all_from P xs (λ k d lt. h (suc k) d (omega arith)))

pub equal_of : (o : Ordering) → is_eq o ≡ true → o ≡ Equal
equal_of Less h = cc
equal_of Equal h = refl
equal_of Greater h = cc

both_ways : (o : Ordering) → is_gt o ≡ false → is_gt (ordering_reverse o) ≡ false → o ≡ Equal
both_ways Less h k = cc
both_ways Equal h k = refl
both_ways Greater h k = cc

turned_gt : (o : Ordering) → is_lt o ≡ false → is_gt (ordering_reverse o) ≡ false
turned_gt Less h = cc
turned_gt Equal h = refl
turned_gt Greater h = refl

module _ {X : Type 0} (cmp : X → X → Ordering) (total : IsTotalOrder cmp) where
  gt_from : (x y : X) → is_lt (cmp y x) ≡ false → is_gt (cmp x y) ≡ false
  gt_from x y h = ap is_gt (total.antisymm x y) ∙ turned_gt (cmp y x) h

  up_from : (xs : List X) → ((i j : ℕ) (d : X) → i ≤ j → j < length xs → is_lt (cmp (get_or xs j d) (get_or xs i d)) ≡ false) → IsUp cmp xs
  up_from [] h = tt
  up_from (x ∷ xs) h = (
    all_from (λ y. is_gt (cmp x y) ≡ false) xs (λ k d lt. gt_from x (get_or xs k d) (h 0 (suc k) d (omega arith) (omega arith))),
    up_from xs (λ i j d le lt. h (suc i) (suc j) d (omega arith) (omega arith)),
  )

  -- what a sort ensures
  pub sorted_up : (xs : List X) → IsSorted cmp xs → IsUp cmp xs
  sorted_up xs s = up_from xs (λ i j d le lt. sorted_far (λ x y. is_lt (cmp x y)) (ranks_by total (λ x. x)) xs s i j d le lt)

module _ {X : Type 0} (cmp : X → X → Ordering) (total : IsTotalOrder cmp) (tells : (x y : X) → cmp x y ≡ Equal → x ≡ y) where
  -- a value that occurs has what all have
  occurs : (P : X → Type 0) (x : X) (zs : List X) → AllByRecursion P zs → 1 ≤ sum_by (λ z. cond (is_eq (cmp z x)) 1 0) zs → P x
  occurs P x [] a h = absurd (omega arith)
  occurs P x (z ∷ zs) a h = by_test (is_eq (cmp z x)) refl (subst (λ (n : ℕ). 1 ≤ n) (sum_cons (λ z. cond (is_eq (cmp z x)) 1 0) z zs) h) (occurs P x zs a.1) where
    by_test : (b : Bool) → is_eq (cmp z x) ≡ b → 1 ≤ cond b 1 0 + sum_by (λ z. cond (is_eq (cmp z x)) 1 0) zs → (1 ≤ sum_by (λ z. cond (is_eq (cmp z x)) 1 0) zs → P x) → P x
    by_test true e g more = subst P (tells z x (equal_of (cmp z x) e)) a.0
    by_test false e g more = more (omega arith)

  itself_counted : (x : X) (xs : List X) → 1 ≤ sum_by (λ z. cond (is_eq (cmp z x)) 1 0) (x ∷ xs)
  itself_counted x xs =
      let one : ◌≡◌ {A = ℕ} (cond (is_eq (cmp x x)) 1 0) 1 = ap (λ (o : Ordering). cond (is_eq o) 1 0) (tied_itself total x) in
      omega (arith, one, sum_cons (λ z. cond (is_eq (cmp z x)) 1 0) x xs)

  least_first_of : (x y : X) (ys : List X) → IsUp cmp (y ∷ ys) → 1 ≤ sum_by (λ z. cond (is_eq (cmp z x)) 1 0) (y ∷ ys) → is_gt (cmp y x) ≡ false
  least_first_of x y ys u h = occurs (λ z. is_gt (cmp y z) ≡ false) x (y ∷ ys) (ap is_gt (tied_itself total y), u.0) h

  -- two sorted lists with equal sums of every weight are one
  pub same_sums : (xs ys : List X) → IsUp cmp xs → IsUp cmp ys → ((f : X → ℕ) → sum_by f xs ≡ sum_by f ys) → xs ≡ ys
  same_sums [] [] u v h = refl
  same_sums [] (y ∷ ys) u v h = absurd (omega (arith, h (λ z. cond (is_eq (cmp z y)) 1 0), itself_counted y ys))
  same_sums (x ∷ xs) [] u v h = absurd (omega (arith, h (λ z. cond (is_eq (cmp z x)) 1 0), itself_counted x xs))
  same_sums (x ∷ xs) (y ∷ ys) u v h =
      let below : is_gt (cmp x y) ≡ false = least_first_of y x xs u (omega (arith, h (λ z. cond (is_eq (cmp z y)) 1 0), itself_counted y ys)) in
      let above : is_gt (cmp y x) ≡ false = least_first_of x y ys v (omega (arith, h (λ z. cond (is_eq (cmp z x)) 1 0), itself_counted x xs)) in
      let same : x ≡ y = tells x y (both_ways (cmp x y) below (ap is_gt (sym (total.antisymm y x)) ∙ above)) in
      λ j. same j ∷ same_sums xs ys u.1 v.1 (λ f. omega (arith, h f, sum_cons f x xs, sum_cons f y ys, ap f same)) j

  -- the sorted list of some values is one
  pub sorted_is : (xs ys zs : List X) → IsPermutation zs ys → IsSorted cmp ys → IsUp cmp xs → ((f : X → ℕ) → sum_by f xs ≡ sum_by f zs) → ys ≡ xs
  sorted_is xs ys zs p s u h = same_sums ys xs (sorted_up cmp total ys s) u (λ f. sum_by-IsPermutation f zs ys p ∙ sym (h f))

-- of the entries behind one none is below it
not_below : {K : Type 0} (cmp : K → K → Ordering) (total : IsTotalOrder cmp) (r s : K) → cmp r s ≡ Less → is_lt (cmp s r) ≡ false
not_below cmp total r s h = ap is_lt (total.antisymm s r ∙ ap ordering_reverse h)

module _ {K V : Type 0} (cmp : K → K → Ordering) (total : IsTotalOrder cmp) where
  none_behind : (f g : V → ℕ) (r : K) (t : List (K × V)) → AllByRecursion (λ s. cmp r s ≡ Less) (keys_of t)
      → ((j : ℕ) (e : K × V) → slice_get t j ≡ Some e → f e.1 ≡ cond (is_lt (cmp e.0 r)) (g e.1) 0) → sum_by f (values_of t) ≡ 0
  none_behind f g r [] a h = refl
  none_behind f g r (e ∷ t) a h =
      sum_cons f e.1 (values_of t)
      ∙ (λ k. (h 0 e refl ∙ ap (λ (b : Bool). cond b (g e.1) 0) (not_below cmp total r e.0 a.0)) k + none_behind f g r t a.1 (λ j x s. h (suc j) x s) k)

  head_below : (y r : K) (v : V) (ys t : List (K × V)) → AllByRecursion (λ s. cmp y s ≡ Less) (keys_of (ys ++ (r, v) ∷ t)) → cmp y r ≡ Less
  head_below y r v [] t a = a.0
  head_below y r v (x ∷ ys) t a = head_below y r v ys t a.1

  -- what weighs only below an entry weighs before it
  pub before_entry : (f g : V → ℕ) (r : K) (v : V) (ys t : List (K × V)) → IsStrictlySortedBy cmp (keys_of (ys ++ (r, v) ∷ t))
      → ((j : ℕ) (e : K × V) → slice_get (ys ++ (r, v) ∷ t) j ≡ Some e → f e.1 ≡ cond (is_lt (cmp e.0 r)) (g e.1) 0)
      → sum_by f (values_of (ys ++ (r, v) ∷ t)) ≡ sum_by g (values_of ys)
  before_entry f g r v [] t s h =
      sum_cons f v (values_of t)
      ∙ (λ k. (h 0 (r, v) refl ∙ ap (λ (o : Ordering). cond (is_lt o) (g v) 0) (tied_itself total r)) k
      + none_behind f g r t (sorted_head cmp r (keys_of t) s) (λ j x e. h (suc j) x e) k)
  before_entry f g r v (y ∷ ys) t s h =
      sum_cons f y.1 (values_of (ys ++ (r, v) ∷ t))
      ∙ (λ k. (h 0 y refl ∙ ap (λ (o : Ordering). cond (is_lt o) (g y.1) 0) (head_below y.0 r v ys t (sorted_head cmp y.0 (keys_of (ys ++ (r, v) ∷ t)) s))) k
      + before_entry f g r v ys t (sorted_tail cmp y.0 (keys_of (ys ++ (r, v) ∷ t)) s) (λ j x e. h (suc j) x e) k)
      ∙ sym (sum_cons g y.1 (values_of ys))
