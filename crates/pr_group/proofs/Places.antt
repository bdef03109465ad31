-- Places in lists of which one is set, or to which one is added.
use Rattle.std.proofs.Common.{◌≡◌, ℕ, zero, suc, ◌+◌, ◌<◌, ◌≤◌, ◌⊎◌, inl, inr, Bool, true, false, not, cond, List, [], ◌∷◌, ◌++◌, length, set, take, drop, fold, slice_get, Some, refl, ap, arith}
use Rattle.std.specs.List.{position_or_len}
use Rattle.std.proofs.lemmas.Option.{same_Some}

pub set_here : {A : Type 0} (xs : List A) (i : ℕ) (x : A) → i < length xs → slice_get (set xs i x) i ≡ Some x
set_here [] i x h = absurd (omega arith)
set_here (y ∷ xs) zero x h = refl
set_here (y ∷ xs) (suc i) x h = set_here xs i x (omega arith)

pub set_there : {A : Type 0} (xs : List A) (i j : ℕ) (x : A) → (i ≡ j → ⊥) → slice_get (set xs i x) j ≡ slice_get xs j
set_there [] i j x h = refl
set_there (y ∷ xs) zero zero x h = absurd (h refl)
set_there (y ∷ xs) zero (suc j) x h = refl
set_there (y ∷ xs) (suc i) zero x h = refl
set_there (y ∷ xs) (suc i) (suc j) x h = set_there xs i j x (λ e. h (ap suc e))

-- a place of a list with one more behind it
pub added_place : {A : Type 0} (xs : List A) (x y : A) (j : ℕ) → slice_get (xs ++ x ∷ []) j ≡ Some y → (slice_get xs j ≡ Some y) ⊎ ((j ≡ length xs) × (x ≡ y))
added_place [] x y zero h = inr (refl, same_Some x y h)
added_place [] x y (suc j) h = absurd (cc)
added_place (z ∷ xs) x y zero h = inl h
added_place (z ∷ xs) x y (suc j) h = by (added_place xs x y j h) where
  by : (slice_get xs j ≡ Some y) ⊎ ((j ≡ length xs) × (x ≡ y)) → (slice_get xs j ≡ Some y) ⊎ ((suc j ≡ suc (length xs)) × (x ≡ y))
  by (inl e) = inl e
  by (inr e) = inr (ap suc e.0, e.1)

-- what stands at a place within
pub place_there : {A : Type 0} (xs : List A) (i : ℕ) → i < length xs → (x : A) × (slice_get xs i ≡ Some x)
place_there [] i h = absurd (omega arith)
place_there (x ∷ xs) zero h = (x, refl)
place_there (x ∷ xs) (suc i) h = place_there xs i (omega arith)

pub none_within : {A : Type 0} (xs : List A) (i : ℕ) (x : A) → slice_get xs i ≡ Some x → i < length xs
none_within [] zero x h = absurd (cc)
none_within [] (suc i) x h = absurd (cc)
none_within (y ∷ xs) zero x h = omega arith
none_within (y ∷ xs) (suc i) x h = let rest : i < length xs = none_within xs i x h in omega arith

-- a fold over the first ones and the next
pub fold_next : {A B : Type 0} (f : B → A → B) (b : B) (xs : List A) (n : ℕ) (x : A) → slice_get xs n ≡ Some x → fold f b (take (suc n) xs) ≡ f (fold f b (take n xs)) x
fold_next f b [] zero x h = absurd (cc)
fold_next f b [] (suc n) x h = absurd (cc)
fold_next f b (y ∷ xs) zero x h = ap (f b) (same_Some y x h)
fold_next f b (y ∷ xs) (suc n) x h = fold_next f (f b y) xs n x h

-- The first that passes stands among the first ones, or past them in both lists.
pub first_or_past : {A : Type 0} (p : A → Bool) (xs ys : List A) → (position_or_len p xs < length xs) ⊎ ((length xs ≤ position_or_len p xs) × (length xs ≤ position_or_len p (xs ++ ys)))
first_or_past p [] ys = inr (omega arith, omega arith)
first_or_past p (x ∷ xs) ys = by (p x) (first_or_past p xs ys) where
  by : (b : Bool) → (position_or_len p xs < length xs) ⊎ ((length xs ≤ position_or_len p xs) × (length xs ≤ position_or_len p (xs ++ ys)))
      → (cond (not b) (1 + position_or_len p xs) 0 < length (x ∷ xs)) ⊎ ((length (x ∷ xs) ≤ cond (not b) (1 + position_or_len p xs) 0) × (length (x ∷ xs) ≤ cond (not b) (1 + position_or_len p (xs ++ ys)) 0))
  by true e = inl (omega arith)
  by false (inl h) = inl (omega arith)
  by false (inr h) = let low = h.0 in let high = h.1 in inr (omega arith, omega arith)

-- a place below the next one
pub below_or : (j n : ℕ) → j < n + 1 → (j < n) ⊎ (j ≡ n)
below_or zero zero h = inr refl
below_or zero (suc n) h = inl (omega arith)
below_or (suc j) zero h = absurd (omega arith)
below_or (suc j) (suc n) h = by (below_or j n (omega arith)) where
  by : (j < n) ⊎ (j ≡ n) → (suc j < suc n) ⊎ (suc j ≡ suc n)
  by (inl e) = inl (omega arith)
  by (inr e) = inr (ap suc e)

-- what goes on from a place
pub drop_next : {A : Type 0} (xs : List A) (n : ℕ) (x : A) → slice_get xs n ≡ Some x → drop n xs ≡ x ∷ drop (suc n) xs
drop_next [] zero x e = absurd (cc)
drop_next [] (suc n) x e = absurd (cc)
drop_next {A} (y ∷ xs) zero x e = ap (λ (z : A). z ∷ xs) (same_Some y x e)
drop_next (y ∷ xs) (suc n) x e = drop_next xs n x e

pub take_next : {A : Type 0} (xs : List A) (n : ℕ) (x : A) → slice_get xs n ≡ Some x → take (suc n) xs ≡ take n xs ++ x ∷ []
take_next [] zero x h = absurd (cc)
take_next [] (suc n) x h = absurd (cc)
take_next {A} (y ∷ xs) zero x h = ap (λ (z : A). z ∷ []) (same_Some y x h)
take_next {A} (y ∷ xs) (suc n) x h = ap (λ (l : List A). y ∷ l) (take_next xs n x h)
