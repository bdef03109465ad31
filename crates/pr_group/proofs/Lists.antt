-- Places in lists.
use Rattle.std.proofs.Common.{◌≡◌, ℕ, zero, suc, ◌+◌, ◌<◌, ◌≤◌, ◌||◌, Bool, true, false, not, cond, List, [], ◌∷◌, ◌++◌, length, slice_get, take, Some, None, refl, sym, ap, ◌∙◌, arith}
use Rattle.std.specs.List.{list_any, position_or_len}

pub some_same : {A : Type 0} (x y : A) → Some x ≡ Some y → x ≡ y
some_same x y e = cc

-- a place in the first part, and the one behind it
pub front_get : {A : Type 0} (xs ys : List A) (i : ℕ) (x : A) → slice_get xs i ≡ Some x → slice_get (xs ++ ys) i ≡ Some x
front_get [] ys zero x h = absurd (cc)
front_get [] ys (suc i) x h = absurd (cc)
front_get (z ∷ xs) ys zero x h = h
front_get (z ∷ xs) ys (suc i) x h = front_get xs ys i x h

pub seam_get : {A : Type 0} (xs : List A) (y : A) (ys : List A) → slice_get (xs ++ y ∷ ys) (length xs) ≡ Some y
seam_get [] y ys = refl
seam_get (x ∷ xs) y ys = seam_get xs y ys

-- nothing stands past the end
pub past_get : {A : Type 0} (xs : List A) (i : ℕ) → slice_get xs i ≡ None → length xs ≤ i
past_get [] i h = omega arith
past_get (x ∷ xs) zero h = absurd (cc)
past_get (x ∷ xs) (suc i) h = let rest : length xs ≤ i = past_get xs i h in omega arith

-- one of the first is one of all
pub or_true : (b : Bool) → (b || true) ≡ true
or_true true = refl
or_true false = refl

pub any_front : {A : Type 0} (p : A → Bool) (n : ℕ) (xs : List A) → list_any p (take n xs) ≡ true → list_any p xs ≡ true
any_front p zero xs h = absurd (cc)
any_front p (suc n) [] h = h
any_front p (suc n) (x ∷ xs) h = by (p x) h (λ k. any_front p n xs k) where
  by : (b : Bool) → (b || list_any p (take n xs)) ≡ true → (list_any p (take n xs) ≡ true → list_any p xs ≡ true) → (b || list_any p xs) ≡ true
  by true k more = refl
  by false k more = more k

-- The first that passes

pub first_within : {A : Type 0} (p : A → Bool) (xs : List A) → list_any p xs ≡ true → position_or_len p xs < length xs
first_within p [] h = absurd (cc)
first_within p (x ∷ xs) h = by (p x) h (λ k. first_within p xs k) where
  by : (b : Bool) → (b || list_any p xs) ≡ true → (list_any p xs ≡ true → position_or_len p xs < length xs) → cond (not b) (1 + position_or_len p xs) 0 < length (x ∷ xs)
  by true k more = omega arith
  by false k more = let rest : position_or_len p xs < length xs = more k in omega arith

pub first_passes : {A : Type 0} (p : A → Bool) (xs : List A) (x : A) → slice_get xs (position_or_len p xs) ≡ Some x → p x ≡ true
first_passes p [] x h = absurd (cc)
first_passes {A} p (y ∷ xs) x h = by (p y) refl h (λ k. first_passes p xs x k) where
  by : (b : Bool) → p y ≡ b → slice_get (y ∷ xs) (cond (not b) (1 + position_or_len p xs) 0) ≡ Some x → (slice_get xs (position_or_len p xs) ≡ Some x → p x ≡ true) → p x ≡ true
  by true e k more = let same : y ≡ x = some_same y x k in ap p (sym same) ∙ e
  by false e k more = let next : 1 + position_or_len p xs ≡ suc (position_or_len p xs) = omega arith in more (sym (ap (slice_get (y ∷ xs)) next) ∙ k)

pub first_stays : {A : Type 0} (p : A → Bool) (xs ys : List A) → position_or_len p xs < length xs → position_or_len p (xs ++ ys) ≡ position_or_len p xs
first_stays p [] ys h = absurd (omega arith)
first_stays p (x ∷ xs) ys h = by (p x) h (λ k. first_stays p xs ys k) where
  by : (b : Bool) → cond (not b) (1 + position_or_len p xs) 0 < length (x ∷ xs) → (position_or_len p xs < length xs → position_or_len p (xs ++ ys) ≡ position_or_len p xs)
      → cond (not b) (1 + position_or_len p (xs ++ ys)) 0 ≡ cond (not b) (1 + position_or_len p xs) 0
  by true k more = refl
  by false k more = ap (λ n. 1 + n) (more (omega arith))
