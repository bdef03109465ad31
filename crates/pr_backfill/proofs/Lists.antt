-- Lists, place by place.
use Rattle.std.proofs.Common.{◌≡◌, ℕ, zero, suc, ◌<◌, Bool, true, false, cond, List, [], ◌∷◌, ◌++◌, filter, length, map, slice_get, Some, refl, ap, arith}
use Rattle.std.specs.Prelude.{slice_set}
use Rattle.std.specs.List.{AllZip}

pub there_at : {A : Type 0} (xs : List A) (x : A) (ys : List A) (n : ℕ) → length xs ≡ n → slice_get (xs ++ x ∷ ys) n ≡ Some x
there_at [] x ys zero h = refl
there_at [] x ys (suc n) h = absurd (omega (arith, h))
there_at (y ∷ xs) x ys zero h = absurd (omega (arith, h))
there_at (y ∷ xs) x ys (suc n) h = there_at xs x ys n (omega (arith, h))

pub set_at : {A : Type 0} (xs : List A) (x y : A) (ys : List A) (n : ℕ) → length xs ≡ n → slice_set (xs ++ x ∷ ys) n y ≡ (xs ++ y ∷ []) ++ ys
set_at [] x y ys zero h = refl
set_at [] x y ys (suc n) h = absurd (omega (arith, h))
set_at (z ∷ xs) x y ys zero h = absurd (omega (arith, h))
set_at (z ∷ xs) x y ys (suc n) h = ap (λ l. z ∷ l) (set_at xs x y ys n (omega (arith, h)))

-- an element that is there
pub record IsThere {A : Type 0} (xs : List A) (n : ℕ) : Type 0 where
  pub element : A
  pub there : slice_get xs n ≡ Some element

pub there_within : {A : Type 0} (xs : List A) (n : ℕ) → n < length xs → IsThere xs n
there_within [] n h = absurd (omega arith)
there_within (x ∷ xs) zero h = record { element = x; there = refl }
there_within (x ∷ xs) (suc n) h = let t = there_within xs n (omega arith) in record { element = t.element; there = t.there }

pub as_many : {A B : Type 0} (R : A → B → Type 0) (xs : List A) (ys : List B) → AllZip R xs ys → length xs ≡ length ys
as_many R [] [] h = refl
as_many R [] (y ∷ ys) h = absurd h
as_many R (x ∷ xs) [] h = absurd h
as_many R (x ∷ xs) (y ∷ ys) h = ap suc (as_many R xs ys h.1)

-- what is kept by a test that looks at what each is mapped to
pub filter_map_as : {A B : Type 0} (f : A → B) (p : A → Bool) (q : B → Bool) → ((a : A) → p a ≡ q (f a)) → (xs : List A) → map f (filter p xs) ≡ filter q (map f xs)
filter_map_as f p q same [] = refl
filter_map_as {A} {B} f p q same (x ∷ xs) = by (p x) (q (f x)) (same x) (filter_map_as f p q same xs) where
  by : (b c : Bool) → b ≡ c → map f (filter p xs) ≡ filter q (map f xs) → map f (cond b (x ∷ filter p xs) (filter p xs)) ≡ cond c (f x ∷ filter q (map f xs)) (filter q (map f xs))
  by true true e h = ap (λ l. f x ∷ l) h
  by true false e h = absurd cc
  by false true e h = absurd cc
  by false false e h = h
