-- Facts on each element of a list that is put together.
use Rattle.std.proofs.Common.{◌≡◌, ℕ, zero, suc, ◌+◌, ◌<◌, ◌≤◌, ◌⊎◌, inl, inr, List, [], ◌∷◌, ◌++◌, length, slice_get, Some, refl, ap, subst, ◌∙◌, arith}
use Rattle.std.proofs.lemmas.Option.{slice_get_within}
use Rattle.pr_eval.specs.private.Each.{EachAt}

front_at : {A : Type 0} (xs ys : List A) (i : ℕ) (x : A) → slice_get xs i ≡ Some x → slice_get (xs ++ ys) i ≡ Some x
front_at [] ys i x h = cc
front_at (y ∷ xs) ys zero x h = h
front_at (y ∷ xs) ys (suc i) x h = front_at xs ys i x h

rest_at : {A : Type 0} (xs ys : List A) (i : ℕ) → slice_get (xs ++ ys) (length xs + i) ≡ slice_get ys i
rest_at [] ys i = let same : 0 + i ≡ i = omega arith in ap (slice_get ys) same
rest_at (y ∷ xs) ys i = let same : length (y ∷ xs) + i ≡ suc (length xs + i) = omega arith in ap (slice_get ((y ∷ xs) ++ ys)) same ∙ rest_at xs ys i

-- an element of both is one of the first, or one of the second
split_at : {A : Type 0} (xs ys : List A) (i : ℕ) (x : A) → slice_get (xs ++ ys) i ≡ Some x → (slice_get xs i ≡ Some x) ⊎ ((j : ℕ) × ((i ≡ length xs + j) × (slice_get ys j ≡ Some x)))
split_at [] ys i x h = inr (i, (omega arith, h))
split_at (y ∷ xs) ys zero x h = inl h
split_at (y ∷ xs) ys (suc i) x h = by (split_at xs ys i x h) where
  by : (slice_get xs i ≡ Some x) ⊎ ((j : ℕ) × ((i ≡ length xs + j) × (slice_get ys j ≡ Some x))) → (slice_get xs i ≡ Some x) ⊎ ((j : ℕ) × ((suc i ≡ length (y ∷ xs) + j) × (slice_get ys j ≡ Some x)))
  by (inl g) = inl g
  by (inr g) = let is : i ≡ length xs + g.0 = g.1.0 in inr (g.0, (omega (arith, is), g.1.1))

pub front_each : {A : Type 0} (P : ℕ → A → Type 0) (n : ℕ) (xs ys : List A) → EachAt P n (xs ++ ys) → EachAt P n xs
front_each P n xs ys h = λ i x e. h i x (front_at xs ys i x e)

pub rest_each : {A : Type 0} (P : ℕ → A → Type 0) (n m : ℕ) (xs ys : List A) → m ≡ n + length xs → EachAt P n (xs ++ ys) → EachAt P m ys
rest_each P n m xs ys is h = λ i x e.
    let same : n + (length xs + i) ≡ m + i = omega arith in subst (λ k. P k x) same (h (length xs + i) x (rest_at xs ys i ∙ e))

pub both_each : {A : Type 0} (P : ℕ → A → Type 0) (n m : ℕ) (xs ys : List A) → m ≡ n + length xs → EachAt P n xs → EachAt P m ys → EachAt P n (xs ++ ys)
both_each {A} P n m xs ys is first second = λ i x e. by i x (split_at xs ys i x e) where
  by : (i : ℕ) (x : A) → (slice_get xs i ≡ Some x) ⊎ ((j : ℕ) × ((i ≡ length xs + j) × (slice_get ys j ≡ Some x))) → P (n + i) x
  by i x (inl g) = first i x g
  by i x (inr g) = let at : i ≡ length xs + g.0 = g.1.0 in let same : m + g.0 ≡ n + i = omega (arith, at, is) in subst (λ k. P k x) same (second g.0 x g.1.1)

-- what follows of each element from its own fact, its place among them told
pub map_each : {A : Type 0} (P Q : ℕ → A → Type 0) (n : ℕ) (xs : List A) → ((k : ℕ) (x : A) → n ≤ k → k < n + length xs → P k x → Q k x) → EachAt P n xs → EachAt Q n xs
map_each P Q n xs f h = λ i x e.
    let within : i < length xs = slice_get_within xs i x e in f (n + i) x (omega arith) (omega (arith, within)) (h i x e)

-- one element, and none
pub first_of_one : {A : Type 0} (P : ℕ → A → Type 0) (n : ℕ) (x : A) → EachAt P n (x ∷ []) → P n x
first_of_one P n x h = let same : n + 0 ≡ n = omega arith in subst (λ k. P k x) same (h 0 x refl)

some_is : {A : Type 0} (x y : A) → Some x ≡ Some y → x ≡ y
some_is x y e = cc

no_some : {A : Type 0} (i : ℕ) (x : A) → slice_get [] i ≡ Some x → ⊥
no_some i x e = cc

pub one_each : {A : Type 0} (P : ℕ → A → Type 0) (n : ℕ) (x : A) → P n x → EachAt P n (x ∷ [])
one_each {A} P n x h = by where
  by : (i : ℕ) (y : A) → slice_get (x ∷ []) i ≡ Some y → P (n + i) y
  by zero y e = let same : n ≡ n + 0 = omega arith in subst (λ k. P k y) same (subst (P n) (some_is x y e) h)
  by (suc i) y e = absurd (no_some i y e)

pub none_each : {A : Type 0} (P : ℕ → A → Type 0) (n : ℕ) → EachAt P n []
none_each P n = λ i x e. absurd (no_some i x e)
