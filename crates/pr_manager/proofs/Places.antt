-- Places in lists.
use Rattle.std.proofs.Common.{◌≡◌, ℕ, zero, suc, ◌+◌, Bool, true, false, cond, List, [], ◌∷◌, Option, Some, None, slice_get, get_or, refl, sym, ap, subst, ◌∙◌, arith}
use Rattle.std.specs.Prelude.{find, slice_set}
use Rattle.std.specs.List.{AllZip}
use Rattle.std.specs.Option.{option_map}
use Rattle.pr_manager.specs.private.Finding.{place_of}

-- A list of which one element stands at a place, and is the first that passes a test.
pub record IsFirstAt {A : Type 0} (test : A → Bool) (xs : List A) (i : ℕ) : Type 0 where
  pub item : A
  pub at : slice_get xs i ≡ Some item
  pub passes : test item ≡ true
  pub found : find test xs ≡ Some item

pub some_is : (o : Option ℕ) (i : ℕ) → option_map suc o ≡ Some i → (j : ℕ) × (o ≡ Some j) × (i ≡ suc j)
some_is None i h = absurd cc
some_is (Some j) i h = (j, refl, cc)

pub first_at : {A : Type 0} (test : A → Bool) (xs : List A) (i : ℕ) → place_of test xs ≡ Some i → IsFirstAt test xs i
first_at test [] i h = absurd cc
first_at {A} test (x ∷ xs) i h = by (test x) refl h (first_at test xs) where
  by : (b : Bool) → test x ≡ b → cond b (Some 0) (option_map suc (place_of test xs)) ≡ Some i → ((j : ℕ) → place_of test xs ≡ Some j → IsFirstAt test xs j) → IsFirstAt test (x ∷ xs) i
  by true t k again =
      let zero_is : 0 ≡ i = cc in
      subst (λ n. IsFirstAt test (x ∷ xs) n) zero_is (record { item = x; at = refl; passes = t; found = ap (λ b. cond b (Some x) (find test xs)) t })
  by false t k again =
      let it = some_is (place_of test xs) i k in
      let rest = again it.0 it.1 in
      subst (λ n. IsFirstAt test (x ∷ xs) n) (sym it.2)
      (record { item = rest.item; at = rest.at; passes = rest.passes; found = ap (λ b. cond b (Some x) (find test xs)) t ∙ rest.found })

none_is : (o : Option ℕ) → option_map suc o ≡ None → o ≡ None
none_is None h = refl
none_is (Some j) h = absurd cc

pub none_found : {A : Type 0} (test : A → Bool) (xs : List A) → place_of test xs ≡ None → find test xs ≡ None
none_found test [] h = refl
none_found {A} test (x ∷ xs) h = by (test x) h (none_found test xs) where
  by : (b : Bool) → cond b (Some 0) (option_map suc (place_of test xs)) ≡ None → (place_of test xs ≡ None → find test xs ≡ None) → cond b (Some x) (find test xs) ≡ None
  by true k again = absurd cc
  by false k again = again (none_is (place_of test xs) k)

-- Two lists, place by place

pub same_places : {A B : Type 0} (R : A → B → Type 0) (p : A → Bool) (q : B → Bool) → ((a : A) (b : B) → R a b → p a ≡ q b) → (xs : List A) (ys : List B) → AllZip R xs ys → place_of p xs ≡ place_of q ys
same_places R p q same [] [] h = refl
same_places R p q same [] (y ∷ ys) h = absurd h
same_places R p q same (x ∷ xs) [] h = absurd h
same_places R p q same (x ∷ xs) (y ∷ ys) h = λ i. cond (same x y h.0 i) (Some 0) (option_map suc (same_places R p q same xs ys h.1 i))

pub zip_map : {A B : Type 0} (R S : A → B → Type 0) → ((a : A) (b : B) → R a b → S a b) → (xs : List A) (ys : List B) → AllZip R xs ys → AllZip S xs ys
zip_map R S by [] [] h = tt
zip_map R S by [] (y ∷ ys) h = absurd h
zip_map R S by (x ∷ xs) [] h = absurd h
zip_map R S by (x ∷ xs) (y ∷ ys) h = (by x y h.0, zip_map R S by xs ys h.1)

pub zip_at : {A B : Type 0} (R : A → B → Type 0) (xs : List A) (ys : List B) (i : ℕ) (x : A) (y : B) → AllZip R xs ys → slice_get xs i ≡ Some x → slice_get ys i ≡ Some y → R x y
zip_at R [] ys i x y h a b = absurd cc
zip_at R (v ∷ xs) [] i x y h a b = absurd h
zip_at R (v ∷ xs) (w ∷ ys) zero x y h a b =
    let left : v ≡ x = cc in
    let right : w ≡ y = cc in
    subst (R x) right (subst (λ u. R u w) left h.0)
zip_at R (v ∷ xs) (w ∷ ys) (suc i) x y h a b = zip_at R xs ys i x y h.1 a b

pub zip_set : {A B : Type 0} (R : A → B → Type 0) (xs : List A) (ys : List B) (i : ℕ) (x : A) (y : B) → AllZip R xs ys → R x y → AllZip R (slice_set xs i x) (slice_set ys i y)
zip_set R [] [] i x y h k = tt
zip_set R [] (w ∷ ys) i x y h k = absurd h
zip_set R (v ∷ xs) [] i x y h k = absurd h
zip_set R (v ∷ xs) (w ∷ ys) zero x y h k = (k, h.1)
zip_set R (v ∷ xs) (w ∷ ys) (suc i) x y h k = (h.0, zip_set R xs ys i x y h.1 k)

-- another element takes the place of the first that passes
pub find_set : {A : Type 0} (test : A → Bool) (xs : List A) (i : ℕ) (y : A) → place_of test xs ≡ Some i → test y ≡ true → find test (slice_set xs i y) ≡ Some y
find_set test [] i y h t = absurd cc
find_set test (x ∷ xs) zero y h t = ap (λ b. cond b (Some y) (find test xs)) t
find_set {A} test (x ∷ xs) (suc i) y h t = by (test x) h (λ e. find_set test xs i y e t) where
  by : (b : Bool) → cond b (Some 0) (option_map suc (place_of test xs)) ≡ Some (suc i) → (place_of test xs ≡ Some i → find test (slice_set xs i y) ≡ Some y) → cond b (Some x) (find test (slice_set xs i y)) ≡ Some y
  by true k again = absurd cc
  by false k again =
      let it = some_is (place_of test xs) (suc i) k in
      let same : it.0 ≡ i = cc in
      again (it.1 ∙ ap Some same)

-- another element takes the place of one, and neither passes
pub find_other : {A : Type 0} (test : A → Bool) (xs : List A) (i : ℕ) (x y : A) → slice_get xs i ≡ Some x → test x ≡ false → test y ≡ false → find test (slice_set xs i y) ≡ find test xs
find_other test [] i x y h p q = refl
find_other test (v ∷ xs) zero x y h p q =
    let same : v ≡ x = cc in
    ap (λ b. cond b (Some y) (find test xs)) q ∙ sym (ap (λ b. cond b (Some v) (find test xs)) (ap test same ∙ p))
find_other test (v ∷ xs) (suc i) x y h p q = ap (λ o. cond (test v) (Some v) o) (find_other test xs i x y h p q)

-- so many elements before the others are none that pass
pub one_more : {A : Type 0} (test : A → Bool) (n : ℕ) (x : A) (xs : List A) → test x ≡ false → option_map (λ m. n + m) (place_of test (x ∷ xs)) ≡ option_map (λ m. (n + 1) + m) (place_of test xs)
one_more test n x xs t = ap (λ b. option_map (λ m. n + m) (cond b (Some 0) (option_map suc (place_of test xs)))) t ∙ by (place_of test xs) where
  by : (o : Option ℕ) → option_map (λ m. n + m) (option_map suc o) ≡ option_map (λ m. (n + 1) + m) o
  by None = refl
  by (Some m) = let e : n + suc m ≡ (n + 1) + m = omega arith in ap Some e

pub here : {A : Type 0} (test : A → Bool) (n : ℕ) (x : A) (xs : List A) → test x ≡ true → option_map (λ m. n + m) (place_of test (x ∷ xs)) ≡ Some n
here test n x xs t = let e : n + 0 ≡ n = omega arith in ap (λ b. option_map (λ m. n + m) (cond b (Some 0) (option_map suc (place_of test xs)))) t ∙ ap Some e

pub from_none : (o : Option ℕ) → o ≡ option_map (λ m. 0 + m) o
from_none None = refl
from_none (Some m) = let e : m ≡ 0 + m = omega arith in ap Some e

pub got : {A : Type 0} (xs : List A) (i : ℕ) (x d : A) → slice_get xs i ≡ Some x → get_or xs i d ≡ x
got [] i x d h = absurd cc
got (y ∷ xs) zero x d h = cc
got (y ∷ xs) (suc i) x d h = got xs i x d h
