-- Which number goes on from an older one.
use Rattle.std.proofs.Common.{◌≡◌, ℕ, zero, suc, ◌+◌, ◌-◌, ◌≤◌, ◌⊎◌, inl, inr, Bool, true, false, cond, nat_eq, List, [], ◌∷◌, ◌++◌, length, slice_get, Option, Some, None, refl, sym, ap, ◌∙◌, arith}
use Rattle.std.specs.List.{position_from}
use Rattle.std.proofs.lemmas.Grind.{common_steps}
use Rattle.std.proofs.lemmas.Iterator.Adapters.{position_from-zero}
use borrow.Author.Tests.{eqb-true}
use Rattle.pr_range.specs.private.Carried.{IsOnce}
use Rattle.pr_slide.specs.private.Carried.{names, number_from}

is_at : (at j : ℕ) (from : List (Option ℕ)) (k : ℕ) → position_from (names j) at from ≡ Some k → (at ≤ k) × (slice_get from (k - at) ≡ Some (Some j))
is_at at j [] k h = absurd (cc)
is_at at j (None ∷ from) k h =
    let more = is_at (at + 1) j from k h in
    let low = more.0 in
    let size : k - at ≡ suc (k - (at + 1)) = omega arith in
    (omega arith, ap (slice_get (None ∷ from)) size ∙ more.1)
is_at at j (Some i ∷ from) k h = by (nat_eq i j) refl h (λ g. is_at (at + 1) j from k g) where
  by : (b : Bool) → nat_eq i j ≡ b → cond b (Some at) (position_from (names j) (at + 1) from) ≡ Some k → (position_from (names j) (at + 1) from ≡ Some k → (at + 1 ≤ k) × (slice_get from (k - (at + 1)) ≡ Some (Some j)))
      → (at ≤ k) × (slice_get (Some i ∷ from) (k - at) ≡ Some (Some j))
  by true e g more =
      let here : at ≡ k = cc in
      let same : i ≡ j = eqb-true i j e in
      let none : k - at ≡ 0 = omega (arith, here) in
      (omega (arith, here), ap (slice_get (Some i ∷ from)) none ∙ ap (λ n. Some (Some n)) same)
  by false e g more =
      let rest = more g in
      let low = rest.0 in
      let size : k - at ≡ suc (k - (at + 1)) = omega arith in
      (omega arith, ap (slice_get (Some i ∷ from)) size ∙ rest.1)

none_at : {R : Type 0} (at j : ℕ) (from : List (Option ℕ)) (k : ℕ) → position_from (names j) at from ≡ None → slice_get from k ≡ Some (Some j) → R
none_at at j [] zero h e = absurd (cc)
none_at at j [] (suc k) h e = absurd (cc)
none_at at j (None ∷ from) zero h e = absurd (cc)
none_at at j (None ∷ from) (suc k) h e = none_at (at + 1) j from k h e
none_at at j (Some i ∷ from) zero h e =
    let same : i ≡ j = cc in
    let yes : nat_eq i j ≡ true = grind (arith, common_steps) in
    let found : Some at ≡ None = ap (λ b. cond b (Some at) (position_from (names j) (at + 1) from)) (sym yes) ∙ h in
    absurd (cc)
none_at {R} at j (Some i ∷ from) (suc k) h e = by (nat_eq i j) h (λ g. none_at (at + 1) j from k g e) where
  by : (b : Bool) → cond b (Some at) (position_from (names j) (at + 1) from) ≡ None → (position_from (names j) (at + 1) from ≡ None → R) → R
  by true g more = absurd (cc)
  by false g more = more g

-- a number that goes on from an older one names it
pub number_is : (j : ℕ) (from : List (Option ℕ)) (k : ℕ) → number_from j from ≡ Some k → slice_get from k ≡ Some (Some j)
number_is j from k h =
    let size : k ≡ k - 0 = omega arith in
    ap (slice_get from) size ∙ (is_at 0 j from k (sym (position_from-zero (names j) from) ∙ h)).1

-- and where none goes on from it, none names it
pub number_none : {R : Type 0} (j : ℕ) (from : List (Option ℕ)) (k : ℕ) → number_from j from ≡ None → slice_get from k ≡ Some (Some j) → R
number_none j from k h e = none_at 0 j from k (sym (position_from-zero (names j) from) ∙ h) e

-- where none is named twice, the one that names it goes on
number_at : (j : ℕ) (from : List (Option ℕ)) (k : ℕ) → IsOnce from → slice_get from k ≡ Some (Some j) → number_from j from ≡ Some k
number_at j from k once e = by (number_from j from) refl where
  by : (o : Option ℕ) → number_from j from ≡ o → o ≡ Some k
  by None g = number_none j from k g e
  by (Some i) g = ap Some (once i k j (number_is j from i g) e)

front_at : {A : Type 0} (xs ys : List A) (i : ℕ) (x : A) → slice_get xs i ≡ Some x → slice_get (xs ++ ys) i ≡ Some x
front_at [] ys i x h = cc
front_at (y ∷ xs) ys zero x h = h
front_at (y ∷ xs) ys (suc i) x h = front_at xs ys i x h

rest_at : {A : Type 0} (xs ys : List A) (i : ℕ) → slice_get (xs ++ ys) (length xs + i) ≡ slice_get ys i
rest_at [] ys i = let same : 0 + i ≡ i = omega arith in ap (slice_get ys) same
rest_at (y ∷ xs) ys i = let same : length (y ∷ xs) + i ≡ suc (length xs + i) = omega arith in ap (slice_get ((y ∷ xs) ++ ys)) same ∙ rest_at xs ys i

split_at : {A : Type 0} (xs ys : List A) (i : ℕ) (x : A) → slice_get (xs ++ ys) i ≡ Some x → (slice_get xs i ≡ Some x) ⊎ ((k : ℕ) × (slice_get ys k ≡ Some x))
split_at [] ys i x h = inr (i, h)
split_at (y ∷ xs) ys zero x h = inl h
split_at (y ∷ xs) ys (suc i) x h = split_at xs ys i x h

-- one that is found behind others goes on
pub number_behind : (before behind : List (Option ℕ)) (j k : ℕ) → IsOnce (before ++ behind) → number_from j behind ≡ Some k → number_from j (before ++ behind) ≡ Some (length before + k)
number_behind before behind j k once h = number_at j (before ++ behind) (length before + k) once (rest_at before behind k ∙ number_is j behind k h)

-- and where there is none, it is one of the others, if any
pub number_before : (before behind : List (Option ℕ)) (j : ℕ) → IsOnce (before ++ behind) → number_from j behind ≡ None → number_from j before ≡ number_from j (before ++ behind)
number_before before behind j once h = by (number_from j before) refl (number_from j (before ++ behind)) refl where
  by : (o : Option ℕ) → number_from j before ≡ o → (p : Option ℕ) → number_from j (before ++ behind) ≡ p → o ≡ p
  by (Some k) g p f = sym (number_at j (before ++ behind) k once (front_at before behind k (Some j) (number_is j before k g))) ∙ f
  by None g None f = refl
  by None g (Some i) f = among (split_at before behind i (Some j) (number_is j (before ++ behind) i f)) where
    among : (slice_get before i ≡ Some (Some j)) ⊎ ((k : ℕ) × (slice_get behind k ≡ Some (Some j))) → None ≡ Some i
    among (inl e) = number_none j before i g e
    among (inr e) = number_none j behind e.0 h e.1
