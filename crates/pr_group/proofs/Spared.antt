-- Which older ones are left, when one more is named.
use Rattle.std.proofs.Common.{◌≡◌, ℕ, zero, suc, ◌+◌, ◌<◌, nat_eq, Bool, true, false, ◌||◌, List, [], ◌∷◌, ◌++◌, map, set, take, slice_get, Option, Some, None, refl, ap, ◌∙◌, arith}
use Rattle.std.proofs.lemmas.Grind.{common_steps}
use borrow.Author.Tests.{eqb-true}
use Rattle.pr_rule.specs.pr_range.private.Carried.{IsOnce}
use Rattle.pr_group.specs.private.Matching.{is_named, kept_if, names, spared, spared_from}

or_false : (b : Bool) → (b || false) ≡ b
or_false true = refl
or_false false = refl

or_assoc : (a b c : Bool) → (a || (b || c)) ≡ ((a || b) || c)
or_assoc true b c = refl
or_assoc false b c = refl

-- One more is named.

named_more : (n : ℕ) (from : List (Option ℕ)) (c : Option ℕ) → is_named n (from ++ c ∷ []) ≡ (is_named n from || names n c)
named_more n [] c = or_false (names n c)
named_more n (d ∷ from) c = ap (λ b. names n d || b) (named_more n from c) ∙ or_assoc (names n d) (is_named n from) (names n c)

pub apart : (m n : ℕ) → m < n → nat_eq m n ≡ false
apart m n h = grind (arith, common_steps)

pub apart_too : (m n : ℕ) → n < m → nat_eq m n ≡ false
apart_too m n h = grind (arith, common_steps)

pub alike : (n : ℕ) → nat_eq n n ≡ true
alike n = grind (arith, common_steps)

or_true : (b : Bool) → (b || true) ≡ true
or_true true = refl
or_true false = refl

pub spared_none : {A : Type 0} (i : ℕ) (from : List (Option ℕ)) (xs : List A) → spared_from i (from ++ None ∷ []) xs ≡ spared_from i from xs
spared_none i from [] = refl
spared_none i from (a ∷ xs) = λ j. kept_if ((named_more i from None ∙ or_false (is_named i from)) j) a ∷ spared_none (i + 1) from xs j

spared_past : {A : Type 0} (i m : ℕ) (from : List (Option ℕ)) (xs : List A) → m < i → spared_from i (from ++ Some m ∷ []) xs ≡ spared_from i from xs
spared_past i m from [] h = refl
spared_past i m from (a ∷ xs) h =
    let same : is_named i (from ++ Some m ∷ []) ≡ is_named i from = named_more i from (Some m) ∙ ap (λ b. is_named i from || b) (apart m i h) ∙ or_false (is_named i from) in
    let rest : spared_from (i + 1) (from ++ Some m ∷ []) xs ≡ spared_from (i + 1) from xs = spared_past (i + 1) m from xs (omega arith) in
    λ j. kept_if (same j) a ∷ rest j

spared_set : {A : Type 0} (i n m : ℕ) (from : List (Option ℕ)) (xs : List A) → m ≡ i + n → spared_from i (from ++ Some m ∷ []) xs ≡ set (spared_from i from xs) n None
spared_set i n m from [] e = refl
spared_set i zero m from (a ∷ xs) e =
    let here : m ≡ i = omega arith in
    let named : is_named i (from ++ Some m ∷ []) ≡ true = named_more i from (Some m) ∙ ap (λ b. is_named i from || b) (ap (λ k. nat_eq k i) here ∙ alike i) ∙ or_true (is_named i from) in
    let rest : spared_from (i + 1) (from ++ Some m ∷ []) xs ≡ spared_from (i + 1) from xs = spared_past (i + 1) m from xs (omega arith) in
    λ j. kept_if (named j) a ∷ rest j
spared_set i (suc n) m from (a ∷ xs) e =
    let same : is_named i (from ++ Some m ∷ []) ≡ is_named i from = named_more i from (Some m) ∙ ap (λ b. is_named i from || b) (apart_too m i (omega arith)) ∙ or_false (is_named i from) in
    let rest : spared_from (i + 1) (from ++ Some m ∷ []) xs ≡ set (spared_from (i + 1) from xs) n None = spared_set (i + 1) n m from xs (omega arith) in
    λ j. kept_if (same j) a ∷ rest j

pub spared_more : {A : Type 0} (n : ℕ) (from : List (Option ℕ)) (xs : List A) → spared (from ++ Some n ∷ []) xs ≡ set (spared from xs) n None
spared_more n from xs = spared_set 0 n n from xs (omega arith)

pub spared_all : {A : Type 0} (i : ℕ) (xs : List A) → spared_from i [] xs ≡ map Some xs
spared_all i [] = refl
spared_all i (a ∷ xs) = ap (λ l. Some a ∷ l) (spared_all (i + 1) xs)

-- What is left under a number

spared_under : {A : Type 0} (i n m : ℕ) (from : List (Option ℕ)) (xs : List A) (a : A) → m ≡ i + n → is_named m from ≡ false → slice_get xs n ≡ Some a → slice_get (spared_from i from xs) n ≡ Some (Some a)
spared_under i zero m from [] a e h k = absurd (cc)
spared_under i (suc n) m from [] a e h k = absurd (cc)
spared_under i zero m from (b ∷ xs) a e h k =
    let here : i ≡ m = omega arith in
    let free : is_named i from ≡ false = ap (λ x. is_named x from) here ∙ h in
    ap (λ t. Some (kept_if t b)) free ∙ ap Some k
spared_under i (suc n) m from (b ∷ xs) a e h k = spared_under (i + 1) n m from xs a (omega arith) h k

pub spared_at : {A : Type 0} (n : ℕ) (from : List (Option ℕ)) (xs : List A) (a : A) → is_named n from ≡ false → slice_get xs n ≡ Some a → slice_get (spared from xs) n ≡ Some (Some a)
spared_at n from xs a h k = spared_under 0 n n from xs a (omega arith) h k

-- Where no number is named twice, one that comes next was not named before.

-- a number that is named stands somewhere
pub record Stands (n : ℕ) (from : List (Option ℕ)) : Type 0 where
  pub at : ℕ
  pub there : slice_get from at ≡ Some (Some n)

named_there : (n : ℕ) (from : List (Option ℕ)) → is_named n from ≡ true → Stands n from
named_there n [] h = absurd (cc)
named_there n (None ∷ from) h = let rest = named_there n from h in record { at = suc rest.at; there = rest.there }
named_there n (Some m ∷ from) h = by (nat_eq m n) refl h (λ k. named_there n from k) where
  by : (b : Bool) → nat_eq m n ≡ b → (b || is_named n from) ≡ true → (is_named n from ≡ true → Stands n from) → Stands n (Some m ∷ from)
  by true e k more = record { at = zero; there = ap (λ x. Some (Some x)) (eqb-true m n e) }
  by false e k more = let rest = more k in record { at = suc rest.at; there = rest.there }

pub front_get : {A : Type 0} (i j : ℕ) (xs : List A) (x : A) → slice_get (take i xs) j ≡ Some x → (j < i) × (slice_get xs j ≡ Some x)
front_get zero j xs x h = absurd (cc)
front_get (suc i) j [] x h = absurd (cc)
front_get (suc i) zero (y ∷ xs) x h = (omega arith, h)
front_get (suc i) (suc j) (y ∷ xs) x h = let rest = front_get i j xs x h in let low : j < i = rest.0 in (omega arith, rest.1)

pub new_number : (from : List (Option ℕ)) (i n : ℕ) → IsOnce from → slice_get from i ≡ Some (Some n) → is_named n (take i from) ≡ false
new_number from i n once here = by (is_named n (take i from)) refl where
  by : (b : Bool) → is_named n (take i from) ≡ b → b ≡ false
  by false e = refl
  by true e =
      let there = named_there n (take i from) e in
      let before = front_get i there.at from (Some n) there.there in
      let low : there.at < i = before.0 in
      let same : i ≡ there.at = once i there.at n here before.1 in
      absurd (omega arith)
