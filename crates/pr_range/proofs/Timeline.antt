-- Samples whose times rise, and parts of them by time.
use Rattle.std.proofs.Common.{◌≡◌, ℕ, zero, suc, ℤ, pos, negsuc, ◌+◌, ◌-◌, ◌≤◌, ◌<◌, ◌≤ℤ◌, Bool, true, false, not, cond, ◌&&◌, List, [], ◌∷◌, ◌++◌, length, take, drop, filter, refl, sym, ap, ◌∙◌, arith}
use Rattle.std.specs.List.{position_or_len}
use Rattle.std.proofs.lemmas.Grind.{common_steps}
use Rattle.pr_head.specs.spec_history.Lookback.{is_after, is_until}
use Rattle.pr_head.specs.declared.timed.Timed.{Timed}
use Rattle.pr_head.proofs.Newest.{Rises, UpTo}

pub up_to_more : (u v : ℕ) (xs : List Timed) → u ≤ v → UpTo u xs → UpTo v xs
up_to_more u v [] h k = tt
up_to_more u v (x ∷ xs) h k = let first = k.0 in (omega arith, up_to_more u v xs h k.1)

pub up_to_last : (u : ℕ) (xs : List Timed) (y : Timed) → UpTo u xs → y.time ≤ u → UpTo u (xs ++ y ∷ [])
up_to_last u [] y h k = (k, tt)
up_to_last u (x ∷ xs) y h k = (h.0, up_to_last u xs y h.1 k)

-- each time is above the one before
abbrev pub StrictlyRises : ℕ → List Timed → Type 0
StrictlyRises t [] = Unit {0}
StrictlyRises t (x ∷ xs) = (t ≤ x.time) × StrictlyRises (suc x.time) xs

pub strict_last : (t u : ℕ) (xs : List Timed) (y : Timed) → StrictlyRises t xs → UpTo u xs → t ≤ y.time → u < y.time → StrictlyRises t (xs ++ y ∷ [])
strict_last t u [] y h k low high = (low, tt)
strict_last t u (x ∷ xs) y h k low high = let first = k.0 in (h.0, strict_last (suc x.time) u xs y h.1 k.1 (omega arith) high)

rises_down : (s t : ℕ) (xs : List Timed) → s ≤ t → Rises t xs → Rises s xs
rises_down s t [] low h = tt
rises_down s t (x ∷ xs) low h = let first = h.0 in (omega arith, h.1)

pub rises_of_strict : (t : ℕ) (xs : List Timed) → StrictlyRises t xs → Rises t xs
rises_of_strict t [] h = tt
rises_of_strict t (x ∷ xs) h = (h.0, rises_down x.time (suc x.time) xs (omega arith) (rises_of_strict (suc x.time) xs h.1))

-- a time is until a moment, or after it
pub after_is : (a : ℤ) (t : ℕ) (b : Bool) → is_until a t ≡ b → is_after a t ≡ not b
after_is (pos a) t true h = grind (arith, common_steps)
after_is (pos a) t false h = grind (arith, common_steps)
after_is (negsuc a) t true h = cc
after_is (negsuc a) t false h = refl

after_up : (a : ℤ) (s t : ℕ) → is_after a s ≡ true → s ≤ t → is_after a t ≡ true
after_up (pos a) s t h k = grind (arith, common_steps)
after_up (negsuc a) s t h k = refl

until_else : (a : ℤ) (t : ℕ) → is_after a t ≡ true → is_until a t ≡ false
until_else (pos a) t h = grind (arith, common_steps)
until_else (negsuc a) t h = refl

pub until_up : (a b : ℤ) (t : ℕ) → a ≤ℤ b → is_until a t ≡ true → is_until b t ≡ true
until_up (pos a) (pos b) t h k = grind (arith, common_steps)
until_up (pos a) (negsuc b) t h k = grind (arith, common_steps)
until_up (negsuc a) b t h k = cc

abbrev pub until : ℤ → List Timed → List Timed
until a xs = filter (λ x. is_until a x.time) xs

abbrev pub after : ℤ → List Timed → List Timed
after a xs = filter (λ x. is_after a x.time) xs

abbrev pub between : ℤ → ℤ → List Timed → List Timed
between a b xs = filter (λ x. is_after a x.time && is_until b x.time) xs

-- where the first is after a moment, all are
pub none_until : (a : ℤ) (t : ℕ) (xs : List Timed) → is_after a t ≡ true → Rises t xs → until a xs ≡ []
none_until a t [] h k = refl
none_until a t (x ∷ xs) h k =
    let here = after_up a t x.time h k.0 in
    ap (λ b. cond b (x ∷ until a xs) (until a xs)) (until_else a x.time here) ∙ none_until a x.time xs here k.1

all_after : (a : ℤ) (t : ℕ) (xs : List Timed) → is_after a t ≡ true → Rises t xs → after a xs ≡ xs
all_after a t [] h k = refl
all_after a t (x ∷ xs) h k =
    let here = after_up a t x.time h k.0 in
    ap (λ b. cond b (x ∷ after a xs) (after a xs)) here ∙ ap (λ l. x ∷ l) (all_after a x.time xs here k.1)

between_until : (a b : ℤ) (t : ℕ) (xs : List Timed) → is_after a t ≡ true → Rises t xs → between a b xs ≡ until b xs
between_until a b t [] h k = refl
between_until a b t (x ∷ xs) h k =
    let here = after_up a t x.time h k.0 in
    (λ i. cond (here i && is_until b x.time) (x ∷ between_until a b x.time xs here k.1 i) (between_until a b x.time xs here k.1 i))

-- those until a moment come first
pub until_is_front : (b : ℤ) (t : ℕ) (xs : List Timed) → Rises t xs → until b xs ≡ take (length (until b xs)) xs
until_is_front b t [] k = refl
until_is_front b t (x ∷ xs) k = by (is_until b x.time) refl (until_is_front b x.time xs k.1) where
  by : (u : Bool) → is_until b x.time ≡ u → until b xs ≡ take (length (until b xs)) xs → cond u (x ∷ until b xs) (until b xs) ≡ take (length (cond u (x ∷ until b xs) (until b xs))) (x ∷ xs)
  by true e rest = ap (λ l. x ∷ l) rest
  by false e rest = let none = none_until b x.time xs (after_is b x.time false e) k.1 in none ∙ ap (λ l. take (length l) (x ∷ xs)) (sym none)

-- and the others behind them
pub after_is_rest : (a : ℤ) (t : ℕ) (xs : List Timed) → Rises t xs → after a xs ≡ drop (length (until a xs)) xs
after_is_rest a t [] k = refl
after_is_rest a t (x ∷ xs) k = by (is_until a x.time) refl (after_is_rest a x.time xs k.1) where
  by : (u : Bool) → is_until a x.time ≡ u → after a xs ≡ drop (length (until a xs)) xs → cond (is_after a x.time) (x ∷ after a xs) (after a xs) ≡ drop (length (cond u (x ∷ until a xs) (until a xs))) (x ∷ xs)
  by true e rest = ap (λ b. cond b (x ∷ after a xs) (after a xs)) (after_is a x.time true e) ∙ rest
  by false e rest =
      let here = after_is a x.time false e in
      let none = none_until a x.time xs here k.1 in
      ap (λ b. cond b (x ∷ after a xs) (after a xs)) here ∙ ap (λ l. x ∷ l) (all_after a x.time xs here k.1) ∙ ap (λ l. drop (length l) (x ∷ xs)) (sym none)

pub until_grows : (a b : ℤ) (xs : List Timed) → a ≤ℤ b → length (until a xs) ≤ length (until b xs)
until_grows a b [] h = omega arith
until_grows a b (x ∷ xs) h = by (is_until a x.time) (is_until b x.time) refl refl (until_grows a b xs h) where
  by : (u v : Bool) → is_until a x.time ≡ u → is_until b x.time ≡ v → length (until a xs) ≤ length (until b xs)
      → length (cond u (x ∷ until a xs) (until a xs)) ≤ length (cond v (x ∷ until b xs) (until b xs))
  by true true e f rest = omega arith
  by true false e f rest = let g = until_up a b x.time h e in cc
  by false true e f rest = omega arith
  by false false e f rest = rest

-- those of a range stand between two places
pub between_is : (a b : ℤ) (t : ℕ) (xs : List Timed) → a ≤ℤ b → Rises t xs → between a b xs ≡ take (length (until b xs) - length (until a xs)) (drop (length (until a xs)) xs)
between_is a b t [] h k = refl
between_is a b t (x ∷ xs) h k = by (is_until a x.time) refl (between_is a b x.time xs h k.1) where
  one_less : (m n : ℕ) → suc m - suc n ≡ m - n
  one_less m n = omega arith

  no_less : (n : ℕ) → n - 0 ≡ n
  no_less n = omega arith

  by : (u : Bool) → is_until a x.time ≡ u → between a b xs ≡ take (length (until b xs) - length (until a xs)) (drop (length (until a xs)) xs)
      → cond (is_after a x.time && is_until b x.time) (x ∷ between a b xs) (between a b xs)
      ≡ take (length (cond (is_until b x.time) (x ∷ until b xs) (until b xs)) - length (cond u (x ∷ until a xs) (until a xs))) (drop (length (cond u (x ∷ until a xs) (until a xs))) (x ∷ xs))
  by true e rest =
      (λ i. cond (after_is a x.time true e i && is_until b x.time) (x ∷ between a b xs) (between a b xs)) ∙ rest
      ∙ (λ i. take (sym (one_less (length (until b xs)) (length (until a xs))) i) (drop (length (until a xs)) xs))
      ∙ (λ i. take (length (cond (sym (until_up a b x.time h e) i) (x ∷ until b xs) (until b xs)) - suc (length (until a xs))) (drop (length (until a xs)) xs))
  by false e rest =
      let here = after_is a x.time false e in
      let none = none_until a x.time xs here k.1 in
      (λ i. cond (here i && is_until b x.time) (x ∷ between_until a b x.time xs here k.1 i) (between_until a b x.time xs here k.1 i))
      ∙ until_is_front b t (x ∷ xs) k
      ∙ (λ i. take (sym (no_less (length (until b (x ∷ xs)))) i) (x ∷ xs))
      ∙ (λ i. take (length (until b (x ∷ xs)) - length (sym none i)) (drop (length (sym none i)) (x ∷ xs)))

-- the place of the first after a moment
pub place_is : (a : ℤ) (t : ℕ) (xs : List Timed) → Rises t xs → position_or_len (λ x. is_after a x.time) xs ≡ length (until a xs)
place_is a t [] k = refl
place_is a t (x ∷ xs) k = by (is_until a x.time) refl (place_is a x.time xs k.1) where
  by : (u : Bool) → is_until a x.time ≡ u → position_or_len (λ y. is_after a y.time) xs ≡ length (until a xs) → position_or_len (λ y. is_after a y.time) (x ∷ xs) ≡ length (cond u (x ∷ until a xs) (until a xs))
  by true e rest = let here = after_is a x.time true e in rw here (omega (arith, rest))
  by false e rest = let here = after_is a x.time false e in let none = none_until a x.time xs here k.1 in rw (here, none) refl

pub place_behind : (a : ℤ) (first : ℕ) (t : ℕ) (xs : List Timed) → Rises t xs → first ≤ length (until a xs) → first + position_or_len (λ x. is_after a x.time) (drop first xs) ≡ length (until a xs)
place_behind a zero t xs k h = omega (arith, place_is a t xs k)
place_behind a (suc f) t [] k h = absurd (omega arith)
place_behind a (suc f) t (x ∷ xs) k h = by (is_until a x.time) refl h (place_behind a f x.time xs k.1) where
  by : (u : Bool) → is_until a x.time ≡ u → suc f ≤ length (cond u (x ∷ until a xs) (until a xs)) → (f ≤ length (until a xs) → f + position_or_len (λ y. is_after a y.time) (drop f xs) ≡ length (until a xs))
      → suc f + position_or_len (λ y. is_after a y.time) (drop f xs) ≡ length (cond u (x ∷ until a xs) (until a xs))
  by true e low rest = let r = rest (omega arith) in omega arith
  by false e low rest = let none = none_until a x.time xs (after_is a x.time false e) k.1 in absurd (omega (arith, ap length none))
