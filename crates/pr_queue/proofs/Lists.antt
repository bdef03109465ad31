-- Lists of which one element, or each so far, was changed.
use Rattle.std.proofs.Common.{◌≡◌, ℕ, zero, suc, ◌+◌, ◌-◌, ◌<◌, ◌≤◌, min, Bool, true, false, cond, not, ◌||◌, List, [], ◌∷◌, ◌++◌, length, take, drop, map, get_or, set, Some, None, is_some, sym, ap, ◌∙◌, refl, arith, add-one, ltb, leb, leb-true, leb-false, length-append, length-drop}
use Rattle.std.specs.List.{find, list_any, position, position_or_len, slice_get}
use Rattle.std.proofs.lemmas.List.{drop-append-le, drop-drop, drop_min, take_min, take_more}
use Rattle.std.proofs.lemmas.Option.{get_or_from_slice_get, slice_get_within}
use Rattle.std.proofs.lemmas.List.Quantifiers.{position-Some}
use Rattle.std.proofs.lemmas.Bool.Decides.{nat_tests}
use Rattle.std.proofs.Math.Seq.{drop-append-add}
use Rattle.circular_buffer.specs.Buffer.{keep_last}

ltb_more : (a b : ℕ) → ltb (1 + a) (suc b) ≡ ltb a b
ltb_more a b = grind (arith, nat_tests)

none_below : (b : ℕ) → ltb 0 (suc b) ≡ true
none_below b = grind (arith, nat_tests)

module _ {X : Type 0} where
  -- the next element is changed, behind those that were
  set_in_front : (f : X → X) (old : List X) (i : ℕ) (x y : X) → i < length old → x ≡ get_or (map f (take i old) ++ drop i old) i x → y ≡ f x
      → set (map f (take i old) ++ drop i old) i y ≡ map f (take (suc i) old) ++ drop (suc i) old
  set_in_front f [] i x y lt h e = absurd (omega arith)
  set_in_front f (o ∷ os) zero x y lt h e = ap (λ z. z ∷ os) (e ∙ ap f h)
  set_in_front f (o ∷ os) (suc i) x y lt h e = ap (λ l. f o ∷ l) (set_in_front f os i x y (omega arith) h e)

  pub set_next : (f : X → X) (old now : List X) (i : ℕ) (x y : X) → now ≡ map f (take i old) ++ drop i old → i < length old → x ≡ get_or now i x → y ≡ f (get_or now i x)
      → set now i y ≡ map f (take (i + 1) old) ++ drop (i + 1) old
  set_next f old now i x y is lt h e =
      ap (λ l. set l i y) is ∙ set_in_front f old i x y lt (h ∙ ap (λ l. get_or l i x) is) (e ∙ ap f (sym h)) ∙ sym (ap (λ k. map f (take k old) ++ drop k old) (add-one i))

  pub set_same : (xs : List X) (i : ℕ) (x d : X) → x ≡ get_or xs i d → set xs i x ≡ xs
  set_same [] i x d h = refl
  set_same (y ∷ ys) zero x d h = ap (λ z. z ∷ ys) h
  set_same (y ∷ ys) (suc i) x d h = ap (λ l. y ∷ l) (set_same ys i x d h)

  -- one more of the first elements
  pub take_next : (xs : List X) (i : ℕ) (x : X) → slice_get xs i ≡ Some x → take (i + 1) xs ≡ take i xs ++ x ∷ []
  take_next xs i x h = take_more xs i x (slice_get_within xs i x h) ∙ ap (λ z. take i xs ++ z ∷ []) (get_or_from_slice_get xs i x x h)

  pub none_past : (xs : List X) (i : ℕ) → i < length xs → slice_get xs i ≡ None → ⊥
  none_past [] i lt h = omega arith
  none_past (y ∷ ys) zero lt h = cc
  none_past (y ∷ ys) (suc i) lt h = none_past ys i (omega arith) h

  -- the first element that passes is changed
  abbrev pub at_first : (X → Bool) → (X → X) → List X → List X
  at_first p f [] = []
  at_first p f (x ∷ xs) = cond (p x) (f x ∷ xs) (x ∷ at_first p f xs)

  -- the first place at which an element passes
  record IsFirst (p : X → Bool) (xs : List X) (i : ℕ) (x : X) : Type 0 where
    within : i < length xs
    here : x ≡ get_or xs i x
    passes : p x ≡ true
    before : (k : ℕ) → k < i → p (get_or xs k x) ≡ false

  first_by : (p : X → Bool) (xs : List X) (i : ℕ) (x : X) → position p xs ≡ Some i → x ≡ get_or xs i x → IsFirst p xs i x
  first_by p xs i x h e =
      let s = position-Some p xs i x h in
      record { within = s.0; here = e; passes = ap p e ∙ s.1; before = s.2 }

  later : (p : X → Bool) (y : X) (ys : List X) (i : ℕ) (x : X) → IsFirst p (y ∷ ys) (suc i) x → IsFirst p ys i x
  later p y ys i x h = record { within = omega (arith, h.within); here = h.here; passes = h.passes; before = λ k lt. h.before (suc k) (omega arith) }

  find_first : (p : X → Bool) (xs : List X) (i : ℕ) (x : X) → IsFirst p xs i x → find p xs ≡ Some x
  find_first p [] i x h = absurd (omega (arith, h.within))
  find_first p (y ∷ ys) zero x h = ap (λ b. cond b (Some y) (find p ys)) (ap p (sym h.here) ∙ h.passes) ∙ ap Some (sym h.here)
  find_first p (y ∷ ys) (suc i) x h = ap (λ b. cond b (Some y) (find p ys)) (h.before 0 (omega arith)) ∙ find_first p ys i x (later p y ys i x h)

  pub find_at : (p : X → Bool) (xs : List X) (i : ℕ) (x : X) → position p xs ≡ Some i → x ≡ get_or xs i x → find p xs ≡ Some x
  find_at p xs i x h e = find_first p xs i x (first_by p xs i x h e)

  set_at_first : (p : X → Bool) (f : X → X) (xs : List X) (i : ℕ) (x : X) → IsFirst p xs i x → set xs i (f x) ≡ at_first p f xs
  set_at_first p f [] i x h = absurd (omega (arith, h.within))
  set_at_first p f (y ∷ ys) zero x h =
      ap (λ z. f z ∷ ys) h.here ∙ sym (ap (λ b. cond b (f y ∷ ys) (y ∷ at_first p f ys)) (ap p (sym h.here) ∙ h.passes))
  set_at_first p f (y ∷ ys) (suc i) x h =
      ap (λ l. y ∷ l) (set_at_first p f ys i x (later p y ys i x h)) ∙ sym (ap (λ b. cond b (f y ∷ ys) (y ∷ at_first p f ys)) (h.before 0 (omega arith)))

  pub set_first : (p : X → Bool) (f : X → X) (xs : List X) (i : ℕ) (x y : X) → position p xs ≡ Some i → x ≡ get_or xs i x → y ≡ f x → set xs i y ≡ at_first p f xs
  set_first p f xs i x y h e g = ap (set xs i) g ∙ set_at_first p f xs i x (first_by p xs i x h e)

  pub is_some-position : (p : X → Bool) (xs : List X) → is_some (position p xs) ≡ list_any p xs
  is_some-position p xs = by (ltb (position_or_len p xs) (length xs)) ∙ below p xs where
    by : (b : Bool) → is_some (cond b (Some (position_or_len p xs)) None) ≡ b
    by true = refl
    by false = refl

    below : (p : X → Bool) (ys : List X) → ltb (position_or_len p ys) (length ys) ≡ list_any p ys
    below p [] = refl
    below p (y ∷ ys) = one (p y) (below p ys) where
      one : (b : Bool) → ltb (position_or_len p ys) (length ys) ≡ list_any p ys → ltb (cond (not b) (1 + position_or_len p ys) 0) (suc (length ys)) ≡ (b || list_any p ys)
      one true h = none_below (length ys)
      one false h = ltb_more (position_or_len p ys) (length ys) ∙ h

  -- the last of a list
  pub same_drop : (a b : ℕ) (xs : List X) → a ≡ b → drop a xs ≡ drop b xs
  same_drop a b xs h = ap (λ k. drop k xs) h

  pub keep_last_more : (n : ℕ) (xs ys : List X) → keep_last n (keep_last n xs ++ ys) ≡ keep_last n (xs ++ ys)
  keep_last_more n xs ys =
      ap (keep_last n) (sym (drop-append-le (length xs - n) xs ys (omega arith)))
      ∙ drop-drop (length (drop (length xs - n) (xs ++ ys)) - n) (length xs - n) (xs ++ ys)
      ∙ same_drop _ _ (xs ++ ys) (omega (arith, length-drop (length xs - n) (xs ++ ys), length-append xs ys))

  pub keep_last_behind : (n : ℕ) (xs ys : List X) → keep_last n (xs ++ keep_last n ys) ≡ keep_last n (xs ++ ys)
  keep_last_behind n xs ys = by (leb n (length ys)) refl where
    by : (b : Bool) → leb n (length ys) ≡ b → keep_last n (xs ++ keep_last n ys) ≡ keep_last n (xs ++ ys)
    by true h =
        let within : n ≤ length ys = leb-true n (length ys) h in
        same_drop _ (length xs + 0) (xs ++ keep_last n ys) (omega (arith, length-append xs (keep_last n ys), length-drop (length ys - n) ys))
        ∙ drop-append-add xs (keep_last n ys) 0
        ∙ sym (same_drop _ (length xs + (length ys - n)) (xs ++ ys) (omega (arith, length-append xs ys)) ∙ drop-append-add xs ys (length ys - n))
    by false h =
        let short : length ys < n = leb-false n (length ys) h in
        let none : length ys - n ≡ 0 = omega arith in
        ap (λ k. keep_last n (xs ++ drop k ys)) none

  pub keep_last-drop : (n k : ℕ) (xs : List X) → k ≤ length xs → keep_last n (drop k xs) ≡ drop (k + ((length xs - k) - n)) xs
  keep_last-drop n k xs h = drop-drop (length (drop k xs) - n) k xs ∙ same_drop _ _ xs (omega (arith, length-drop k xs))

  pub take_fit : (n : ℕ) (xs : List X) → take (min (length xs) n) xs ≡ take n xs
  take_fit n xs = ap (λ k. take k xs) (omega arith) ∙ take_min n xs

  pub drop_fit : (n : ℕ) (xs : List X) → keep_last (length xs - min (length xs) n) xs ≡ drop n xs
  drop_fit n xs = same_drop _ _ xs (omega arith) ∙ drop_min n xs
