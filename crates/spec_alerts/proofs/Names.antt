-- Receivers that are found by their names.
use Rattle.std.proofs.Common.{◌≡◌, ℕ, Bool, true, false, cond, ◌||◌, List, [], ◌∷◌, map, Some, None, sym, ap, ◌∙◌, refl}
use Rattle.std.specs.List.{find, list_any}
use Rattle.std.specs.Option.{option_map}
use Rattle.std.specs.Str.{bytes_eq}
use Rattle.std.proofs.lemmas.Slice.Eq.{bytes_eq-Decides}
use Rattle.spec_history.proofs.LabelsLabelLaws.{alike}

pub same_bytes : (a b : List ℕ) → bytes_eq a b ≡ true → a ≡ b
same_bytes a b h = (bytes_eq-Decides a b).0 h

pub turned : (a b : List ℕ) → bytes_eq a b ≡ false → bytes_eq b a ≡ false
turned a b h = by (bytes_eq b a) refl where
  by : (t : Bool) → bytes_eq b a ≡ t → t ≡ false
  by false e = refl
  by true e = sym (alike a) ∙ ap (bytes_eq a) (sym (same_bytes b a e)) ∙ h

pub left_false : (a b : Bool) → (a || b) ≡ false → a ≡ false
left_false true b h = h
left_false false b h = refl

pub right_false : (a b : Bool) → (a || b) ≡ false → b ≡ false
right_false true b h = cc
right_false false b h = h

module _ {X : Type 0} where
  -- a change that a test does not see
  pub find-map : (p : X → Bool) (f : X → X) → ((x : X) → p (f x) ≡ p x) → (xs : List X) → find p (map f xs) ≡ option_map f (find p xs)
  find-map p f same [] = refl
  find-map p f same (x ∷ xs) = rw (same x) (by (p x) (find-map p f same xs)) where
    by : (b : Bool) → find p (map f xs) ≡ option_map f (find p xs) → cond b (Some (f x)) (find p (map f xs)) ≡ option_map f (cond b (Some x) (find p xs))
    by true later = refl
    by false later = later

  pub list_any-map : (p : X → Bool) (f : X → X) → ((x : X) → p (f x) ≡ p x) → (xs : List X) → list_any p (map f xs) ≡ list_any p xs
  list_any-map p f same [] = refl
  list_any-map p f same (x ∷ xs) = rw (same x, list_any-map p f same xs) refl

  -- what is found passes the test
  pub passes_found : (p : X → Bool) (xs : List X) (x : X) → find p xs ≡ Some x → p x ≡ true
  passes_found p [] x h = cc
  passes_found p (y ∷ ys) x h = by (p y) refl h (passes_found p ys x) where
    by : (b : Bool) → p y ≡ b → cond b (Some y) (find p ys) ≡ Some x → (find p ys ≡ Some x → p x ≡ true) → p x ≡ true
    by true e g later = let same : y ≡ x = cc in ap p (sym same) ∙ e
    by false e g later = later g

  -- nothing is found where no element passes
  pub find_none : (p : X → Bool) (xs : List X) → list_any p xs ≡ false → find p xs ≡ None
  find_none p [] h = refl
  find_none p (x ∷ xs) h = rw (left_false (p x) (list_any p xs) h) (find_none p xs (right_false (p x) (list_any p xs) h))
