-- The number of a text among texts that stand once.
use Rattle.std.proofs.Common.{◌≡◌, ℕ, zero, suc, ◌+◌, ◌-◌, ◌≤◌, Bool, true, false, cond, List, [], ◌∷◌, ◌++◌, length, slice_get, position, Option, Some, Result, Ok, Err, IfOk, refl, sym, ap, subst, ◌∙◌, arith}
use Rattle.std.specs.List.{list_any, position_from}
use Rattle.std.specs.Str.{bytes_eq}
use Rattle.std.proofs.lemmas.Iterator.Adapters.{position_from-zero}
use Rattle.std.proofs.lemmas.Slice.Eq.{bytes_eq-Decides}
use Rattle.indexmap.specs.IndexSet.{insert_key}

same_text : (s t : List ℕ) → bytes_eq s t ≡ true → s ≡ t
same_text s t h = (bytes_eq-Decides s t).0 h

at_from : (s : List ℕ) (texts : List (List ℕ)) (n j : ℕ) → position_from (bytes_eq s) n texts ≡ Some j → (n ≤ j) × (slice_get texts (j - n) ≡ Some s)
at_from s [] n j h = cc
at_from s (t ∷ texts) n j h = by (bytes_eq s t) refl h (at_from s texts (n + 1) j) where
  here : (k : ℕ) → k ≡ 0 → slice_get (t ∷ texts) k ≡ Some t
  here zero e = refl
  here (suc k) e = absurd (omega arith)

  next : (k m : ℕ) → k ≡ m + 1 → slice_get texts m ≡ Some s → slice_get (t ∷ texts) k ≡ Some s
  next zero m e at = absurd (omega arith)
  next (suc k) m e at = let same : k ≡ m = omega arith in ap (slice_get texts) same ∙ at

  by : (b : Bool) → bytes_eq s t ≡ b → cond b (Some n) (position_from (bytes_eq s) (n + 1) texts) ≡ Some j
      → (position_from (bytes_eq s) (n + 1) texts ≡ Some j → (n + 1 ≤ j) × (slice_get texts (j - (n + 1)) ≡ Some s)) → (n ≤ j) × (slice_get (t ∷ texts) (j - n) ≡ Some s)
  by true e h more = let same : n ≡ j = cc in (omega arith, here (j - n) (omega arith) ∙ ap Some (sym (same_text s t e)))
  by false e h more = let found = more h in let low = found.0 in (omega arith, next (j - n) (j - (n + 1)) (omega arith) found.1)

number_found : (s : List ℕ) (texts : List (List ℕ)) (r : Option ℕ) (i : ℕ) → r ≡ position (bytes_eq s) texts → r ≡ Some i → slice_get texts i ≡ Some s
number_found s texts r i is h = let same : i - 0 ≡ i = omega arith in subst (λ j. slice_get texts j ≡ Some s) same (at_from s texts 0 i (sym (position_from-zero (bytes_eq s) texts) ∙ sym is ∙ h)).1

last_at : (s : List ℕ) (texts : List (List ℕ)) → slice_get (texts ++ s ∷ []) (length texts) ≡ Some s
last_at s [] = refl
last_at s (t ∷ texts) = last_at s texts

-- a text that stood nowhere stands last
pub number_new : (s t : List ℕ) (texts after : List (List ℕ)) (n : ℕ) → false ≡ list_any (bytes_eq s) texts → t ≡ s → after ≡ insert_key bytes_eq texts t → n ≡ length texts → slice_get after n ≡ Some s
number_new s t texts after n new copied is last = rw (is, last, copied) (by (list_any (bytes_eq s) texts) (sym new)) where
  by : (b : Bool) → b ≡ false → slice_get (cond b texts (texts ++ s ∷ [])) (length texts) ≡ Some s
  by true h = cc
  by false h = last_at s texts

-- the same where the number is looked at once more
pub number_narrow : {E : Type 0} (s : List ℕ) (texts : List (List ℕ)) (r : Option ℕ) (i : ℕ) (q : Result ℕ E) → r ≡ position (bytes_eq s) texts → r ≡ Some i → IfOk q (λ n. n ≡ i) → IfOk q (λ n. slice_get texts n ≡ Some s)
number_narrow s texts r i (Ok n) is h same = rw same (number_found s texts r i is h)
number_narrow s texts r i (Err e) is h same = tt
