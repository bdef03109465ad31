-- A letter that no test of a grammar takes ends whatever goes on before it.
use Rattle.std.proofs.Common.{◌≡◌, ℕ, ◌<◌, ◌≤◌, List, [], ◌∷◌, ◌++◌, map, length, drop, Option, Some, None, refl, sym, subst, arith, length-append, length-drop}
use Rattle.std.proofs.lemmas.List.{length-map, map-append}
use Rattle.pr_time.specs.pr_forms.Form.{Form, token, nothing, pair, either, turns, fold, rule, chosen, IsFirstBad, Reads, is_chosen, is_token, is_nothing, is_pair, is_left, is_right, is_stop, is_turn, is_fold, is_rule}
use Rattle.pr_time.specs.pr_forms.Form.{Begins, in_chosen, at_start, at_whole, in_first, in_second, in_left, in_right, in_turn, after_turn, in_base, after_base, in_rule}
use Rattle.pr_time.proofs.FormsSuffixes.{Suffix, here, there, suffix_length}
use Rattle.pr_time.proofs.FormsPlaces.{cut_short}
use Rattle.pr_time.proofs.FormsParts.{begins_other_rest}

-- no test within the form takes the letter
abbrev pub Untaken : {T N V : Type 0} → T → Form T N V → Type 0
Untaken t (token p) = p t ≡ None
Untaken t (nothing v) = Unit {0}
Untaken t (pair c f g) = Untaken t f × Untaken t g
Untaken t (either f g) = Untaken t f × Untaken t g
Untaken t (turns c v g) = Untaken t g
Untaken t (fold c f g) = Untaken t f × Untaken t g
Untaken t (chosen q m) = Unit {0}
Untaken t (rule n) = Unit {0}

pub drop_front : {T : Type 0} (front rest : List T) → drop (length front) (front ++ rest) ≡ rest
drop_front [] rest = refl
drop_front (t ∷ front) rest = drop_front front rest

front_suffix : {T : Type 0} (front rest : List T) → Suffix rest (front ++ rest)
front_suffix [] rest = here
front_suffix (t ∷ front) rest = there (front_suffix front rest)

module _ {T N V : Type 0} (G : N → Form T N V) (t : T) (known : (n : N) → Untaken t (G n)) where
  past_token : (p : T → Option V) {u : T} {v : V} {rest z : List T} → p t ≡ None → p u ≡ Some v → Suffix (t ∷ z) (u ∷ rest) → Suffix (t ∷ z) rest
  past_token p e h here = absurd (cc)
  past_token p e h (there s) = s

  -- neither a reading nor a beginning passes it
  reading_stays : {f : Form T N V} {ts r z : List T} {v : V} → Reads G f ts v r → Untaken t f → Suffix (t ∷ z) ts → Suffix (t ∷ z) r
  reading_stays (is_token {p = p} e) k s = past_token p k e s
  reading_stays is_nothing k s = s
  reading_stays (is_pair d e) k s = reading_stays e k.1 (reading_stays d k.0 s)
  reading_stays (is_left d) k s = reading_stays d k.0 s
  reading_stays (is_right d) k s = reading_stays d k.1 s
  reading_stays is_stop k s = s
  reading_stays (is_turn d e) k s = reading_stays e k (reading_stays d k s)
  reading_stays (is_fold d e) k s = reading_stays e k.1 (reading_stays d k.0 s)
  reading_stays (is_chosen {n = n} e l d) k s = reading_stays d (known n) s
  reading_stays (is_rule {n = n} d) k s = reading_stays d (known n) s

  beginning_stays : {f : Form T N V} {ts r z : List T} → Begins G f ts r → Untaken t f → Suffix (t ∷ z) ts → Suffix (t ∷ z) r
  beginning_stays at_start k s = s
  beginning_stays (at_whole d) k s = reading_stays d k s
  beginning_stays (in_first b) k s = beginning_stays b k.0 s
  beginning_stays (in_second d b) k s = beginning_stays b k.1 (reading_stays d k.0 s)
  beginning_stays (in_left b) k s = beginning_stays b k.0 s
  beginning_stays (in_right b) k s = beginning_stays b k.1 s
  beginning_stays (in_turn b) k s = beginning_stays b k s
  beginning_stays (after_turn d b) k s = beginning_stays b k (reading_stays d k s)
  beginning_stays (in_base b) k s = beginning_stays b k.0 s
  beginning_stays (after_base d b) k s = beginning_stays b k.1 (reading_stays d k.0 s)
  beginning_stays (in_chosen {n = n} e b) k s = beginning_stays b (known n) s
  beginning_stays (in_rule {n = n} b) k s = beginning_stays b (known n) s

  -- what goes on up to a place goes on up to it where the letter stands there
  pub ends_before : (n : N) (front r z : List T) → IsFirstBad G (rule n) (front ++ r) (length front) → IsFirstBad G (rule n) (front ++ t ∷ z) (length front)
  ends_before n front r z p = record {
    within = omega (arith, length-append front (t ∷ z));
    before = λ j i. cut_short G (rule n) (front ++ t ∷ z) j (length front) i at_end;
    after = past;
  }
    where
      at_end : Begins G (rule n) (front ++ t ∷ z) (drop (length front) (front ++ t ∷ z))
      at_end = subst (λ x. Begins G (rule n) (front ++ t ∷ z) x) (sym (drop_front front (t ∷ z)))
          (begins_other_rest G (rule n) front r (t ∷ z) (subst (λ x. Begins G (rule n) (front ++ r) x) (drop_front front r) (p.before (length front) (omega arith))))

      past : (j : ℕ) → length front < j → j ≤ length (front ++ t ∷ z) → Begins G (rule n) (front ++ t ∷ z) (drop j (front ++ t ∷ z)) → ⊥
      past j lt le b =
          let s = suffix_length (beginning_stays b tt (front_suffix front (t ∷ z))) in
          omega (arith, s, length-drop j (front ++ t ∷ z), length-append front (t ∷ z))

-- the same of bytes that a grammar sees as letters
module _ {L N V : Type 0} (letter_of : ℕ → L) (G : N → Form L N V) (b : ℕ) (known : (n : N) → Untaken (letter_of b) (G n)) where
  pub bytes_end_before : (n : N) (front r z : List ℕ) → IsFirstBad G (rule n) (map letter_of (front ++ r)) (length front) → IsFirstBad G (rule n) (map letter_of (front ++ b ∷ z)) (length front)
  bytes_end_before n front r z p = to_bytes (ends_before G (letter_of b) known n (map letter_of front) (map letter_of r) (map letter_of z) to_letters)
    where
      to_letters : IsFirstBad G (rule n) (map letter_of front ++ map letter_of r) (length (map letter_of front))
      to_letters = subst (λ k. IsFirstBad G (rule n) (map letter_of front ++ map letter_of r) k) (sym (length-map front letter_of)) (subst (λ ts. IsFirstBad G (rule n) ts (length front)) (map-append letter_of front r) p)

      to_bytes : IsFirstBad G (rule n) (map letter_of front ++ map letter_of (b ∷ z)) (length (map letter_of front)) → IsFirstBad G (rule n) (map letter_of (front ++ b ∷ z)) (length front)
      to_bytes q = subst (λ k. IsFirstBad G (rule n) (map letter_of (front ++ b ∷ z)) k) (length-map front letter_of)
          (subst (λ ts. IsFirstBad G (rule n) ts (length (map letter_of front))) (sym (map-append letter_of front (b ∷ z))) q)
