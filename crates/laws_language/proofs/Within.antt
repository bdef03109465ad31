-- Each token of a reading is taken there, and is the last one taken where the reading is cut short
-- after it.
use Rattle.std.proofs.Common.{◌≡◌, ℕ, suc, ◌≤◌, ◌<◌, Option, Some, List, [], ◌∷◌, length, drop, refl, subst, arith, inl, inr, length-drop}
use Rattle.std.specs.Prelude.{◌⊎◌}
use Rattle.pr_forms.specs.Form.{Form, token, Reads, is_chosen, is_token, is_nothing, is_pair, is_left, is_right, is_stop, is_turn, is_fold, is_rule}
use Rattle.pr_forms.proofs.Suffixes.{Suffix, here, there, drop_suffix, reads_suffix, suffix_length}
use Rattle.laws_language.specs.private.Named.{TakesLast, last_token, last_first, last_second, last_left, last_right, last_turn, last_after, last_base, last_more, last_chosen, last_rule, TakesWithin, within_token, within_first, within_second, within_left, within_right, within_turn, within_later, within_base, within_more, within_chosen, within_rule}

nil_suffix : {T : Type 0} (us : List T) → Suffix [] us
nil_suffix [] = here
nil_suffix (u ∷ us) = there (nil_suffix us)

same_suffix : {T : Type 0} {a b : List T} → Suffix a b → length b ≤ length a → a ≡ b
same_suffix here h = refl
same_suffix (there k) h = let l = suffix_length k in absurd (omega arith)

-- of two ends of a text the first ends the second, or is shorter and an end of it
compare : {T : Type 0} {a b ts : List T} → Suffix a ts → Suffix b ts → Suffix a b ⊎ (Suffix b a × (length b < length a))
compare {a} {b} here here = inl here
compare {a} {b} here (there k) = inr (there k, (let l = suffix_length k in omega arith))
compare (there h) here = inl (there h)
compare (there h) (there k) = compare h k

-- a token is taken before the end
record Taken {T N V : Type 0} (G : N → Form T N V) (f : Form T N V) (ts at : List T) (w : V) (rest : List T) : Type 0 where
  value : V
  takes : TakesWithin G f ts value at w rest

module _ {T N V : Type 0} {G : N → Form T N V} where
  pub cut_short : {f : Form T N V} {ts at rest : List T} {v w : V} → TakesWithin G f ts v at w rest → TakesLast G f ts v at
  cut_short (within_token e) = last_token e
  cut_short (within_first d k) = last_first (cut_short d)
  cut_short (within_second d k) = last_second d (cut_short k)
  cut_short (within_left d) = last_left (cut_short d)
  cut_short (within_right d) = last_right (cut_short d)
  cut_short (within_turn d k) = last_turn (cut_short d)
  cut_short (within_later d k) = last_after d (cut_short k)
  cut_short (within_base d k) = last_base (cut_short d)
  cut_short (within_more d k) = last_more d (cut_short k)
  cut_short (within_chosen e l d) = last_chosen e (cut_short d)
  cut_short (within_rule d) = last_rule (cut_short d)

  one_token : {p : T → Option V} {t : T} {v : V} {rest at : List T} → p t ≡ Some v → rest ≡ at → Taken G (token p) (t ∷ rest) at v rest
  one_token {p} {t} {v} {rest} e s = subst (λ us. Taken G (token p) (t ∷ rest) us v rest) s (record { value = v; takes = within_token e })

  taken : {f : Form T N V} {ts rest : List T} {w : V} → Reads G f ts w rest → (at : List T) → Suffix at ts → Suffix rest at → length at < length ts → Taken G f ts at w rest
  taken (is_token e) at a b l = one_token e (same_suffix b (omega arith))
  taken is_nothing at a b l = let h = suffix_length b in absurd (omega arith)
  taken (is_pair d k) at a b l = elim (compare (reads_suffix d) a) [
    | inl h ↦ let x = taken d at a h l in record { value = x.value; takes = within_first x.takes k }
    | inr h ↦ let x = taken k at h.0 b h.1 in record { value = x.value; takes = within_second d x.takes }
  ]
  taken (is_left d) at a b l = let x = taken d at a b l in record { value = x.value; takes = within_left x.takes }
  taken (is_right d) at a b l = let x = taken d at a b l in record { value = x.value; takes = within_right x.takes }
  taken is_stop at a b l = let h = suffix_length b in absurd (omega arith)
  taken (is_turn d k) at a b l = elim (compare (reads_suffix d) a) [
    | inl h ↦ let x = taken d at a h l in record { value = x.value; takes = within_turn x.takes k }
    | inr h ↦ let x = taken k at h.0 b h.1 in record { value = x.value; takes = within_later d x.takes }
  ]
  taken (is_fold d k) at a b l = elim (compare (reads_suffix d) a) [
    | inl h ↦ let x = taken d at a h l in record { value = x.value; takes = within_base x.takes k }
    | inr h ↦ let x = taken k at h.0 b h.1 in record { value = x.value; takes = within_more d x.takes }
  ]
  taken (is_chosen e i d) at a b l = let x = taken d at a b l in record { value = x.value; takes = within_chosen e i x.takes }
  taken (is_rule d) at a b l = let x = taken d at a b l in record { value = x.value; takes = within_rule x.takes }

  pub takes_each : (f : Form T N V) (ts : List T) (w : V) (place : ℕ) → place < length ts → Reads G f ts w [] → (v : V) × TakesWithin G f ts v (drop (suc place) ts) w []
  takes_each f ts w place lt d =
      let e = length-drop (suc place) ts in
      let x = taken d (drop (suc place) ts) (drop_suffix (suc place) ts) (nil_suffix (drop (suc place) ts)) (omega arith) in
      (x.value, x.takes)
