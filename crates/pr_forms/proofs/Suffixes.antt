-- What is left is an end of the tokens, and a beginning cut short is a beginning.
use Rattle.std.proofs.Common.{◌≡◌, ℕ, ◌≤◌, ◌-◌, suc, zero, List, [], ◌∷◌, length, drop, refl, ◌∙◌, subst, arith, inl, inr}
use Rattle.std.specs.Prelude.{◌⊎◌}
use Rattle.pr_forms.specs.Form.{Form, pair, turns, fold, Reads, is_chosen, is_token, is_nothing, is_pair, is_left, is_right, is_stop, is_turn, is_fold, is_rule}
use Rattle.pr_forms.specs.Form.{Begins, in_chosen, at_start, at_whole, in_first, in_second, in_left, in_right, in_turn, after_turn, in_base, after_base, in_rule}

pub data Suffix {T : Type 0} : List T → List T → Type 0 where
  here : {ts : List T} → Suffix ts ts
  there : {t : T} {r ts : List T} → Suffix r ts → Suffix r (t ∷ ts)

module _ {T : Type 0} where
  pub suffix_trans : {a b c : List T} → Suffix a b → Suffix b c → Suffix a c
  suffix_trans h here = h
  suffix_trans h (there k) = there (suffix_trans h k)

  pub suffix_length : {r ts : List T} → Suffix r ts → length r ≤ length ts
  suffix_length here = omega arith
  suffix_length (there h) = let k = suffix_length h in omega arith

  suffix_same : {a b : List T} → Suffix a b → Suffix b a → a ≡ b
  suffix_same here k = refl
  suffix_same (there h) k = let x = suffix_length h in let y = suffix_length k in absurd (omega arith)

  compare : {a b ts : List T} → Suffix a ts → Suffix b ts → Suffix a b ⊎ Suffix b a
  compare here k = inr k
  compare (there h) here = inl (there h)
  compare (there h) (there k) = compare h k

  pub drop_suffix : (k : ℕ) (ts : List T) → Suffix (drop k ts) ts
  drop_suffix zero ts = here
  drop_suffix (suc k) [] = here
  drop_suffix (suc k) (t ∷ ts) = there (drop_suffix k ts)

  drop_more : (t : T) (ts : List T) (k : ℕ) (n : ℕ) → n ≡ suc k → drop n (t ∷ ts) ≡ drop k ts
  drop_more t ts k n e = rw e refl

  drop_none : (ts : List T) (n : ℕ) → n ≡ 0 → drop n ts ≡ ts
  drop_none ts n e = rw e refl

  -- what is left, by how many tokens stand before it
  pub suffix_drop : {r ts : List T} → Suffix r ts → drop (length ts - length r) ts ≡ r
  suffix_drop {r} here = drop_none r _ (omega arith)
  suffix_drop {r} (there {t = t} {ts = ts} h) = let k = suffix_length h in drop_more t ts (length ts - length r) _ (omega arith) ∙ suffix_drop h

module _ {T N V : Type 0} {G : N → Form T N V} where
  pub reads_suffix : {f : Form T N V} {ts r : List T} {v : V} → Reads G f ts v r → Suffix r ts
  reads_suffix (is_token e) = there here
  reads_suffix is_nothing = here
  reads_suffix (is_pair d e) = suffix_trans (reads_suffix e) (reads_suffix d)
  reads_suffix (is_left d) = reads_suffix d
  reads_suffix (is_right d) = reads_suffix d
  reads_suffix is_stop = here
  reads_suffix (is_turn d e) = suffix_trans (reads_suffix e) (reads_suffix d)
  reads_suffix (is_fold d e) = suffix_trans (reads_suffix e) (reads_suffix d)
  reads_suffix (is_chosen e l d) = reads_suffix d
  reads_suffix (is_rule d) = reads_suffix d

  pub begins_suffix : {f : Form T N V} {ts r : List T} → Begins G f ts r → Suffix r ts
  begins_suffix at_start = here
  begins_suffix (at_whole d) = reads_suffix d
  begins_suffix (in_first b) = begins_suffix b
  begins_suffix (in_second d b) = suffix_trans (begins_suffix b) (reads_suffix d)
  begins_suffix (in_left b) = begins_suffix b
  begins_suffix (in_right b) = begins_suffix b
  begins_suffix (in_turn b) = begins_suffix b
  begins_suffix (after_turn d b) = suffix_trans (begins_suffix b) (reads_suffix d)
  begins_suffix (in_base b) = begins_suffix b
  begins_suffix (after_base d b) = suffix_trans (begins_suffix b) (reads_suffix d)
  begins_suffix (in_chosen e b) = begins_suffix b
  begins_suffix (in_rule b) = begins_suffix b

  none_between : {f : Form T N V} {ts p : List T} → Suffix p ts → Suffix ts p → Begins G f ts p
  none_between {f} {ts} {p} h k = subst (λ x. Begins G f ts x) (suffix_same k h) at_start

  one_between : {f : Form T N V} {t : T} {v : V} {ts p : List T} → Reads G f (t ∷ ts) v ts → Suffix p (t ∷ ts) → Suffix ts p → Begins G f (t ∷ ts) p
  one_between d here k = at_start
  one_between {f} {t} {v} {ts} {p} d (there h) k = subst (λ x. Begins G f (t ∷ ts) x) (suffix_same k h) (at_whole d)

  -- before the middle or after it
  in_pair : {c : V → V → V} {f g : Form T N V} {ts mid p : List T} {v : V} → Reads G f ts v mid → (Suffix mid p → Begins G f ts p) → (Suffix p mid → Begins G g mid p) →
      Suffix p mid ⊎ Suffix mid p → Begins G (pair c f g) ts p
  in_pair d x y (inl h) = in_second d (y h)
  in_pair d x y (inr h) = in_first (x h)

  in_turns : {c : V → V → V} {g : Form T N V} {ts mid p : List T} (v : V) {w : V} → Reads G g ts w mid → (Suffix mid p → Begins G g ts p) → (Suffix p mid → Begins G (turns c (c v w) g) mid p) →
      Suffix p mid ⊎ Suffix mid p → Begins G (turns c v g) ts p
  in_turns v d x y (inl h) = after_turn d (y h)
  in_turns v d x y (inr h) = in_turn (x h)

  in_fold : {c : V → V → V} {f g : Form T N V} {ts mid p : List T} {v : V} → Reads G f ts v mid → (Suffix mid p → Begins G f ts p) → (Suffix p mid → Begins G (turns c v g) mid p) →
      Suffix p mid ⊎ Suffix mid p → Begins G (fold c f g) ts p
  in_fold d x y (inl h) = after_base d (y h)
  in_fold d x y (inr h) = in_base (x h)

  cut_reading : {f : Form T N V} {ts r p : List T} {v : V} → Reads G f ts v r → Suffix p ts → Suffix r p → Begins G f ts p
  cut_reading (is_token e) h k = one_between (is_token e) h k
  cut_reading is_nothing h k = none_between h k
  cut_reading (is_pair d e) h k = in_pair d (λ s. cut_reading d h s) (λ s. cut_reading e s k) (compare h (reads_suffix d))
  cut_reading (is_left d) h k = in_left (cut_reading d h k)
  cut_reading (is_right d) h k = in_right (cut_reading d h k)
  cut_reading is_stop h k = none_between h k
  cut_reading (is_turn {v = v} d e) h k = in_turns v d (λ s. cut_reading d h s) (λ s. cut_reading e s k) (compare h (reads_suffix d))
  cut_reading (is_fold d e) h k = in_fold d (λ s. cut_reading d h s) (λ s. cut_reading e s k) (compare h (reads_suffix d))
  cut_reading (is_chosen e l d) h k = in_chosen e (cut_reading d h k)
  cut_reading (is_rule d) h k = in_rule (cut_reading d h k)

  -- a beginning cut short is a beginning
  pub cut : {f : Form T N V} {ts r p : List T} → Begins G f ts r → Suffix p ts → Suffix r p → Begins G f ts p
  cut at_start h k = none_between h k
  cut (at_whole d) h k = cut_reading d h k
  cut (in_first b) h k = in_first (cut b h k)
  cut (in_second d b) h k = in_pair d (λ s. cut_reading d h s) (λ s. cut b s k) (compare h (reads_suffix d))
  cut (in_left b) h k = in_left (cut b h k)
  cut (in_right b) h k = in_right (cut b h k)
  cut (in_turn b) h k = in_turn (cut b h k)
  cut (after_turn {v = v} d b) h k = in_turns v d (λ s. cut_reading d h s) (λ s. cut b s k) (compare h (reads_suffix d))
  cut (in_base b) h k = in_base (cut b h k)
  cut (after_base d b) h k = in_fold d (λ s. cut_reading d h s) (λ s. cut b s k) (compare h (reads_suffix d))
  cut (in_chosen e b) h k = in_chosen e (cut b h k)
  cut (in_rule b) h k = in_rule (cut b h k)
