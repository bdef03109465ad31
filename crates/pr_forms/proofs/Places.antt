-- What a run says of the whole text and of its first bad place.
use Rattle.std.proofs.Common.{◌≡◌, ℕ, zero, suc, ◌≤◌, ◌-◌, List, [], ◌∷◌, length, drop, refl, subst, arith, length-drop, inl, inr}
use Rattle.std.proofs.lemmas.Bool.{cases_lt}
use Rattle.pr_forms.specs.Form.{Form, rule, Reads, Begins, at_whole, IsFirstBad}
use Rattle.pr_forms.specs.Table.{Table, IsDecided}
use Rattle.pr_forms.specs.Run.{Runs, ReaderOutcome, good, bad, left_of}
use Rattle.pr_forms.proofs.Decided.{rule_decides, Agrees, same, goes_on, agrees, within}
use Rattle.pr_forms.proofs.Sound.{meets, reads, begins}
use Rattle.pr_forms.proofs.Suffixes.{Suffix, here, cut, drop_suffix, suffix_drop, suffix_length, begins_suffix, reads_suffix}

pub drop_drop : {T : Type 0} (j k : ℕ) (ts : List T) → j ≤ k → Suffix (drop k ts) (drop j ts)
drop_drop zero k ts h = drop_suffix k ts
drop_drop (suc j) zero ts h = absurd (omega arith)
drop_drop (suc j) (suc k) [] h = here
drop_drop (suc j) (suc k) (t ∷ ts) h = drop_drop j k ts (omega arith)

module _ {T N V : Type 0} (G : N → Form T N V) (S : Table T N) (known : IsDecided G S) where
  place_of : (f : Form T N V) (ts rest : List T) → Suffix rest ts → Begins G f ts rest → ((r : List T) → Begins G f ts r → length rest ≤ length r) → IsFirstBad G f ts (length ts - length rest)
  place_of f ts rest s b h =
      let short = suffix_length s in
      let is : drop (length ts - length rest) ts ≡ rest = suffix_drop s in
      record {
        within = omega arith;
        before = λ k i. cut b (drop_suffix k ts) (subst (λ x. Suffix x (drop k ts)) is (drop_drop k (length ts - length rest) ts i));
        after = λ k i j x. let n = h (drop k ts) x in omega (arith, length-drop k ts);
      }

  pub bad_place : (n : N) (ts rest : List T) → Runs G S (rule n) ts (bad rest) → IsFirstBad G (rule n) ts (length ts - length rest)
  bad_place n ts rest q =
      let b = begins (meets q) in
      place_of (rule n) ts rest (begins_suffix b) b (λ r x. (within G S known (rule_decides S n) q x).is)

  pub good_place : (n : N) (ts rest : List T) (v : V) → Runs G S (rule n) ts (good v rest) → IsFirstBad G (rule n) ts (length ts - length rest)
  good_place n ts rest v q =
      let d = reads (meets q) in
      place_of (rule n) ts rest (reads_suffix d) (at_whole d) (λ r x. (within G S known (rule_decides S n) q x).is)

  -- the place where a run stopped
  pub run_place : (n : N) (ts : List T) (o : ReaderOutcome T V) → Runs G S (rule n) ts o → IsFirstBad G (rule n) ts (length ts - length (left_of o))
  run_place n ts (good v rest) q = good_place n ts rest v q
  run_place n ts (bad rest) q = bad_place n ts rest q

  is_whole : {f : Form T N V} {o : ReaderOutcome T V} {w : V} → Agrees S f o w [] → o ≡ good w []
  is_whole same = refl
  is_whole (goes_on m) = let e = m.is in absurd (cc)

  -- where a text has a reading, a run gives it
  pub only_reading : (n : N) (ts : List T) (o : ReaderOutcome T V) (w : V) → Runs G S (rule n) ts o → Reads G (rule n) ts w [] → o ≡ good w []
  only_reading n ts o w q d = is_whole (agrees G S known (rule_decides S n) q d)

  pub no_beginning_passes : (n : N) (ts rest : List T) (o : ReaderOutcome T V) → Runs G S (rule n) ts o → Begins G (rule n) ts rest → length (left_of o) ≤ length rest
  no_beginning_passes n ts rest o q b = (within G S known (rule_decides S n) q b).is

-- two first bad places are one
pub one_place : {T N V : Type 0} (G : N → Form T N V) (f : Form T N V) (ts : List T) (j k : ℕ) → IsFirstBad G f ts j → IsFirstBad G f ts k → j ≡ k
one_place G f ts j k p q = elim (cases_lt j k) [
  | inl h ↦ absurd (p.after k h q.within (q.before k (omega arith)))
  | inr h ↦ elim (cases_lt k j) [ inl lt ↦ absurd (q.after j lt p.within (p.before j (omega arith))) | inr ge ↦ omega arith ]
]

-- a beginning cut short is one
pub cut_short : {T N V : Type 0} (G : N → Form T N V) (f : Form T N V) (ts : List T) (j k : ℕ) → j ≤ k → Begins G f ts (drop k ts) → Begins G f ts (drop j ts)
cut_short G f ts j k h b = cut b (drop_suffix j ts) (drop_drop j k ts h)
