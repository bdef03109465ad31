-- What the clauses of a public reader want, from the run of its rule: the whole text is read, no
-- other value is derived from it, and the place where the run stopped is the first bad one. `see`
-- is what the grammar sees of one of the code's tokens.
use Rattle.std.proofs.Common.{◌≡◌, ℕ, ◌≤◌, ◌-◌, List, [], ◌∷◌, length, map, Bool, true, false, refl, ap, sym, ◌∙◌, subst, arith}
use Rattle.std.proofs.lemmas.List.{length-map}
use Rattle.std.specs.Prelude.{◌==◌}
use Rattle.pr_forms.specs.Form.{Form, rule, Reads, IsFirstBad}
use Rattle.pr_forms.specs.Table.{Table, IsDecided}
use Rattle.pr_forms.specs.Run.{Runs, ReaderOutcome, good, bad, left_of}
use Rattle.pr_forms.proofs.Sound.{meets, reads}
use Rattle.pr_forms.proofs.Decided.{shrinks}
use Rattle.pr_forms.proofs.Places.{run_place, only_reading}

good_value : {T V : Type 0} (v w : V) (rest : List T) → good v rest ≡ good w [] → v ≡ w
good_value v w rest e = cc

good_rest : {T V : Type 0} (v w : V) (rest : List T) → good v rest ≡ good w [] → rest ≡ []
good_rest v w rest e = cc

bad_not_good : {T V : Type 0} (w : V) (rest : List T) → bad rest ≡ good w [] → ⊥
bad_not_good w rest e = cc

none_left : {A : Type 0} (rest : List A) → length rest ≡ 0 → rest ≡ []
none_left [] e = refl
none_left (t ∷ rest) e = absurd (omega arith)

module _ {A T N V : Type 0} (see : A → T) (G : N → Form T N V) (S : Table T N) (known : IsDecided G S) (n : N) (text rest : List A) where
  -- what is left is no longer than the text
  pub left_short : {f : Form T N V} (o : ReaderOutcome T V) → Runs G S f (map see text) o → left_of o ≡ map see rest → length rest ≤ length text
  left_short o q e = let h = (shrinks q).is in omega (arith, h, ap length e, length-map text see, length-map rest see)

  -- the whole text is read
  pub read_whole : (v : V) → Runs G S (rule n) (map see text) (good v (map see rest)) → length rest ≡ 0 → Reads G (rule n) (map see text) v []
  read_whole v q e = let h : map see rest ≡ [] = ap (map see) (none_left rest e) in subst (λ r. Reads G (rule n) (map see text) v r) h (reads (meets q))

  -- and has no other value
  pub only_value : (v w : V) → Runs G S (rule n) (map see text) (good v (map see rest)) → Reads G (rule n) (map see text) w [] → v ≡ w
  only_value v w q d = good_value v w _ (only_reading G S known n _ _ w q d)

  -- where something is left, or the run failed, the text has no reading
  pub not_whole : (v w : V) (b : Bool) → Runs G S (rule n) (map see text) (good v (map see rest)) → b ≡ (length rest == 0) → b ≡ false → Reads G (rule n) (map see text) w [] → ⊥
  not_whole v w b q e h d = let k : length rest ≡ 0 = sym (length-map rest see) ∙ ap length (good_rest v w _ (only_reading G S known n _ _ w q d)) in rest_none k
    where
      rest_none : length rest ≡ 0 → ⊥
      rest_none k = let m : b ≡ true = e ∙ ap (λ x. x == 0) k in cc

  pub no_reading : (w : V) → Runs G S (rule n) (map see text) (bad (map see rest)) → Reads G (rule n) (map see text) w [] → ⊥
  no_reading w q d = bad_not_good w _ (only_reading G S known n _ _ w q d)

  -- the place where the run stopped
  place : (o : ReaderOutcome T V) → Runs G S (rule n) (map see text) o → left_of o ≡ map see rest → IsFirstBad G (rule n) (map see text) (length text - length rest)
  place o q e = subst (λ k. IsFirstBad G (rule n) (map see text) k) (same (length-map text see) (ap length e ∙ length-map rest see)) (run_place G S known n _ o q)
    where
      same : {a b c d : ℕ} → a ≡ b → c ≡ d → a - c ≡ b - d
      same h k = rw (h, k) refl

  pub rest_place : (v : V) → Runs G S (rule n) (map see text) (good v (map see rest)) → IsFirstBad G (rule n) (map see text) (length text - length rest)
  rest_place v q = place _ q refl

  pub bad_place : Runs G S (rule n) (map see text) (bad (map see rest)) → IsFirstBad G (rule n) (map see text) (length text - length rest)
  bad_place q = place _ q refl

  pub end_place : (v : V) → Runs G S (rule n) (map see text) (good v (map see rest)) → length rest ≡ 0 → IsFirstBad G (rule n) (map see text) (length text)
  end_place v q e = subst (λ k. IsFirstBad G (rule n) (map see text) k) (omega arith) (rest_place v q)
