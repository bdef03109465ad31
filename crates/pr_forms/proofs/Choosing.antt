-- The ways through a rule that the next token chooses, which reads that token first.
use Rattle.std.proofs.Common.{◌≡◌, List, ◌∷◌, map, Option, Some, None, Bool, true, false, refl, sym, ap, subst}
use Rattle.std.specs.Borrow.{Bor}
use Rattle.std.specs.Prelude.{MatchOption, option_map, is_some}
use Rattle.pr_forms.specs.Form.{Form, token, pair, chosen}
use Rattle.pr_forms.specs.Table.{Table, is_next}
use Rattle.pr_forms.specs.Run.{Runs, ReaderOutcome, good, bad, run_token, run_pair, run_second, run_chosen, run_chosen_bad, run_unchosen, run_chosen_end}
use Rattle.pr_forms.specs.Carries.{Carries, Chooses, ChoosesNone, no_token, no_rule}
use Rattle.pr_forms.specs.private.Take.{IsMissed, at_end, by_test, IsTaken}
use Rattle.pr_forms.proofs.Decided.{shrinks}

module _ {T N V : Type 0} {G : N → Form T N V} {S : Table T N} where
  -- the chosen rule reads its token, and then the rest decides
  pub carry_chosen : {q : T → Option N} {m : T → Bool} {n : N} {c : V → V → V} {p : T → Option V} {f : Form T N V} {ts rest : List T} {v : V} →
      (h : Chooses q n ts rest) → G n ≡ pair c (token p) f → p h.first ≡ Some v → Carries G S (chosen q m) ts (c v) f rest (λ w. w)
  carry_chosen {q} {m} {n} {c} {p} {f} {ts} {rest} {v} h e k = subst (λ us. Carries G S (chosen q m) us (c v) f rest (λ w. w)) (sym h.is) at_token
    where
      form : (o : ReaderOutcome T V) → Runs G S (pair c (token p) f) (h.first ∷ rest) o → Runs G S (G n) (h.first ∷ rest) o
      form o j = subst (λ g. Runs G S g (h.first ∷ rest) o) (sym e) j

      at_token : Carries G S (chosen q m) (h.first ∷ rest) (c v) f rest (λ w. w)
      at_token = record {
        reads = λ w end j. run_chosen h.has (shrinks j).is (form (good (c v w) end) (run_pair (run_token k) j));
        fails = λ end j. run_chosen_bad h.has (form (bad end) (run_second (run_token k) j));
      }

  -- no rule is chosen
  pub none_chosen : {q : T → Option N} {m : T → Bool} {ts : List T} → ChoosesNone q ts → Runs G S (chosen q m) ts (bad ts)
  none_chosen no_token = run_chosen_end
  none_chosen (no_rule e) = run_unchosen e

-- whether a choice comes next
module _ {T N : Type 0} (V : Type 0) (S : Table T N) (q : T → Option N) (m : T → Bool) where
  pub chosen_next : {n : N} {ts rest : List T} → Chooses q n ts rest → is_next {V = V} S (chosen q m) ts ≡ true
  chosen_next {ts = ts} h = subst (λ us. is_next {V = V} S (chosen q m) us ≡ true) (sym h.is) (ap is_some h.has)

  pub none_next : {ts : List T} → ChoosesNone q ts → is_next {V = V} S (chosen q m) ts ≡ false
  none_next no_token = refl
  none_next (no_rule e) = ap is_some e

module _ {A T N X : Type 0} (see : A → T) (q : T → Option N) (made : X → N) where
  chooses : {P : Bor A → Option X → Type 0} {ts rest : List A} (v : X) → ((x : Bor A) (r : Option X) → P x r → option_map made r ≡ q (see x.now)) → IsTaken P v ts rest → Chooses q (made v) (map see ts) (map see rest)
  chooses {ts = ts} {rest = rest} v step h = record { first = see h.first.now; is = ap (map see) h.is; has = sym (step h.first (Some v) h.has) }

  chooses_none : {P : Bor A → Option X → Type 0} {ts : List A} → ((x : Bor A) (r : Option X) → P x r → option_map made r ≡ q (see x.now)) → IsMissed P ts → ChoosesNone q (map see ts)
  chooses_none step at_end = no_token
  chooses_none step (by_test {x = x} h) = no_rule (sym (step x None h))

  -- what `take` says, as a choice: its test gives of each token what the grammar does
  pub choosing : {Y : Type 0} {P : Bor A → Option X → Type 0} (first : Y → X) (rest : Y → List A) (o : Option Y) (ts : List A) →
      MatchOption o (IsMissed P ts) (λ y. IsTaken P (first y) ts (rest y)) → ((x : Bor A) (r : Option X) → P x r → option_map made r ≡ q (see x.now)) →
      MatchOption o (ChoosesNone q (map see ts)) (λ y. Chooses q (made (first y)) (map see ts) (map see (rest y)))
  choosing first rest None ts h step = chooses_none step h
  choosing first rest (Some y) ts h step = chooses (first y) step h
