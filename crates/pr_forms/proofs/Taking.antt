-- From what a taking says to the run of a token, as the grammar sees it.
use Rattle.std.proofs.Common.{◌≡◌, List, [], ◌∷◌, map, length, Option, Some, None, refl, sym, subst, arith}
use Rattle.std.specs.Borrow.{Bor}
use Rattle.std.specs.Prelude.{MatchOption, option_map}
use Rattle.pr_forms.specs.Form.{Form, token}
use Rattle.pr_forms.specs.Table.{Table}
use Rattle.pr_forms.specs.Run.{Takes, Lacks, run_end}
use Rattle.pr_forms.specs.private.Take.{IsMissed, at_end, by_test, IsTaken}
use Rattle.pr_forms.proofs.Steps.{seen_takes, seen_lacks}

pub missed : {T V : Type 0} (P : Bor T → Option V → Type 0) (ts rest : List T) (x : Bor T) → ts ≡ x.now ∷ rest → P x None → IsMissed P ts
missed P ts rest x e h = subst (λ us. IsMissed P us) (sym e) (by_test h)

pub missed_at_end : {T V : Type 0} (P : Bor T → Option V → Type 0) (ts : List T) → length ts ≡ 0 → IsMissed P ts
missed_at_end P [] e = at_end
missed_at_end P (t ∷ ts) e = absurd (omega arith)

module _ {A T N V X : Type 0} (see : A → T) (G : N → Form T N V) (S : Table T N) (p : T → Option V) (made : X → V) where
  takes : {P : Bor A → Option X → Type 0} {ts rest : List A} (v : X) → ((x : Bor A) (r : Option X) → P x r → option_map made r ≡ p (see x.now)) → IsTaken P v ts rest → Takes G S (token p) (map see ts) (made v) (map see rest)
  takes {ts = ts} {rest = rest} v step h = seen_takes see G S p ts rest h.first.now (made v) h.is (sym (step h.first (Some v) h.has))

  lacks : {P : Bor A → Option X → Type 0} {ts : List A} → ((x : Bor A) (r : Option X) → P x r → option_map made r ≡ p (see x.now)) → IsMissed P ts → Lacks G S (token p) (map see ts)
  lacks step at_end = record { gives = run_end; next = refl }
  lacks step (by_test {x = x} {rest = rest} h) = seen_lacks see G S p (x.now ∷ rest) rest x.now refl (sym (step x None h))

  -- what `take` says, as the run of a token: its test gives of each token what the grammar does
  pub taking : {Y : Type 0} {P : Bor A → Option X → Type 0} (first : Y → X) (rest : Y → List A) (o : Option Y) (ts : List A) →
      MatchOption o (IsMissed P ts) (λ y. IsTaken P (first y) ts (rest y)) → ((x : Bor A) (r : Option X) → P x r → option_map made r ≡ p (see x.now)) →
      MatchOption o (Lacks G S (token p) (map see ts)) (λ y. Takes G S (token p) (map see ts) (made (first y)) (map see (rest y)))
  taking first rest None ts h step = lacks step h
  taking first rest (Some y) ts h step = takes (first y) step h
