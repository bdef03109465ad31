-- Single tokens, and whether the next token starts a form.
use Rattle.std.proofs.Common.{◌≡◌, Option, Some, None, List, [], ◌∷◌, Bool, true, false, map, length, refl, ap, arith, ◌∙◌}
use Rattle.std.specs.Prelude.{is_some, ◌||◌}
use Rattle.pr_forms.specs.Form.{Form, token, pair, either, fold}
use Rattle.pr_forms.specs.Table.{Table, is_next, empty_of, starts_of}
use Rattle.pr_forms.specs.Run.{run_token, run_other, run_end, Takes, Lacks}

module _ {T N V : Type 0} (G : N → Form T N V) (S : Table T N) (p : T → Option V) where
  pub token_takes : (ts : List T) (t : T) (rest : List T) (v : V) → ts ≡ t ∷ rest → p t ≡ Some v → Takes G S (token p) ts v rest
  token_takes ts t rest v e h = rw e (record { gives = run_token h; next = ap is_some h; shorter = omega arith })

  pub token_lacks : (ts : List T) (t : T) (rest : List T) → ts ≡ t ∷ rest → p t ≡ None → Lacks G S (token p) ts
  token_lacks ts t rest e h = rw e (record { gives = run_other h; next = ap is_some h })

  pub end_lacks : (ts : List T) → length ts ≡ 0 → Lacks G S (token p) ts
  end_lacks [] e = record { gives = run_end; next = refl }
  end_lacks (t ∷ ts) e = absurd (omega arith)

-- the same where the grammar sees the code's tokens by a function
module _ {A T N V : Type 0} (see : A → T) (G : N → Form T N V) (S : Table T N) (p : T → Option V) where
  pub seen_takes : (ts rest : List A) (t : A) (v : V) → ts ≡ t ∷ rest → p (see t) ≡ Some v → Takes G S (token p) (map see ts) v (map see rest)
  seen_takes ts rest t v e h = token_takes G S p (map see ts) (see t) (map see rest) v (ap (map see) e) h

  pub seen_lacks : (ts rest : List A) (t : A) → ts ≡ t ∷ rest → p (see t) ≡ None → Lacks G S (token p) (map see ts)
  seen_lacks ts rest t e h = token_lacks G S p (map see ts) (see t) (map see rest) (ap (map see) e) h

  pub seen_end_lacks : (ts : List A) → length ts ≡ 0 → Lacks G S (token p) (map see ts)
  seen_end_lacks [] e = record { gives = run_end; next = refl }
  seen_end_lacks (t ∷ ts) e = absurd (omega arith)

or_false : (b : Bool) → b || false ≡ b
or_false true = refl
or_false false = refl

or_same : (a b : Bool) → a ≡ true → a || b ≡ true
or_same a b e = rw e refl

or_other : (a b : Bool) → a ≡ false → a || b ≡ b
or_other a b e = rw e refl

module _ {T N V : Type 0} (S : Table T N) where
  -- the next token starts a sequence where it starts the first part
  pub next_pair : (c : V → V → V) (f g : Form T N V) (ts : List T) (b : Bool) → empty_of S f ≡ false → is_next S f ts ≡ b → is_next S (pair c f g) ts ≡ b
  next_pair c f g [] b e h = h
  next_pair c f g (t ∷ ts) b e h = rw e (or_false (starts_of S f t) ∙ h)

  pub next_fold : (c : V → V → V) (f g : Form T N V) (ts : List T) (b : Bool) → empty_of S f ≡ false → is_next S f ts ≡ b → is_next S (fold c f g) ts ≡ b
  next_fold c f g [] b e h = h
  next_fold c f g (t ∷ ts) b e h = rw e (or_false (starts_of S f t) ∙ h)

  -- and a choice where it starts one side
  pub next_left : (f g : Form T N V) (ts : List T) → is_next S f ts ≡ true → is_next S (either f g) ts ≡ true
  next_left f g [] h = h
  next_left f g (t ∷ ts) h = or_same (starts_of S f t) _ h

  pub next_right : (f g : Form T N V) (ts : List T) (b : Bool) → is_next S f ts ≡ false → is_next S g ts ≡ b → is_next S (either f g) ts ≡ b
  next_right f g [] b h k = k
  next_right f g (t ∷ ts) b h k = or_other (starts_of S f t) _ h ∙ k
