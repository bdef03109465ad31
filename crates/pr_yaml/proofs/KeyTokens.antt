-- Which key comes next, and that its map may take it.
use Rattle.std.proofs.Common.{◌≡◌, ◌≢◌, ℕ, List, [], ◌∷◌, length, Bool, true, false, Option, Some, None, refl, ap, sym, ◌∙◌, subst, arith}
use Rattle.std.proofs.lemmas.Bool.Decides.{nat_tests}
use Rattle.std.specs.Prelude.{nat_eq, not, ◌&&◌, if◌then◌else◌}
use Rattle.pr_words.specs.pr_forms.Carries.{ChoosesNone, no_token, no_rule}
use Rattle.pr_yaml.specs.declared.yaml_scan.token.Token.{Token}
use Rattle.pr_yaml.specs.Grammar.{Letter, key_at, letter_of, letters, entry_from, pair_from, is_taken, Entry, Pair}
use Rattle.pr_yaml.specs.private.Reader.{key_among, NoEntry, NoPair}

pub none_at_end : {N : Type 0} (q : Letter → Option N) (ts : List Token) → length ts ≡ 0 → ChoosesNone q (letters ts)
none_at_end q [] e = no_token
none_at_end q (t ∷ ts) e = absurd (omega arith)

-- the letters where the first token is known
pub first_letter : (ts rest : List Token) (t : Token) (u : Letter) → ts ≡ t ∷ rest → Some u ≡ key_among (letter_of t) → letters ts ≡ u ∷ letters rest
first_letter ts rest t u e h = ap letters e ∙ ap (λ x. x ∷ letters rest) (same (letter_of t) u h)
  where
    same : (x u : Letter) → Some u ≡ key_among x → x ≡ u
    same (key_at n c k) u h = cc
    same _ u h = absurd cc

other_entry : (d : Bool) (k r : ℕ) (ks : List (List ℕ)) (t : Letter) → None ≡ key_among t → entry_from d k r ks t ≡ None
other_entry d k r ks (key_at n c x) h = absurd cc
other_entry d k r ks _ h = refl

other_pair : (d : Bool) (r : ℕ) (ks : List (List ℕ)) (t : Letter) → None ≡ key_among t → pair_from d r ks t ≡ None
other_pair d r ks (key_at n c x) h = absurd cc
other_pair d r ks _ h = refl

pub no_entry_key : (d : Bool) (k : ℕ) (ks : List (List ℕ)) (ts rest : List Token) (t : Token) → ts ≡ t ∷ rest → None ≡ key_among (letter_of t) → NoEntry d k ks (letters ts)
no_entry_key d k ks ts rest t e h = λ room. subst (λ us. ChoosesNone (entry_from d k room ks) us) (sym (ap letters e)) (no_rule (other_entry d k room ks (letter_of t) h))

pub no_pair_key : (d : Bool) (ks : List (List ℕ)) (ts rest : List Token) (t : Token) → ts ≡ t ∷ rest → None ≡ key_among (letter_of t) → NoPair d ks (letters ts)
no_pair_key d ks ts rest t e h = λ room. subst (λ us. ChoosesNone (pair_from d room ks) us) (sym (ap letters e)) (no_rule (other_pair d room ks (letter_of t) h))

cond_false : {A : Type 0} (b : Bool) (x y : A) → b ≡ false → (if b then x else y) ≡ y
cond_false b x y e = rw e refl

cond_true : {A : Type 0} (b : Bool) (x y : A) → b ≡ true → (if b then x else y) ≡ x
cond_true b x y e = rw e refl

and_false : (a b : Bool) → a ≡ false → a && b ≡ false
and_false a b e = rw e refl

and_not : (a b : Bool) → b ≡ true → a && not b ≡ false
and_not true b e = rw e refl
and_not false b e = refl

not_true : (b : Bool) → b ≡ true → not b ≡ false
not_true b e = rw e refl

eq_refl : (k : ℕ) → nat_eq k k ≡ true
eq_refl k = grind (arith, nat_tests)

not_eq : (k c : ℕ) → k ≢ c → nat_eq k c ≡ false
not_eq k c h = grind (arith, nat_tests)

both : (a b : Bool) → a ≡ true → b ≡ false → a && not b ≡ true
both a b e h = rw (e, h) refl

not_false : (b : Bool) → b ≡ false → not b ≡ true
not_false b e = rw e refl

pub no_entry_column : (d : Bool) (k : ℕ) (ks : List (List ℕ)) (us rest : List Letter) (n c : ℕ) (x : List ℕ) → us ≡ key_at n c x ∷ rest → k ≢ c → NoEntry d k ks us
no_entry_column d k ks us rest n c x e h = λ room. subst (λ vs. ChoosesNone (entry_from d k room ks) vs) (sym e) (no_rule (cond_false (nat_eq k c && not (is_taken d x ks)) _ _ (and_false (nat_eq k c) _ (not_eq k c h))))

pub no_entry_taken : (d : Bool) (k : ℕ) (ks : List (List ℕ)) (us rest : List Letter) (n c : ℕ) (x : List ℕ) → us ≡ key_at n c x ∷ rest → is_taken d x ks ≡ true → NoEntry d k ks us
no_entry_taken d k ks us rest n c x e h = λ room. subst (λ vs. ChoosesNone (entry_from d k room ks) vs) (sym e) (no_rule (cond_false (nat_eq k c && not (is_taken d x ks)) _ _ (and_not (nat_eq k c) _ h)))

pub no_pair_taken : (d : Bool) (ks : List (List ℕ)) (us rest : List Letter) (n c : ℕ) (x : List ℕ) → us ≡ key_at n c x ∷ rest → is_taken d x ks ≡ true → NoPair d ks us
no_pair_taken d ks us rest n c x e h = λ room. subst (λ vs. ChoosesNone (pair_from d room ks) vs) (sym e) (no_rule (cond_false (not (is_taken d x ks)) _ _ (not_true _ h)))

-- the rule that the key chooses
pub entry_chosen : (d : Bool) (k r : ℕ) (ks : List (List ℕ)) (n : ℕ) (x : List ℕ) → is_taken d x ks ≡ false → entry_from d k r ks (key_at n k x) ≡ Some (Entry k r ks x)
entry_chosen d k r ks n x h = cond_true (nat_eq k k && not (is_taken d x ks)) _ _ (both (nat_eq k k) (is_taken d x ks) (eq_refl k) h)

pub pair_chosen : (d : Bool) (r : ℕ) (ks : List (List ℕ)) (n c : ℕ) (x : List ℕ) → is_taken d x ks ≡ false → pair_from d r ks (key_at n c x) ≡ Some (Pair r ks x)
pair_chosen d r ks n c x h = cond_true (not (is_taken d x ks)) _ _ (not_false _ h)
