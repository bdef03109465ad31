-- Every text has a run, where one token ahead decides the grammar and the grammar ends: so the
-- reading is a function of the text.
use Rattle.std.proofs.Common.{◌≡◌, ℕ, zero, suc, ◌+◌, ◌*◌, ◌-◌, ◌≤◌, ◌<◌, List, [], ◌∷◌, length, Option, Some, None, Bool, true, false, refl, sym, ap, subst, ◌∙◌, arith, inl, inr, pred, mul-le-mul_left, mul-suc}
use Rattle.std.specs.Prelude.{◌&&◌, ◌||◌, ◌⊎◌}
use Rattle.std.proofs.lemmas.Bool.{leb-true, le-leb}
use Rattle.pr_forms.specs.Form.{Form, token, nothing, pair, either, turns, fold, rule, chosen, Reads, is_chosen, is_token, is_nothing, is_pair, is_left, is_right, is_stop, is_turn, is_fold, is_rule, IsFirstBad}
use Rattle.pr_forms.specs.Table.{Table, empty_of, is_next, IsDecided, Decides}
use Rattle.pr_forms.specs.Run.{Runs, ReaderOutcome, good, bad, left_of, run_chosen, run_chosen_bad, run_unchosen, run_chosen_end, run_token, run_other, run_end, run_nothing, run_pair, run_first, run_second, run_left, run_right, run_stop, run_turn, run_in_turn, run_fold, run_base, run_rule}
use Rattle.pr_forms.specs.Reading.{run_in, whole_value, tokens_left, reading, bad_place, after_part, EndsIn, Ends}
use Rattle.pr_forms.proofs.Suffixes.{suffix_length, reads_suffix}
use Rattle.pr_forms.proofs.Sound.{meets, reads}
use Rattle.pr_forms.proofs.Decided.{rule_decides, decides_first, decides_second, decides_left, decides_right, decides_turn, decides_again, decides_full_turn, decides_base, decides_turns}
use Rattle.pr_forms.proofs.Places.{run_place, only_reading}

and_no : (a b : Bool) → a && b ≡ false → (a ≡ false) ⊎ (b ≡ false)
and_no true b e = inr e
and_no false b e = inl refl

or_no_left : (a b : Bool) → a || b ≡ false → a ≡ false
or_no_left true b e = absurd (cc)
or_no_left false b e = refl

or_no_right : (a b : Bool) → a || b ≡ false → b ≡ false
or_no_right true b e = absurd (cc)
or_no_right false b e = e

not_true : (a : Bool) → (a ≡ true → ⊥) → a ≡ false
not_true true h = absurd (h refl)
not_true false h = refl

-- a product of the shorter list leaves room for once more
less_room : (k : ℕ) {a b : ℕ} → a < b → k * a + k ≤ k * b
less_room k {a} {b} h = let m : k * suc a ≤ k * b = mul-le-mul_left k h in omega (arith, m, mul-suc k a)

same_room : (k : ℕ) {a b : ℕ} → a ≤ b → k * a ≤ k * b
same_room k {a} {b} h = mul-le-mul_left k h

-- What a reader of the form gives at the tokens.
pub record Answered {T N V : Type 0} (G : N → Form T N V) (S : Table T N) (f : Form T N V) (ts : List T) : Type 0 where
  pub outcome : ReaderOutcome T V
  pub runs : Runs G S f ts outcome

module _ {T N V : Type 0} (G : N → Form T N V) (S : Table T N) (known : IsDecided G S) where
  -- what cannot be empty reads a token
  pub consumes : {f : Form T N V} {ts rest : List T} {v : V} → Reads G f ts v rest → empty_of S f ≡ false → length rest < length ts
  consumes (is_token e) h = omega arith
  consumes is_nothing h = absurd (cc)
  consumes (is_pair {f = f} {g = g} d e) h = elim (and_no (empty_of S f) (empty_of S g) h) [
    | inl i ↦ let x = consumes d i in let y = suffix_length (reads_suffix e) in omega arith
    | inr i ↦ let x = consumes e i in let y = suffix_length (reads_suffix d) in omega arith
  ]
  consumes (is_left {f = f} {g = g} d) h = consumes d (or_no_left (empty_of S f) _ h)
  consumes (is_right {f = f} {g = g} d) h = consumes d (or_no_right (empty_of S f) _ h)
  consumes is_stop h = absurd (cc)
  consumes (is_turn d e) h = absurd (cc)
  consumes (is_fold d e) h = let x = consumes d h in let y = suffix_length (reads_suffix e) in omega arith
  consumes (is_chosen e l d) h = omega arith
  consumes (is_rule {n = n} d) h = consumes d (known.empty n ∙ h)

  -- the form has a run from the tokens on, in so many steps
  pub record Given (n : ℕ) (f : Form T N V) (ts : List T) : Type 0 where
    pub outcome : ReaderOutcome T V
    pub is : run_in G S n f ts ≡ Some outcome
    pub runs : Runs G S f ts outcome

  token_given : (n : ℕ) (p : T → Option V) (t : T) (ts : List T) (x : Option V) → p t ≡ x → Given (suc n) (token p) (t ∷ ts)
  token_given n p t ts (Some v) e = record { outcome = good v ts; is = rw e refl; runs = run_token e }
  token_given n p t ts None e = record { outcome = bad (t ∷ ts); is = rw e refl; runs = run_other e }

  second_given : (n : ℕ) (c : V → V → V) (f g : Form T N V) (ts mid : List T) (v : V) (o : ReaderOutcome T V) →
      run_in G S n f ts ≡ Some (good v mid) → Runs G S f ts (good v mid) → run_in G S n g mid ≡ Some o → Runs G S g mid o → Given (suc n) (pair c f g) ts
  second_given n c f g ts mid v (good w rest) e r h k = record { outcome = good (c v w) rest; is = rw (e, h) refl; runs = run_pair r k }
  second_given n c f g ts mid v (bad rest) e r h k = record { outcome = bad rest; is = rw (e, h) refl; runs = run_second r k }

  pair_given : (n : ℕ) (c : V → V → V) (f g : Form T N V) (ts : List T) (o : ReaderOutcome T V) → run_in G S n f ts ≡ Some o → Runs G S f ts o →
      ((v : V) (mid : List T) → Runs G S f ts (good v mid) → Given n g mid) → Given (suc n) (pair c f g) ts
  pair_given n c f g ts (good v mid) e r k = let x = k v mid r in second_given n c f g ts mid v x.outcome e r x.is x.runs
  pair_given n c f g ts (bad rest) e r k = record { outcome = bad rest; is = rw e refl; runs = run_first r }

  fold_given : (n : ℕ) (c : V → V → V) (f g : Form T N V) (ts : List T) (o : ReaderOutcome T V) → run_in G S n f ts ≡ Some o → Runs G S f ts o →
      ((v : V) (mid : List T) → Runs G S f ts (good v mid) → Given n (turns c v g) mid) → Given (suc n) (fold c f g) ts
  fold_given n c f g ts (good v mid) e r k = let x = k v mid r in record { outcome = x.outcome; is = rw e x.is; runs = run_fold r x.runs }
  fold_given n c f g ts (bad rest) e r k = record { outcome = bad rest; is = rw e refl; runs = run_base r }

  turn_given : (n : ℕ) (c : V → V → V) (v : V) (g : Form T N V) (ts : List T) (o : ReaderOutcome T V) → is_next S g ts ≡ true → run_in G S n g ts ≡ Some o → Runs G S g ts o →
      ((w : V) (mid : List T) → Runs G S g ts (good w mid) → Given n (turns c (c v w) g) mid) → Given (suc n) (turns c v g) ts
  turn_given n c v g ts (good w mid) i e r k = let x = k w mid r in record { outcome = x.outcome; is = rw (i, e) x.is; runs = run_turn i r x.runs }
  turn_given n c v g ts (bad rest) i e r k = record { outcome = bad rest; is = rw (i, e) refl; runs = run_in_turn i r }

  turns_given : (n : ℕ) (c : V → V → V) (v : V) (g : Form T N V) (ts : List T) (b : Bool) → is_next S g ts ≡ b → (b ≡ true → Given n g ts) →
      ((w : V) (mid : List T) → Runs G S g ts (good w mid) → Given n (turns c (c v w) g) mid) → Given (suc n) (turns c v g) ts
  turns_given n c v g ts true i x k = let y = x refl in turn_given n c v g ts y.outcome i y.is y.runs k
  turns_given n c v g ts false i x k = record { outcome = good v ts; is = rw i refl; runs = run_stop i }

  either_given : (n : ℕ) (f g : Form T N V) (ts : List T) (b : Bool) → is_next S f ts ≡ b → (b ≡ true → Given n f ts) → (b ≡ false → Given n g ts) → Given (suc n) (either f g) ts
  either_given n f g ts true i x y = let z = x refl in record { outcome = z.outcome; is = rw i z.is; runs = run_left i z.runs }
  either_given n f g ts false i x y = let z = y refl in record { outcome = z.outcome; is = rw i z.is; runs = run_right i z.runs }

  rule_given : (n : ℕ) (m : N) (ts : List T) → Given n (G m) ts → Given (suc n) (rule m) ts
  rule_given n m ts x = record { outcome = x.outcome; is = x.is; runs = run_rule x.runs }

  picked_given : (n : ℕ) (q : T → Option N) (more : T → Bool) (t : T) (ts : List T) (m : N) (o : ReaderOutcome T V) → q t ≡ Some m → S.empty m ≡ false →
      run_in G S n (G m) (t ∷ ts) ≡ Some o → Runs G S (G m) (t ∷ ts) o → Given (suc n) (chosen q more) (t ∷ ts)
  picked_given n q more t ts m (good v rest) i h e r =
      let short = consumes (reads (meets r)) (known.empty m ∙ h) in record { outcome = good v rest; is = rw i e; runs = run_chosen i (omega arith) r }
  picked_given n q more t ts m (bad rest) i h e r = record { outcome = bad rest; is = rw i e; runs = run_chosen_bad i r }

  chosen_given : (n : ℕ) (q : T → Option N) (more : T → Bool) (t : T) (ts : List T) (x : Option N) → q t ≡ x →
      ((m : N) → x ≡ Some m → (S.empty m ≡ false) × Given n (G m) (t ∷ ts)) → Given (suc n) (chosen q more) (t ∷ ts)
  chosen_given n q more t ts (Some m) i k = let y = k m refl in picked_given n q more t ts m (y.1).outcome i y.0 (y.1).is (y.1).runs
  chosen_given n q more t ts None i k = record { outcome = bad (t ∷ ts); is = rw i refl; runs = run_unchosen i }

  module _ (rank : N → ℕ) (limit : ℕ) (ends : Ends G S rank limit) where
    -- the steps that are left for what follows a part
    room : (f : Form T N V) (ts mid : List T) (v : V) (n b : ℕ) (x : Bool) → empty_of S f ≡ x → Runs G S f ts (good v mid) →
        limit * length ts + suc b ≤ suc n → limit * length mid + after_part x limit b ≤ n
    room f ts mid v n b true e r h = let s = same_room limit (suffix_length (reads_suffix (reads (meets r)))) in omega arith
    room f ts mid v n b false e r h = let s = less_room limit (consumes (reads (meets r)) e) in omega arith

    turn_room : (ts mid : List T) (n b : ℕ) → length mid < length ts → limit * length ts + suc b ≤ suc n → limit * length mid + suc b ≤ n
    turn_room ts mid n b short h = let s = less_room limit short in let k = leb-true 1 limit ends.some in omega arith

    turns_end : (c : V → V → V) (v : V) (g : Form T N V) (b : ℕ) → EndsIn S rank limit (pred b) g → EndsIn S rank limit b (turns c v g)
    turns_end c v g zero e = e
    turns_end c v g (suc b) e = e

    pub given : (n b : ℕ) (f : Form T N V) (ts : List T) → Decides S f → EndsIn S rank limit b f → limit * length ts + b ≤ n → Given n f ts
    given n zero f ts d e h = absurd e
    given zero (suc b) f ts d e h = absurd (omega arith)
    given (suc n) (suc b) (token p) [] d e h = record { outcome = bad []; is = refl; runs = run_end }
    given (suc n) (suc b) (token p) (t ∷ ts) d e h = token_given n p t ts (p t) refl
    given (suc n) (suc b) (nothing v) ts d e h = record { outcome = good v ts; is = refl; runs = run_nothing }
    given (suc n) (suc b) (pair c f g) ts d e h =
        let x = given n b f ts (decides_first S d) e.0 (omega arith) in
        pair_given n c f g ts x.outcome x.is x.runs (λ v mid r. given n (after_part (empty_of S f) limit b) g mid (decides_second S d) e.1 (room f ts mid v n b (empty_of S f) refl r h))
    given (suc n) (suc b) (either f g) ts d e h =
        either_given n f g ts (is_next S f ts) refl (λ i. given n b f ts (decides_left S d) e.0 (omega arith)) (λ i. given n b g ts (decides_right S d) e.1 (omega arith))
    given (suc n) (suc b) (turns c v g) ts d e h =
        turns_given n c v g ts (is_next S g ts) refl (λ i. given n b g ts (decides_turn S d) e (omega arith))
        (λ w mid r. given n (suc b) (turns c (c v w) g) mid (decides_again S d) e
        (turn_room ts mid n b (consumes (reads (meets r)) (not_true (empty_of S g) (λ i. decides_full_turn S d (record { is = i })))) h))
    given (suc n) (suc b) (fold c f g) ts d e h =
        let x = given n b f ts (decides_base S d) e.0 (omega arith) in
        fold_given n c f g ts x.outcome x.is x.runs (λ v mid r. given n (after_part (empty_of S f) limit b) (turns c v g) mid (decides_turns S v d)
        (turns_end c v g (after_part (empty_of S f) limit b) e.1) (room f ts mid v n b (empty_of S f) refl r h))
    given (suc n) (suc b) (chosen q more) [] d e h = record { outcome = bad []; is = refl; runs = run_chosen_end }
    given (suc n) (suc b) (chosen q more) (t ∷ ts) d e h = chosen_given n q more t ts (q t) refl
        (λ m i. let k = leb-true (rank m) b (e t m i).1 in ((e t m i).0, given n (rank m) (G m) (t ∷ ts) (known.decides m) (ends.ends m) (omega arith)))
    given (suc n) (suc b) (rule m) ts d e h = let k = leb-true (rank m) b e in rule_given n m ts (given n (rank m) (G m) ts (known.decides m) (ends.ends m) (omega arith))

    -- what a reader of a form gives, in as many steps as a token leaves
    pub form_answered : (f : Form T N V) (ts : List T) → Decides S f → EndsIn S rank limit limit f → Answered G S f ts
    form_answered f ts d e = let x = given (limit * length ts + limit) limit f ts d e (omega arith) in record { outcome = x.outcome; runs = x.runs }

    some_reading : (o : ReaderOutcome T V) (v : V) → whole_value (Some o) ≡ Some v → o ≡ good v []
    some_reading (good w []) v e = cc
    some_reading (good w (t ∷ ts)) v e = absurd (cc)
    some_reading (bad rest) v e = absurd (cc)

    -- the steps are enough for a rule
    rule_runs : (m : N) (ts : List T) → Given (limit * suc (length ts)) (rule m) ts
    rule_runs m ts =
        let k = leb-true (suc (rank m)) limit (ends.below m) in
        given (limit * suc (length ts)) (suc (rank m)) (rule m) ts (rule_decides S m) (le-leb (rank m) (rank m) (omega arith)) (omega (arith, k, mul-suc limit (length ts)))

    pub rule_answered : (m : N) (ts : List T) → Answered G S (rule m) ts
    rule_answered m ts = let x = rule_runs m ts in record { outcome = x.outcome; runs = x.runs }

    -- what the function gives is the reading of the text, and there is no other
    pub given_reads : (m : N) (ts : List T) (v : V) → reading G S limit (rule m) ts ≡ Some v → Reads G (rule m) ts v []
    unfolding reading
    given_reads m ts v e =
        let x = rule_runs m ts in
        let y : x.outcome ≡ good v [] = some_reading x.outcome v (sym (ap whole_value x.is) ∙ e) in
        reads (meets (subst (λ o. Runs G S (rule m) ts o) y x.runs))

    pub reads_given : (m : N) (ts : List T) (v : V) → Reads G (rule m) ts v [] → reading G S limit (rule m) ts ≡ Some v
    unfolding reading
    reads_given m ts v d =
        let x = rule_runs m ts in
        let y : x.outcome ≡ good v [] = only_reading G S known m ts x.outcome v x.runs d in
        ap whole_value x.is ∙ ap (λ o. whole_value (Some o)) y

    -- and the place that it gives is the first bad one
    pub given_place : (m : N) (ts : List T) → IsFirstBad G (rule m) ts (bad_place G S limit (rule m) ts)
    unfolding bad_place
    given_place m ts =
        let x = rule_runs m ts in
        let y : tokens_left (run_in G S (limit * suc (length ts)) (rule m) ts) ≡ length (left_of x.outcome) = ap tokens_left x.is in
        subst (λ k. IsFirstBad G (rule m) ts k) (ap (λ k. length ts - k) (sym y)) (run_place G S known m ts x.outcome x.runs)
