-- A grammar that one token ahead decides: a run is the only reading, and no beginning goes past its
-- bad place.
use Rattle.std.proofs.Common.{◌≡◌, ◌≤◌, List, [], ◌∷◌, length, Option, Some, Bool, true, false, refl, sym, ◌∙◌, subst, arith}
use Rattle.std.specs.Prelude.{◌&&◌}
use Rattle.pr_forms.specs.Form.{Form, token, nothing, pair, either, turns, fold, rule, chosen, Reads, is_chosen, is_token, is_nothing, is_pair, is_left, is_right, is_stop, is_turn, is_fold, is_rule}
use Rattle.pr_forms.specs.Form.{Begins, in_chosen, at_start, at_whole, in_first, in_second, in_left, in_right, in_turn, after_turn, in_base, after_base, in_rule}
use Rattle.pr_forms.specs.Table.{Table, empty_of, starts_of, more_of, is_next, is_more, negation, parts_at, is_solid, is_plain, Binds, Decides, IsDecided}
use Rattle.pr_forms.specs.Run.{left_of, Runs, ReaderOutcome, good, bad, run_chosen, run_chosen_bad, run_unchosen, run_chosen_end, run_token, run_other, run_end, run_nothing, run_pair, run_first, run_second, run_left, run_right, run_stop, run_turn, run_in_turn, run_fold, run_base, run_rule}
use Rattle.pr_forms.proofs.Heads.{or_left, or_right, and_both, and_first, and_second, Empty, Next, More, Starts, empty, next, Moves, none, some, next_of_turns, starts, moves}

pub plain_binds : {T N V : Type 0} (S : Table T N) (f : Form T N V) → is_plain f ≡ true → Binds S f
plain_binds S (token p) e = tt
plain_binds S (nothing v) e = tt
plain_binds S (pair c f g) e = (plain_binds S f (and_first (is_plain f) _ e), plain_binds S g (and_second (is_plain f) _ e))
plain_binds S (either f g) e = (plain_binds S f (and_first (is_plain f) _ e), plain_binds S g (and_second (is_plain f) _ e))
plain_binds S (turns c v g) e = plain_binds S g e
plain_binds S (fold c f g) e = (plain_binds S f (and_first (is_plain f) _ e), plain_binds S g (and_second (is_plain f) _ e))
plain_binds S (chosen q m) e = absurd (cc)
plain_binds S (rule n) e = tt

-- a rule is decided where its form is
pub rule_decides : {T N V : Type 0} (S : Table T N) (n : N) → Decides {V = V} S (rule n)
rule_decides S n = record { at = λ t. refl; solid = refl; binds = tt }

both_no : (a b : Bool) → negation (a && b) ≡ true → a ≡ true → b ≡ true → ⊥
both_no true true h e k = cc
both_no true false h e k = cc
both_no false b h e k = cc

negation_no : (a : Bool) → negation a ≡ true → a ≡ true → ⊥
negation_no true h e = cc
negation_no false h e = cc

pub record Apart {T N V : Type 0} (S : Table T N) (f g : Form T N V) : Type 0 where
  pub no : (ts : List T) → More S f ts → Next S g ts → ⊥

pub record Within {T : Type 0} (rest more : List T) : Type 0 where
  pub is : length rest ≤ length more

-- a reading is the run's, or could have gone on
pub data Agrees {T N V : Type 0} (S : Table T N) (f : Form T N V) : ReaderOutcome T V → V → List T → Type 0 where
  same : {v : V} {rest : List T} → Agrees S f (good v rest) v rest
  goes_on : {o : ReaderOutcome T V} {v : V} {rest : List T} → More S f rest → Agrees S f o v rest

module _ {T : Type 0} where
  within_all : {ts : List T} → Within ts ts
  within_all = record { is = omega arith }

  within_step : {t : T} {ts : List T} → Within ts (t ∷ ts)
  within_step = record { is = omega arith }

  within_trans : {a b c : List T} → Within a b → Within b c → Within a c
  within_trans h k = record { is = omega arith }

module _ {T N V : Type 0} (S : Table T N) where
  apart_walk : (f g : Form T N V) (ts : List T) → ((t : T) → negation (more_of S f t && starts_of S g t) ≡ true) → is_more S f ts ≡ true → is_next S g ts ≡ true → ⊥
  apart_walk f g [] h e k = cc
  apart_walk f g (t ∷ ts) h e k = both_no (more_of S f t) (starts_of S g t) (h t) e k

  apart : (f g : Form T N V) → ((t : T) → negation (more_of S f t && starts_of S g t) ≡ true) → Apart S f g
  apart f g h = record { no = λ ts e k. apart_walk f g ts h e.is k.is }

  sides_walk : (f g : Form T N V) (ts : List T) → ((t : T) → negation (starts_of S f t && starts_of S g t) ≡ true) → is_next S f ts ≡ true → is_next S g ts ≡ true → ⊥
  sides_walk f g [] h e k = cc
  sides_walk f g (t ∷ ts) h e k = both_no (starts_of S f t) (starts_of S g t) (h t) e k

  pub decides_first : {c : V → V → V} {f g : Form T N V} → Decides S (pair c f g) → Decides S f
  decides_first {c} {f} {g} h = record { at = λ t. and_first (parts_at S f t) _ (h.at t); solid = and_first (is_solid S f) _ h.solid; binds = h.binds.0 }

  pub decides_second : {c : V → V → V} {f g : Form T N V} → Decides S (pair c f g) → Decides S g
  decides_second {c} {f} {g} h = record { at = λ t. and_first (parts_at S g t) _ (and_second (parts_at S f t) _ (h.at t)); solid = and_second (is_solid S f) _ h.solid; binds = h.binds.1 }

  pub decides_apart : {c : V → V → V} {f g : Form T N V} → Decides S (pair c f g) → Apart S f g
  decides_apart {c} {f} {g} h = apart f g (λ t. and_second (parts_at S g t) _ (and_second (parts_at S f t) _ (h.at t)))

  pub decides_left : {f g : Form T N V} → Decides S (either f g) → Decides S f
  decides_left {f} {g} h = record { at = λ t. and_first (parts_at S f t) _ (h.at t); solid = and_first (is_solid S f) _ (and_second (negation (empty_of S f)) _ h.solid); binds = h.binds.0 }

  pub decides_right : {f g : Form T N V} → Decides S (either f g) → Decides S g
  decides_right {f} {g} h = record { at = λ t. and_first (parts_at S g t) _ (and_second (parts_at S f t) _ (h.at t)); solid = and_second (is_solid S f) _ (and_second (negation (empty_of S f)) _ h.solid); binds = h.binds.1 }

  pub decides_sides : {f g : Form T N V} (ts : List T) → Decides S (either f g) → Next S f ts → Next S g ts → ⊥
  decides_sides {f} {g} ts h e k = sides_walk f g ts (λ t. and_second (parts_at S g t) _ (and_second (parts_at S f t) _ (h.at t))) e.is k.is

  pub decides_full_left : {f g : Form T N V} → Decides S (either f g) → Empty S f → ⊥
  decides_full_left {f} {g} h e = negation_no (empty_of S f) (and_first (negation (empty_of S f)) _ h.solid) e.is

  pub decides_turn : {c : V → V → V} {v : V} {g : Form T N V} → Decides S (turns c v g) → Decides S g
  decides_turn {c} {v} {g} h = record { at = λ t. and_first (parts_at S g t) _ (h.at t); solid = and_second (negation (empty_of S g)) _ h.solid; binds = h.binds }

  pub decides_again : {c : V → V → V} {v w : V} {g : Form T N V} → Decides S (turns c v g) → Decides S (turns c w g)
  decides_again h = record { at = h.at; solid = h.solid; binds = h.binds }

  pub decides_turn_apart : {c : V → V → V} {v : V} {g : Form T N V} → Decides S (turns c v g) → Apart S g g
  decides_turn_apart {c} {v} {g} h = apart g g (λ t. and_second (parts_at S g t) _ (h.at t))

  pub decides_full_turn : {c : V → V → V} {v : V} {g : Form T N V} → Decides S (turns c v g) → Empty S g → ⊥
  decides_full_turn {c} {v} {g} h e = negation_no (empty_of S g) (and_first (negation (empty_of S g)) _ h.solid) e.is

  pub decides_base : {c : V → V → V} {f g : Form T N V} → Decides S (fold c f g) → Decides S f
  decides_base {c} {f} {g} h = record { at = λ t. and_first (parts_at S f t) _ (h.at t); solid = and_first (is_solid S f) _ h.solid; binds = h.binds.0 }

  pub decides_turns : {c : V → V → V} {f g : Form T N V} (v : V) → Decides S (fold c f g) → Decides S (turns c v g)
  decides_turns {c} {f} {g} v h = record {
    at = λ t. and_first (parts_at S g t && negation (more_of S g t && starts_of S g t)) _ (and_second (parts_at S f t) _ (h.at t));
    solid = and_second (is_solid S f) _ h.solid;
    binds = h.binds.1;
  }

  pub decides_base_apart : {c : V → V → V} {f g : Form T N V} → Decides S (fold c f g) → Apart S f g
  decides_base_apart {c} {f} {g} h = apart f g (λ t. and_second (parts_at S g t && negation (more_of S g t && starts_of S g t)) _ (and_second (parts_at S f t) _ (h.at t)))

  more_second-walk : (c : V → V → V) (f g : Form T N V) (ts : List T) → is_more S g ts ≡ true → is_more S (pair c f g) ts ≡ true
  more_second-walk c f g [] e = e
  more_second-walk c f g (t ∷ ts) e = or_left _ _ e

  pub more_second : {c : V → V → V} {f g : Form T N V} {ts : List T} → More S g ts → More S (pair c f g) ts
  more_second {c} {f} {g} {ts} e = record { is = more_second-walk c f g ts e.is }

  more_first-walk : (c : V → V → V) (f g : Form T N V) (ts : List T) → empty_of S g ≡ true → is_more S f ts ≡ true → is_more S (pair c f g) ts ≡ true
  more_first-walk c f g [] h e = e
  more_first-walk c f g (t ∷ ts) h e = or_right (more_of S g t) _ (and_both _ _ h (or_left _ _ e))

  more_first : {c : V → V → V} {f g : Form T N V} {ts : List T} → Empty S g → More S f ts → More S (pair c f g) ts
  more_first {c} {f} {g} {ts} h e = record { is = more_first-walk c f g ts h.is e.is }

  more_left-walk : (f g : Form T N V) (ts : List T) → is_more S f ts ≡ true → is_more S (either f g) ts ≡ true
  more_left-walk f g [] e = e
  more_left-walk f g (t ∷ ts) e = or_left _ _ e

  pub more_left : {f g : Form T N V} {ts : List T} → More S f ts → More S (either f g) ts
  more_left {f} {g} {ts} e = record { is = more_left-walk f g ts e.is }

  more_right-walk : (f g : Form T N V) (ts : List T) → is_more S g ts ≡ true → is_more S (either f g) ts ≡ true
  more_right-walk f g [] e = e
  more_right-walk f g (t ∷ ts) e = or_right (more_of S f t) _ (or_left _ _ e)

  pub more_right : {f g : Form T N V} {ts : List T} → More S g ts → More S (either f g) ts
  more_right {f} {g} {ts} e = record { is = more_right-walk f g ts e.is }

  more_sides-walk : (f g : Form T N V) (ts : List T) → empty_of S g ≡ true → is_next S f ts ≡ true → is_more S (either f g) ts ≡ true
  more_sides-walk f g [] h e = e
  more_sides-walk f g (t ∷ ts) h e = or_right (more_of S f t) _ (or_right (more_of S g t) _ (or_right (empty_of S f && starts_of S g t) _ (and_both _ _ h e)))

  pub more_sides : {f g : Form T N V} {ts : List T} → Empty S g → Next S f ts → More S (either f g) ts
  more_sides {f} {g} {ts} h e = record { is = more_sides-walk f g ts h.is e.is }

  more_turn-walk : (c : V → V → V) (v : V) (g : Form T N V) (ts : List T) → is_next S g ts ≡ true → is_more S (turns c v g) ts ≡ true
  more_turn-walk c v g [] e = e
  more_turn-walk c v g (t ∷ ts) e = or_left _ _ e

  pub more_turn : {c : V → V → V} {v : V} {g : Form T N V} {ts : List T} → Next S g ts → More S (turns c v g) ts
  more_turn {c} {v} {g} {ts} e = record { is = more_turn-walk c v g ts e.is }

  more_in_turn-walk : (c : V → V → V) (v : V) (g : Form T N V) (ts : List T) → is_more S g ts ≡ true → is_more S (turns c v g) ts ≡ true
  more_in_turn-walk c v g [] e = e
  more_in_turn-walk c v g (t ∷ ts) e = or_right (starts_of S g t) _ e

  more_in_turn : {c : V → V → V} {v : V} {g : Form T N V} {ts : List T} → More S g ts → More S (turns c v g) ts
  more_in_turn {c} {v} {g} {ts} e = record { is = more_in_turn-walk c v g ts e.is }

  more_again-walk : (c : V → V → V) (v w : V) (g : Form T N V) (ts : List T) → is_more S (turns c w g) ts ≡ true → is_more S (turns c v g) ts ≡ true
  more_again-walk c v w g [] e = e
  more_again-walk c v w g (t ∷ ts) e = e

  pub more_again : {c : V → V → V} {v w : V} {g : Form T N V} {ts : List T} → More S (turns c w g) ts → More S (turns c v g) ts
  more_again {c} {v} {w} {g} {ts} e = record { is = more_again-walk c v w g ts e.is }

  more_base-walk : (c : V → V → V) (f g : Form T N V) (ts : List T) → is_more S f ts ≡ true → is_more S (fold c f g) ts ≡ true
  more_base-walk c f g [] e = e
  more_base-walk c f g (t ∷ ts) e = or_left _ _ e

  more_base : {c : V → V → V} {f g : Form T N V} {ts : List T} → More S f ts → More S (fold c f g) ts
  more_base {c} {f} {g} {ts} e = record { is = more_base-walk c f g ts e.is }

  more_past-walk : (c : V → V → V) (v : V) (f g : Form T N V) (ts : List T) → is_more S (turns c v g) ts ≡ true → is_more S (fold c f g) ts ≡ true
  more_past-walk c v f g [] e = e
  more_past-walk c v f g (t ∷ ts) e = or_right (more_of S f t) _ e

  pub more_past : {c : V → V → V} {v : V} {f g : Form T N V} {ts : List T} → More S (turns c v g) ts → More S (fold c f g) ts
  more_past {c} {v} {f} {g} {ts} e = record { is = more_past-walk c v f g ts e.is }

  lift_pair : {c : V → V → V} {f g : Form T N V} (v : V) {w u : V} {mid rest : List T} → Agrees S g (good w mid) u rest → Agrees S (pair c f g) (good (c v w) mid) (c v u) rest
  lift_pair v same = same
  lift_pair v (goes_on m) = goes_on (more_second m)

  lift_pair_bad : {c : V → V → V} {f g : Form T N V} {u x : V} {mid rest : List T} → Agrees S g (bad mid) u rest → Agrees S (pair c f g) (bad mid) x rest
  lift_pair_bad (goes_on m) = goes_on (more_second m)

  lift_left : {f g : Form T N V} {o : ReaderOutcome T V} {v : V} {rest : List T} → Agrees S f o v rest → Agrees S (either f g) o v rest
  lift_left same = same
  lift_left (goes_on m) = goes_on (more_left m)

  lift_right : {f g : Form T N V} {o : ReaderOutcome T V} {v : V} {rest : List T} → Agrees S g o v rest → Agrees S (either f g) o v rest
  lift_right same = same
  lift_right (goes_on m) = goes_on (more_right m)

  lift_turn : {c : V → V → V} {g : Form T N V} {o : ReaderOutcome T V} {v w x : V} {rest : List T} → Agrees S (turns c w g) o x rest → Agrees S (turns c v g) o x rest
  lift_turn same = same
  lift_turn (goes_on m) = goes_on (more_again m)

  lift_fold : {c : V → V → V} {f g : Form T N V} {o : ReaderOutcome T V} {v x : V} {rest : List T} → Agrees S (turns c v g) o x rest → Agrees S (fold c f g) o x rest
  lift_fold same = same
  lift_fold (goes_on m) = goes_on (more_past m)

  -- a reading that could have gone on is not followed by what the form begins with
  pub past_pair : {c : V → V → V} {f g : Form T N V} {o : ReaderOutcome T V} {x : V} {mid rest : List T} → Apart S f g → More S f mid → Starts S g mid rest → Agrees S (pair c f g) o x rest
  past_pair a m (empty e) = goes_on (more_first e m)
  past_pair a m (next n) = absurd (a.no _ m n)

  pub past_turn : {c : V → V → V} {v w : V} {g : Form T N V} {o : ReaderOutcome T V} {x : V} {mid rest : List T} → Apart S g g → More S g mid → Starts S (turns c w g) mid rest → Agrees S (turns c v g) o x rest
  past_turn a m (empty e) = goes_on (more_in_turn m)
  past_turn a m (next n) = absurd (a.no _ m (next_of_turns S n))

  pub past_fold : {c : V → V → V} {v : V} {f g : Form T N V} {o : ReaderOutcome T V} {x : V} {mid rest : List T} → Apart S f g → More S f mid → Starts S (turns c v g) mid rest → Agrees S (fold c f g) o x rest
  past_fold a m (empty e) = goes_on (more_base m)
  past_fold a m (next n) = absurd (a.no _ m (next_of_turns S n))

  pub wrong_side : {f g : Form T N V} {o : ReaderOutcome T V} {x : V} {ts rest : List T} → Decides S (either f g) → Next S f ts → Starts S g ts rest → Agrees S (either f g) o x rest
  wrong_side h n (empty e) = goes_on (more_sides e n)
  wrong_side h n (next k) = absurd (decides_sides _ h n k)

  no_side : {f g : Form T N V} {ts rest : List T} → Decides S (either f g) → is_next S f ts ≡ false → Starts S f ts rest → ⊥
  no_side h n (empty e) = decides_full_left h e
  no_side h n (next k) = let e = k.is in cc

  no_turn : {c : V → V → V} {v : V} {g : Form T N V} {ts rest : List T} → Decides S (turns c v g) → is_next S g ts ≡ false → Starts S g ts rest → ⊥
  no_turn h n (empty e) = decides_full_turn h e
  no_turn h n (next k) = let e = k.is in cc

module _ {T N V : Type 0} (G : N → Form T N V) (S : Table T N) (known : IsDecided G S) where
  pub more_rule : (n : N) (ts : List T) → is_more S (G n) ts ≡ true → is_more {V = V} S (rule n) ts ≡ true
  more_rule n [] e = e
  more_rule n (t ∷ ts) e = sym (known.more n t) ∙ e

  lift_rule : (n : N) {o : ReaderOutcome T V} {v : V} {rest : List T} → Agrees S (G n) o v rest → Agrees {V = V} S (rule n) o v rest
  lift_rule n same = same
  lift_rule n {o} {v} {rest} (goes_on m) = goes_on (record { is = more_rule n rest m.is })

  pub more_chosen : (q : T → Option N) (m : T → Bool) (t : T) (n : N) (ts : List T) → Binds {V = V} S (chosen q m) → q t ≡ Some n → is_more S (G n) ts ≡ true → is_more {V = V} S (chosen q m) ts ≡ true
  more_chosen q m t n [] h e k = k
  more_chosen q m t n (u ∷ us) h e k = h t n u e (sym (known.more n u) ∙ k)

  lift_chosen : (q : T → Option N) (m : T → Bool) (t : T) (n : N) {o : ReaderOutcome T V} {v : V} {rest : List T} → Binds {V = V} S (chosen q m) → q t ≡ Some n → Agrees S (G n) o v rest → Agrees {V = V} S (chosen q m) o v rest
  lift_chosen q m t n h e same = same
  lift_chosen q m t n {o} {v} {rest} h e (goes_on k) = goes_on (record { is = more_chosen q m t n rest h e k.is })

  chosen_agrees : (q : T → Option N) (m : T → Bool) (t : T) (n n2 : N) {ts rest : List T} {o : ReaderOutcome T V} {v : V} → Binds {V = V} S (chosen q m) → q t ≡ Some n → q t ≡ Some n2 →
      ((x : V) (r : List T) → Reads G (G n) (t ∷ ts) x r → Agrees S (G n) o x r) → Reads G (G n2) (t ∷ ts) v rest → Agrees {V = V} S (chosen q m) o v rest
  chosen_agrees q m t n n2 {ts} {rest} {o} {v} h e e2 k d =
      let same_rule : n2 ≡ n = cc in
      lift_chosen q m t n h e (k v rest (subst (λ x. Reads G (G x) (t ∷ ts) v rest) same_rule d))

  pub heads : {f : Form T N V} {ts rest : List T} {v : V} → Reads G f ts v rest → Starts S f ts rest
  heads = starts G S known

  pair_agrees : {c : V → V → V} {f g : Form T N V} {mid mid2 rest end : List T} {v v2 w u : V} → Apart S f g →
      Agrees S f (good v mid) v2 mid2 → Reads G g mid2 u rest → ((x : V) (r : List T) → Reads G g mid x r → Agrees S g (good w end) x r) →
      Agrees S (pair c f g) (good (c v w) end) (c v2 u) rest
  pair_agrees {v = v} a same d k = lift_pair S v (k _ _ d)
  pair_agrees a (goes_on m) d k = past_pair S a m (heads d)

  pair_agrees_bad : {c : V → V → V} {f g : Form T N V} {mid mid2 rest end : List T} {v v2 u : V} → Apart S f g →
      Agrees S f (good v mid) v2 mid2 → Reads G g mid2 u rest → ((x : V) (r : List T) → Reads G g mid x r → Agrees S g (bad end) x r) →
      Agrees S (pair c f g) (bad end) (c v2 u) rest
  pair_agrees_bad a same d k = lift_pair_bad S (k _ _ d)
  pair_agrees_bad a (goes_on m) d k = past_pair S a m (heads d)

  first_agrees : {c : V → V → V} {f g : Form T N V} {mid2 rest end : List T} {v2 u : V} → Apart S f g →
      Agrees S f (bad end) v2 mid2 → Reads G g mid2 u rest → Agrees S (pair c f g) (bad end) (c v2 u) rest
  first_agrees a (goes_on m) d = past_pair S a m (heads d)

  turn_agrees : {c : V → V → V} {v : V} {g : Form T N V} {mid mid2 rest : List T} {o : ReaderOutcome T V} {w w2 x : V} → Apart S g g →
      Agrees S g (good w mid) w2 mid2 → Reads G (turns c (c v w2) g) mid2 x rest →
      ((x : V) (r : List T) → Reads G (turns c (c v w) g) mid x r → Agrees S (turns c (c v w) g) o x r) → Agrees S (turns c v g) o x rest
  turn_agrees a same d k = lift_turn S (k _ _ d)
  turn_agrees a (goes_on m) d k = past_turn S a m (heads d)

  turn_agrees_bad : {c : V → V → V} {v : V} {g : Form T N V} {mid2 rest end : List T} {w2 x : V} → Apart S g g →
      Agrees S g (bad end) w2 mid2 → Reads G (turns c (c v w2) g) mid2 x rest → Agrees S (turns c v g) (bad end) x rest
  turn_agrees_bad a (goes_on m) d = past_turn S a m (heads d)

  fold_agrees : {c : V → V → V} {f g : Form T N V} {mid mid2 rest : List T} {o : ReaderOutcome T V} {v v2 x : V} → Apart S f g →
      Agrees S f (good v mid) v2 mid2 → Reads G (turns c v2 g) mid2 x rest →
      ((x : V) (r : List T) → Reads G (turns c v g) mid x r → Agrees S (turns c v g) o x r) → Agrees S (fold c f g) o x rest
  fold_agrees a same d k = lift_fold S (k _ _ d)
  fold_agrees a (goes_on m) d k = past_fold S a m (heads d)

  fold_agrees_bad : {c : V → V → V} {f g : Form T N V} {mid2 rest end : List T} {v2 x : V} → Apart S f g →
      Agrees S f (bad end) v2 mid2 → Reads G (turns c v2 g) mid2 x rest → Agrees S (fold c f g) (bad end) x rest
  fold_agrees_bad a (goes_on m) d = past_fold S a m (heads d)

  token_agrees : (p : T → Option V) (t : T) {rest : List T} {v w : V} → p t ≡ Some v → p t ≡ Some w → Agrees {N = N} S (token p) (good v rest) w rest
  token_agrees p t {rest} {v} {w} e h = let k : v ≡ w = cc in subst (λ x. Agrees {N = N} S (token p) (good v rest) x rest) k same

  pub agrees : {f : Form T N V} {ts rest : List T} {o : ReaderOutcome T V} {x : V} → Decides S f → Runs G S f ts o → Reads G f ts x rest → Agrees S f o x rest
  agrees h (run_token {p} {t} e) (is_token k) = token_agrees p t e k
  agrees h (run_other e) (is_token k) = absurd (cc)
  agrees h run_end d = elim d [ ]
  agrees h run_nothing is_nothing = same
  agrees h (run_pair q r) (is_pair d e) = pair_agrees (decides_apart S h) (agrees (decides_first S h) q d) e (λ x s. agrees (decides_second S h) r)
  agrees h (run_first q) (is_pair d e) = first_agrees (decides_apart S h) (agrees (decides_first S h) q d) e
  agrees h (run_second q r) (is_pair d e) = pair_agrees_bad (decides_apart S h) (agrees (decides_first S h) q d) e (λ x s. agrees (decides_second S h) r)
  agrees h (run_left n q) (is_left d) = lift_left S (agrees (decides_left S h) q d)
  agrees h (run_left n q) (is_right d) = wrong_side S h (record { is = n }) (heads d)
  agrees h (run_right n q) (is_left d) = absurd (no_side S h n (heads d))
  agrees h (run_right n q) (is_right d) = lift_right S (agrees (decides_right S h) q d)
  agrees h (run_stop n) is_stop = same
  agrees h (run_stop n) (is_turn d e) = absurd (no_turn S h n (heads d))
  agrees h (run_turn n q r) is_stop = goes_on (more_turn S (record { is = n }))
  agrees h (run_turn n q r) (is_turn d e) = turn_agrees (decides_turn_apart S h) (agrees (decides_turn S h) q d) e (λ x s. agrees (decides_again S h) r)
  agrees h (run_in_turn n q) is_stop = goes_on (more_turn S (record { is = n }))
  agrees h (run_in_turn n q) (is_turn d e) = turn_agrees_bad (decides_turn_apart S h) (agrees (decides_turn S h) q d) e
  agrees h (run_fold q r) (is_fold d e) = fold_agrees (decides_base_apart S h) (agrees (decides_base S h) q d) e (λ x s. agrees (decides_turns S _ h) r)
  agrees h (run_base q) (is_fold d e) = fold_agrees_bad (decides_base_apart S h) (agrees (decides_base S h) q d) e
  agrees h (run_chosen {q} {m} {t} {n} e l k) (is_chosen {n = n2} e2 l2 d) = chosen_agrees q m t n n2 h.binds e e2 (λ x r. agrees (known.decides n) k) d
  agrees h (run_chosen_bad {q} {m} {t} {n} e k) (is_chosen {n = n2} e2 l2 d) = chosen_agrees q m t n n2 h.binds e e2 (λ x r. agrees (known.decides n) k) d
  agrees h (run_unchosen e) (is_chosen e2 l2 d) = absurd (cc)
  agrees h run_chosen_end d = elim d [ ]
  agrees h (run_rule {n} q) (is_rule d) = lift_rule n (agrees (known.decides n) q d)

module _ {T N V : Type 0} {G : N → Form T N V} {S : Table T N} where
  -- nothing is put before what is left
  pub shrinks : {f : Form T N V} {ts : List T} {o : ReaderOutcome T V} → Runs G S f ts o → Within (left_of o) ts
  shrinks (run_token e) = within_step
  shrinks (run_other e) = within_all
  shrinks run_end = within_all
  shrinks run_nothing = within_all
  shrinks (run_pair q r) = within_trans (shrinks r) (shrinks q)
  shrinks (run_first q) = shrinks q
  shrinks (run_second q r) = within_trans (shrinks r) (shrinks q)
  shrinks (run_left n q) = shrinks q
  shrinks (run_right n q) = shrinks q
  shrinks (run_stop n) = within_all
  shrinks (run_turn n q r) = within_trans (shrinks r) (shrinks q)
  shrinks (run_in_turn n q) = shrinks q
  shrinks (run_fold q r) = within_trans (shrinks r) (shrinks q)
  shrinks (run_base q) = shrinks q
  shrinks (run_chosen e l q) = shrinks q
  shrinks (run_chosen_bad e q) = shrinks q
  shrinks (run_unchosen e) = within_all
  shrinks run_chosen_end = within_all
  shrinks (run_rule q) = shrinks q

module _ {T N V : Type 0} (G : N → Form T N V) (S : Table T N) (known : IsDecided G S) where
  agree : {f : Form T N V} {ts rest : List T} {o : ReaderOutcome T V} {x : V} → Decides S f → Runs G S f ts o → Reads G f ts x rest → Agrees S f o x rest
  agree = agrees G S known

  moved : {f : Form T N V} {ts rest : List T} → Begins G f ts rest → Moves S f ts rest
  moved = moves G S known

  -- the second part of a sequence
  past_first : {f g : Form T N V} {mid rest : List T} {w : List T} → Apart S f g → More S f mid → Moves S g mid rest → Within w mid → Within w rest
  past_first a m none h = h
  past_first a m (some n) h = absurd (a.no _ m n)

  past_turns : {c : V → V → V} {v : V} {f g : Form T N V} {mid rest : List T} {w : List T} → Apart S f g → More S f mid → Moves S (turns c v g) mid rest → Within w mid → Within w rest
  past_turns a m none h = h
  past_turns a m (some n) h = absurd (a.no _ m (next_of_turns S n))

  second_within : {f g : Form T N V} {w0 : List T} {mid mid2 rest : List T} {v v2 : V} → Apart S f g →
      Agrees S f (good v mid) v2 mid2 → Begins G g mid2 rest → Within mid mid2 → Within w0 mid → ((r : List T) → Begins G g mid r → Within w0 r) → Within w0 rest
  second_within a same b i j k = k _ b
  second_within a (goes_on m) b i j k = past_first a m (moved b) (within_trans j i)

  first_within : {f g : Form T N V} {mid2 rest end : List T} {v2 : V} → Apart S f g →
      Agrees S f (bad end) v2 mid2 → Begins G g mid2 rest → Within end mid2 → Within end rest
  first_within a (goes_on m) b i = past_first a m (moved b) i

  turn_within : {c : V → V → V} {v w w2 : V} {g : Form T N V} {w0 : List T} {mid mid2 rest : List T} → Apart S g g →
      Agrees S g (good w mid) w2 mid2 → Begins G (turns c (c v w2) g) mid2 rest → Within mid mid2 → Within w0 mid →
      ((r : List T) → Begins G (turns c (c v w) g) mid r → Within w0 r) → Within w0 rest
  turn_within a same b i j k = k _ b
  turn_within a (goes_on m) b i j k = past_turns a m (moved b) (within_trans j i)

  turn_within_bad : {c : V → V → V} (v : V) {w2 : V} {g : Form T N V} {mid2 rest end : List T} → Apart S g g →
      Agrees S g (bad end) w2 mid2 → Begins G (turns c (c v w2) g) mid2 rest → Within end mid2 → Within end rest
  turn_within_bad v a (goes_on m) b i = past_turns a m (moved b) i

  fold_within : {c : V → V → V} {v v2 : V} {f g : Form T N V} {w0 : List T} {mid mid2 rest : List T} → Apart S f g →
      Agrees S f (good v mid) v2 mid2 → Begins G (turns c v2 g) mid2 rest → Within mid mid2 → Within w0 mid →
      ((r : List T) → Begins G (turns c v g) mid r → Within w0 r) → Within w0 rest
  fold_within a same b i j k = k _ b
  fold_within a (goes_on m) b i j k = past_turns a m (moved b) (within_trans j i)

  fold_within_bad : {c : V → V → V} {v2 : V} {f g : Form T N V} {mid2 rest end : List T} → Apart S f g →
      Agrees S f (bad end) v2 mid2 → Begins G (turns c v2 g) mid2 rest → Within end mid2 → Within end rest
  fold_within_bad a (goes_on m) b i = past_turns a m (moved b) i

  wrong_within : {f g : Form T N V} {ts rest w : List T} → Decides S (either f g) → Next S f ts → Moves S g ts rest → Within w ts → Within w rest
  wrong_within h n none i = i
  wrong_within h n (some k) i = absurd (decides_sides S _ h n k)

  other_within : {f : Form T N V} {ts rest w : List T} → is_next S f ts ≡ false → Moves S f ts rest → Within w ts → Within w rest
  other_within n none i = i
  other_within n (some k) i = let e = k.is in cc

  no_later : {c : V → V → V} {v : V} {g : Form T N V} {ts mid : List T} → Decides S (turns c v g) → is_next S g ts ≡ false → Starts S g ts mid → ⊥
  no_later h n (empty e) = decides_full_turn S h e
  no_later h n (next k) = let e = k.is in cc

  chosen_within : (q : T → Option N) (t : T) (n n2 : N) {ts rest w : List T} → q t ≡ Some n → q t ≡ Some n2 → ((r : List T) → Begins G (G n) (t ∷ ts) r → Within w r) → Begins G (G n2) (t ∷ ts) rest → Within w rest
  chosen_within q t n n2 {ts} {rest} e e2 k b = let same_rule : n2 ≡ n = cc in k rest (subst (λ x. Begins G (G x) (t ∷ ts) rest) same_rule b)

  -- no beginning goes past the place where the run stopped
  pub within : {f : Form T N V} {ts rest : List T} {o : ReaderOutcome T V} → Decides S f → Runs G S f ts o → Begins G f ts rest → Within (left_of o) rest
  within h q at_start = shrinks q
  within h (run_token e) (at_whole (is_token k)) = within_all
  within h (run_other e) (at_whole (is_token k)) = absurd (cc)
  within h run_end (at_whole d) = elim d [ ]
  within h run_nothing (at_whole is_nothing) = within_all
  within h (run_pair q r) (in_first b) = within_trans (shrinks r) (within (decides_first S h) q b)
  within h (run_pair q r) (in_second d b) = second_within (decides_apart S h) (agree (decides_first S h) q d) b (within (decides_first S h) q (at_whole d)) (shrinks r) (λ s. within (decides_second S h) r)
  within h (run_pair q r) (at_whole (is_pair d e)) = second_within (decides_apart S h) (agree (decides_first S h) q d) (at_whole e) (within (decides_first S h) q (at_whole d)) (shrinks r) (λ s. within (decides_second S h) r)
  within h (run_first q) (in_first b) = within (decides_first S h) q b
  within h (run_first q) (in_second d b) = first_within (decides_apart S h) (agree (decides_first S h) q d) b (within (decides_first S h) q (at_whole d))
  within h (run_first q) (at_whole (is_pair d e)) = first_within (decides_apart S h) (agree (decides_first S h) q d) (at_whole e) (within (decides_first S h) q (at_whole d))
  within h (run_second q r) (in_first b) = within_trans (shrinks r) (within (decides_first S h) q b)
  within h (run_second q r) (in_second d b) = second_within (decides_apart S h) (agree (decides_first S h) q d) b (within (decides_first S h) q (at_whole d)) (shrinks r) (λ s. within (decides_second S h) r)
  within h (run_second q r) (at_whole (is_pair d e)) = second_within (decides_apart S h) (agree (decides_first S h) q d) (at_whole e) (within (decides_first S h) q (at_whole d)) (shrinks r) (λ s. within (decides_second S h) r)
  within h (run_left n q) (in_left b) = within (decides_left S h) q b
  within h (run_left n q) (in_right b) = wrong_within h (record { is = n }) (moved b) (shrinks q)
  within h (run_left n q) (at_whole (is_left d)) = within (decides_left S h) q (at_whole d)
  within h (run_left n q) (at_whole (is_right d)) = wrong_within h (record { is = n }) (moved (at_whole d)) (shrinks q)
  within h (run_right n q) (in_left b) = other_within n (moved b) (shrinks q)
  within h (run_right n q) (in_right b) = within (decides_right S h) q b
  within h (run_right n q) (at_whole (is_left d)) = other_within n (moved (at_whole d)) (shrinks q)
  within h (run_right n q) (at_whole (is_right d)) = within (decides_right S h) q (at_whole d)
  within h (run_stop n) (in_turn b) = other_within n (moved b) within_all
  within h (run_stop n) (after_turn d b) = absurd (no_later h n (starts G S known d))
  within h (run_stop n) (at_whole is_stop) = within_all
  within h (run_stop n) (at_whole (is_turn d e)) = absurd (no_later h n (starts G S known d))
  within h (run_turn n q r) (in_turn b) = within_trans (shrinks r) (within (decides_turn S h) q b)
  within h (run_turn n q r) (after_turn d b) = turn_within (decides_turn_apart S h) (agree (decides_turn S h) q d) b (within (decides_turn S h) q (at_whole d)) (shrinks r) (λ s. within (decides_again S h) r)
  within h (run_turn n q r) (at_whole is_stop) = within_trans (shrinks r) (shrinks q)
  within h (run_turn n q r) (at_whole (is_turn d e)) = turn_within (decides_turn_apart S h) (agree (decides_turn S h) q d) (at_whole e) (within (decides_turn S h) q (at_whole d)) (shrinks r) (λ s. within (decides_again S h) r)
  within h (run_in_turn n q) (in_turn b) = within (decides_turn S h) q b
  within h (run_in_turn n q) (after_turn d b) = turn_within_bad _ (decides_turn_apart S h) (agree (decides_turn S h) q d) b (within (decides_turn S h) q (at_whole d))
  within h (run_in_turn n q) (at_whole is_stop) = shrinks q
  within h (run_in_turn n q) (at_whole (is_turn d e)) = turn_within_bad _ (decides_turn_apart S h) (agree (decides_turn S h) q d) (at_whole e) (within (decides_turn S h) q (at_whole d))
  within h (run_fold q r) (in_base b) = within_trans (shrinks r) (within (decides_base S h) q b)
  within h (run_fold q r) (after_base d b) = fold_within (decides_base_apart S h) (agree (decides_base S h) q d) b (within (decides_base S h) q (at_whole d)) (shrinks r) (λ s. within (decides_turns S _ h) r)
  within h (run_fold q r) (at_whole (is_fold d e)) = fold_within (decides_base_apart S h) (agree (decides_base S h) q d) (at_whole e) (within (decides_base S h) q (at_whole d)) (shrinks r) (λ s. within (decides_turns S _ h) r)
  within h (run_base q) (in_base b) = within (decides_base S h) q b
  within h (run_base q) (after_base d b) = fold_within_bad (decides_base_apart S h) (agree (decides_base S h) q d) b (within (decides_base S h) q (at_whole d))
  within h (run_base q) (at_whole (is_fold d e)) = fold_within_bad (decides_base_apart S h) (agree (decides_base S h) q d) (at_whole e) (within (decides_base S h) q (at_whole d))
  within h (run_chosen {q} {m} {t} {n} e l k) (in_chosen {n = n2} e2 b) = chosen_within q t n n2 e e2 (λ r. within (known.decides n) k) b
  within h (run_chosen {q} {m} {t} {n} e l k) (at_whole (is_chosen {n = n2} e2 l2 d)) = chosen_within q t n n2 e e2 (λ r. within (known.decides n) k) (at_whole d)
  within h (run_chosen_bad {q} {m} {t} {n} e k) (in_chosen {n = n2} e2 b) = chosen_within q t n n2 e e2 (λ r. within (known.decides n) k) b
  within h (run_chosen_bad {q} {m} {t} {n} e k) (at_whole (is_chosen {n = n2} e2 l2 d)) = chosen_within q t n n2 e e2 (λ r. within (known.decides n) k) (at_whole d)
  within h (run_unchosen e) (in_chosen e2 b) = absurd (cc)
  within h (run_unchosen e) (at_whole (is_chosen e2 l2 d)) = absurd (cc)
  within h run_chosen_end (at_whole d) = elim d [ ]
  within h (run_rule {n} q) (in_rule b) = within (known.decides n) q b
  within h (run_rule {n} q) (at_whole (is_rule d)) = within (known.decides n) q (at_whole d)
