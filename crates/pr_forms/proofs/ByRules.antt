-- What holds of the values that the rules of a grammar read, shown one production at a time.
use Rattle.std.proofs.Common.{◌≡◌, List, [], ◌∷◌, Option, Some, Bool}
use Rattle.pr_forms.specs.Form.{Form, token, nothing, pair, either, turns, fold, chosen, rule, Reads, is_token, is_nothing, is_pair, is_left, is_right, is_stop, is_turn, is_fold, is_chosen, is_rule}

-- Something is so of each token.
abbrev pub Each : {T : Type 0} → (T → Type 0) → List T → Type 0
Each C [] = Unit {0}
Each C (t ∷ ts) = C t × Each C ts

-- The form may have the value, where C is so of tokens and P of the values of rules.
pub data Meets {T N V : Type 0} (C : T → Type 0) (P : N → V → Type 0) : Form T N V → V → Type 0 where
  by_token : {p : T → Option V} {t : T} {v : V} → C t → p t ≡ Some v → Meets C P (token p) v
  by_nothing : {v : V} → Meets C P (nothing v) v
  by_pair : {c : V → V → V} {f g : Form T N V} {v w : V} → Meets C P f v → Meets C P g w → Meets C P (pair c f g) (c v w)
  by_left : {f g : Form T N V} {v : V} → Meets C P f v → Meets C P (either f g) v
  by_right : {f g : Form T N V} {v : V} → Meets C P g v → Meets C P (either f g) v
  by_stop : {c : V → V → V} {g : Form T N V} {v : V} → Meets C P (turns c v g) v
  by_turn : {c : V → V → V} {g : Form T N V} {v w x : V} → Meets C P g w → Meets C P (turns c (c v w) g) x → Meets C P (turns c v g) x
  by_fold : {c : V → V → V} {f g : Form T N V} {v w : V} → Meets C P f v → Meets C P (turns c v g) w → Meets C P (fold c f g) w
  by_choice : {q : T → Option N} {m : T → Bool} {t : T} {n : N} {v : V} → C t → q t ≡ Some n → P n v → Meets C P (chosen q m) v
  by_rule : {n : N} {v : V} → P n v → Meets C P (rule n) v

module _ {T N V : Type 0} (G : N → Form T N V) (C : T → Type 0) (P : N → V → Type 0) where
  rest_each : {f : Form T N V} {ts rest : List T} {v : V} → Reads G f ts v rest → Each C ts → Each C rest
  rest_each (is_token e) h = h.1
  rest_each is_nothing h = h
  rest_each (is_pair d k) h = rest_each k (rest_each d h)
  rest_each (is_left d) h = rest_each d h
  rest_each (is_right d) h = rest_each d h
  rest_each is_stop h = h
  rest_each (is_turn d k) h = rest_each k (rest_each d h)
  rest_each (is_fold d k) h = rest_each k (rest_each d h)
  rest_each (is_chosen e l d) h = rest_each d h
  rest_each (is_rule d) h = rest_each d h

  -- where each production keeps P, P holds of what the rules read
  pub by_rules : ((n : N) (v : V) → Meets C P (G n) v → P n v) → {f : Form T N V} {ts rest : List T} {v : V} → Reads G f ts v rest → Each C ts → Meets C P f v
  by_rules step (is_token e) h = by_token h.0 e
  by_rules step is_nothing h = by_nothing
  by_rules step (is_pair d k) h = by_pair (by_rules step d h) (by_rules step k (rest_each d h))
  by_rules step (is_left d) h = by_left (by_rules step d h)
  by_rules step (is_right d) h = by_right (by_rules step d h)
  by_rules step is_stop h = by_stop
  by_rules step (is_turn d k) h = by_turn (by_rules step d h) (by_rules step k (rest_each d h))
  by_rules step (is_fold d k) h = by_fold (by_rules step d h) (by_rules step k (rest_each d h))
  by_rules step (is_chosen e l d) h = by_choice h.0 e (step _ _ (by_rules step d h))
  by_rules step (is_rule d) h = by_rule (step _ _ (by_rules step d h))
