-- What holds of the rules of a grammar, where they read and what stands before and behind, shown
-- one production at a time.
use Rattle.std.proofs.Common.{◌≡◌, ◌≤◌, List, ◌∷◌, Option, Some, Bool, length}
use Rattle.pr_words.specs.pr_forms.Form.{Form, token, nothing, pair, either, turns, fold, chosen, rule, Reads, is_token, is_nothing, is_pair, is_left, is_right, is_stop, is_turn, is_fold, is_chosen, is_rule}

-- The form reads the tokens before the rest, where P is so of its rules.
pub data Built {T N V : Type 0} (P : N → List T → V → List T → Type 0) : Form T N V → List T → V → List T → Type 0 where
  of_token : {p : T → Option V} {t : T} {v : V} {rest : List T} → p t ≡ Some v → Built P (token p) (t ∷ rest) v rest
  of_nothing : {v : V} {rest : List T} → Built P (nothing v) rest v rest
  of_pair : {c : V → V → V} {f g : Form T N V} {ts mid rest : List T} {v w : V} → Built P f ts v mid → Built P g mid w rest → Built P (pair c f g) ts (c v w) rest
  of_left : {f g : Form T N V} {ts rest : List T} {v : V} → Built P f ts v rest → Built P (either f g) ts v rest
  of_right : {f g : Form T N V} {ts rest : List T} {v : V} → Built P g ts v rest → Built P (either f g) ts v rest
  of_stop : {c : V → V → V} {g : Form T N V} {v : V} {rest : List T} → Built P (turns c v g) rest v rest
  of_turn : {c : V → V → V} {g : Form T N V} {ts mid rest : List T} {v w x : V} → Built P g ts w mid → Built P (turns c (c v w) g) mid x rest → Built P (turns c v g) ts x rest
  of_fold : {c : V → V → V} {f g : Form T N V} {ts mid rest : List T} {v w : V} → Built P f ts v mid → Built P (turns c v g) mid w rest → Built P (fold c f g) ts w rest
  of_choice : {q : T → Option N} {m : T → Bool} {t : T} {n : N} {ts rest : List T} {v : V} → q t ≡ Some n → length rest ≤ length ts → P n (t ∷ ts) v rest → Built P (chosen q m) (t ∷ ts) v rest
  of_rule : {n : N} {ts rest : List T} {v : V} → P n ts v rest → Built P (rule n) ts v rest

module _ {T N V : Type 0} (G : N → Form T N V) (P : N → List T → V → List T → Type 0) (step : (n : N) (ts : List T) (v : V) (rest : List T) → Built P (G n) ts v rest → P n ts v rest) where
  -- where each production keeps P, P holds of what the rules read
  pub built : {f : Form T N V} {ts rest : List T} {v : V} → Reads G f ts v rest → Built P f ts v rest
  built (is_token e) = of_token e
  built is_nothing = of_nothing
  built (is_pair d k) = of_pair (built d) (built k)
  built (is_left d) = of_left (built d)
  built (is_right d) = of_right (built d)
  built is_stop = of_stop
  built (is_turn d k) = of_turn (built d) (built k)
  built (is_fold d k) = of_fold (built d) (built k)
  built (is_chosen e l d) = of_choice e l (step _ _ _ _ (built d))
  built (is_rule d) = of_rule (step _ _ _ _ (built d))
