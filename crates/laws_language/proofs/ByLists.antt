-- What holds of the readings of the rules of a grammar, with the tokens before and after, shown one
-- production at a time.
use Rattle.std.proofs.Common.{◌≡◌, List, ◌∷◌, Option, Some, Bool}
use Rattle.pr_forms.specs.Form.{Form, token, nothing, pair, either, turns, fold, chosen, rule, Reads, is_token, is_nothing, is_pair, is_left, is_right, is_stop, is_turn, is_fold, is_chosen, is_rule}

module _ {T N V : Type 0} (P : N → List T → V → List T → Type 0) where
  -- the form reads these tokens as this value, where P holds of the rules in it
  pub data Holds : Form T N V → List T → V → List T → Type 0 where
    by_token : {p : T → Option V} {t : T} {v : V} {rest : List T} → p t ≡ Some v → Holds (token p) (t ∷ rest) v rest
    by_nothing : {v : V} {rest : List T} → Holds (nothing v) rest v rest
    by_pair : {c : V → V → V} {f g : Form T N V} {ts mid rest : List T} {v w : V} → Holds f ts v mid → Holds g mid w rest → Holds (pair c f g) ts (c v w) rest
    by_left : {f g : Form T N V} {ts rest : List T} {v : V} → Holds f ts v rest → Holds (either f g) ts v rest
    by_right : {f g : Form T N V} {ts rest : List T} {v : V} → Holds g ts v rest → Holds (either f g) ts v rest
    by_stop : {c : V → V → V} {g : Form T N V} {v : V} {rest : List T} → Holds (turns c v g) rest v rest
    by_turn : {c : V → V → V} {g : Form T N V} {ts mid rest : List T} {v w x : V} → Holds g ts w mid → Holds (turns c (c v w) g) mid x rest → Holds (turns c v g) ts x rest
    by_fold : {c : V → V → V} {f g : Form T N V} {ts mid rest : List T} {v w : V} → Holds f ts v mid → Holds (turns c v g) mid w rest → Holds (fold c f g) ts w rest
    by_choice : {q : T → Option N} {m : T → Bool} {t : T} {n : N} {ts rest : List T} {v : V} → q t ≡ Some n → P n (t ∷ ts) v rest → Holds (chosen q m) (t ∷ ts) v rest
    by_rule : {n : N} {ts rest : List T} {v : V} → P n ts v rest → Holds (rule n) ts v rest

module _ {T N V : Type 0} (G : N → Form T N V) (P : N → List T → V → List T → Type 0) where
  -- where each production keeps P, P holds of what the rules read
  pub by_lists : ((n : N) (ts : List T) (v : V) (rest : List T) → Holds P (G n) ts v rest → P n ts v rest) → {f : Form T N V} {ts rest : List T} {v : V} → Reads G f ts v rest → Holds P f ts v rest
  by_lists step (is_token e) = by_token e
  by_lists step is_nothing = by_nothing
  by_lists step (is_pair d k) = by_pair (by_lists step d) (by_lists step k)
  by_lists step (is_left d) = by_left (by_lists step d)
  by_lists step (is_right d) = by_right (by_lists step d)
  by_lists step is_stop = by_stop
  by_lists step (is_turn d k) = by_turn (by_lists step d) (by_lists step k)
  by_lists step (is_fold d k) = by_fold (by_lists step d) (by_lists step k)
  by_lists step (is_chosen e l d) = by_choice e (step _ _ _ _ (by_lists step d))
  by_lists step (is_rule d) = by_rule (step _ _ _ _ (by_lists step d))
