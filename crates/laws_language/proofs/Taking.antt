-- A beginning is none at all, or ends in a token that the form takes.
use Rattle.std.proofs.Common.{◌≡◌, ℕ, suc, ◌<◌, Bool, Option, Some, List, ◌∷◌, length, drop, arith, length-drop}
use Rattle.pr_forms.specs.Form.{Form, pair, either, turns, fold, chosen, rule, Reads, is_chosen, is_token, is_nothing, is_pair, is_left, is_right, is_stop, is_turn, is_fold, is_rule, Begins, in_chosen, at_start, at_whole, in_first, in_second, in_left, in_right, in_turn, after_turn, in_base, after_base, in_rule}
use Rattle.laws_language.specs.private.Named.{TakesLast, last_token, last_first, last_second, last_left, last_right, last_turn, last_after, last_base, last_more, last_chosen, last_rule}

data Starts {T N V : Type 0} (G : N → Form T N V) (f : Form T N V) : List T → List T → Type 0 where
  none_yet : {ts : List T} → Starts G f ts ts
  taken : {ts rest : List T} {v : V} → TakesLast G f ts v rest → Starts G f ts rest

module _ {T N V : Type 0} {G : N → Form T N V} where
  of_first : {c : V → V → V} {f g : Form T N V} {ts rest : List T} → Starts G f ts rest → Starts G (pair c f g) ts rest
  of_first none_yet = none_yet
  of_first (taken h) = taken (last_first h)

  of_second : {c : V → V → V} {f g : Form T N V} {ts mid rest : List T} {u : V} → Reads G f ts u mid → Starts G f ts mid → Starts G g mid rest → Starts G (pair c f g) ts rest
  of_second d a none_yet = of_first a
  of_second d a (taken h) = taken (last_second d h)

  of_left : {f g : Form T N V} {ts rest : List T} → Starts G f ts rest → Starts G (either f g) ts rest
  of_left none_yet = none_yet
  of_left (taken h) = taken (last_left h)

  of_right : {f g : Form T N V} {ts rest : List T} → Starts G g ts rest → Starts G (either f g) ts rest
  of_right none_yet = none_yet
  of_right (taken h) = taken (last_right h)

  of_turn : {c : V → V → V} {g : Form T N V} {u : V} {ts rest : List T} → Starts G g ts rest → Starts G (turns c u g) ts rest
  of_turn none_yet = none_yet
  of_turn (taken h) = taken (last_turn h)

  of_after : {c : V → V → V} {g : Form T N V} {u w : V} {ts mid rest : List T} → Reads G g ts w mid → Starts G g ts mid → Starts G (turns c (c u w) g) mid rest → Starts G (turns c u g) ts rest
  of_after d a none_yet = of_turn a
  of_after d a (taken h) = taken (last_after d h)

  of_base : {c : V → V → V} {f g : Form T N V} {ts rest : List T} → Starts G f ts rest → Starts G (fold c f g) ts rest
  of_base none_yet = none_yet
  of_base (taken h) = taken (last_base h)

  of_more : {c : V → V → V} {f g : Form T N V} {u : V} {ts mid rest : List T} → Reads G f ts u mid → Starts G f ts mid → Starts G (turns c u g) mid rest → Starts G (fold c f g) ts rest
  of_more d a none_yet = of_base a
  of_more d a (taken h) = taken (last_more d h)

  of_chosen : {q : T → Option N} {m : T → Bool} {t : T} {n : N} {ts rest : List T} → q t ≡ Some n → Starts G (G n) (t ∷ ts) rest → Starts G (chosen q m) (t ∷ ts) rest
  of_chosen e none_yet = none_yet
  of_chosen e (taken h) = taken (last_chosen e h)

  of_rule : {n : N} {ts rest : List T} → Starts G (G n) ts rest → Starts G (rule n) ts rest
  of_rule none_yet = none_yet
  of_rule (taken h) = taken (last_rule h)

  read_starts : {f : Form T N V} {ts rest : List T} {v : V} → Reads G f ts v rest → Starts G f ts rest
  read_starts (is_token e) = taken (last_token e)
  read_starts is_nothing = none_yet
  read_starts (is_pair d k) = of_second d (read_starts d) (read_starts k)
  read_starts (is_left d) = of_left (read_starts d)
  read_starts (is_right d) = of_right (read_starts d)
  read_starts is_stop = none_yet
  read_starts (is_turn d k) = of_after d (read_starts d) (read_starts k)
  read_starts (is_fold d k) = of_more d (read_starts d) (read_starts k)
  read_starts (is_chosen e l d) = of_chosen e (read_starts d)
  read_starts (is_rule d) = of_rule (read_starts d)

  begin_starts : {f : Form T N V} {ts rest : List T} → Begins G f ts rest → Starts G f ts rest
  begin_starts at_start = none_yet
  begin_starts (at_whole d) = read_starts d
  begin_starts (in_first b) = of_first (begin_starts b)
  begin_starts (in_second d b) = of_second d (read_starts d) (begin_starts b)
  begin_starts (in_left b) = of_left (begin_starts b)
  begin_starts (in_right b) = of_right (begin_starts b)
  begin_starts (in_turn b) = of_turn (begin_starts b)
  begin_starts (after_turn d b) = of_after d (read_starts d) (begin_starts b)
  begin_starts (in_base b) = of_base (begin_starts b)
  begin_starts (after_base d b) = of_more d (read_starts d) (begin_starts b)
  begin_starts (in_chosen e b) = of_chosen e (begin_starts b)
  begin_starts (in_rule b) = of_rule (begin_starts b)

  of_shorter : {f : Form T N V} {ts rest : List T} → length rest < length ts → Starts G f ts rest → (v : V) × TakesLast G f ts v rest
  of_shorter lt none_yet = absurd (omega arith)
  of_shorter lt (taken {v = v} h) = (v, h)

pub takes_last : {T N V : Type 0} (G : N → Form T N V) (f : Form T N V) (ts : List T) (place : ℕ) → place < length ts → Begins G f ts (drop (suc place) ts) → (v : V) × TakesLast G f ts v (drop (suc place) ts)
takes_last G f ts place lt b = of_shorter (let e = length-drop (suc place) ts in omega arith) (begin_starts b)
