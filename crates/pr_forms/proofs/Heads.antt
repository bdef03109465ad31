-- What a reading and a beginning start with.
use Rattle.std.proofs.Common.{◌≡◌, List, [], ◌∷◌, Bool, true, false, refl, ap, sym, ◌∙◌}
use Rattle.std.specs.Prelude.{◌||◌, ◌&&◌, is_some}
use Rattle.pr_forms.specs.Form.{Form, pair, either, turns, fold, rule, Reads, is_chosen, is_token, is_nothing, is_pair, is_left, is_right, is_stop, is_turn, is_fold, is_rule}
use Rattle.pr_forms.specs.Form.{Begins, in_chosen, at_start, at_whole, in_first, in_second, in_left, in_right, in_turn, after_turn, in_base, after_base, in_rule}
use Rattle.pr_forms.specs.Table.{Table, empty_of, starts_of, is_next, is_more, IsDecided}

pub or_left : (a b : Bool) → a ≡ true → a || b ≡ true
or_left a b e = rw e refl

pub or_right : (a b : Bool) → b ≡ true → a || b ≡ true
or_right true b e = refl
or_right false b e = e

pub and_both : (a b : Bool) → a ≡ true → b ≡ true → a && b ≡ true
and_both a b e h = rw (e, h) refl

pub and_first : (a b : Bool) → a && b ≡ true → a ≡ true
and_first true b e = refl
and_first false b e = e

pub and_second : (a b : Bool) → a && b ≡ true → b ≡ true
and_second true b e = e
and_second false b e = cc

-- Each fact is a record, so that its form and its tokens are found from it.
pub record Empty {T N V : Type 0} (S : Table T N) (f : Form T N V) : Type 0 where
  pub is : empty_of S f ≡ true

pub record Next {T N V : Type 0} (S : Table T N) (f : Form T N V) (ts : List T) : Type 0 where
  pub is : is_next S f ts ≡ true

pub record More {T N V : Type 0} (S : Table T N) (f : Form T N V) (ts : List T) : Type 0 where
  pub is : is_more S f ts ≡ true

-- what a reading starts with: nothing is read, and the form may be empty, or the next token starts
-- it
pub data Starts {T N V : Type 0} (S : Table T N) (f : Form T N V) (ts : List T) : List T → Type 0 where
  empty : Empty S f → Starts S f ts ts
  next : {rest : List T} → Next S f ts → Starts S f ts rest

pub data Moves {T N V : Type 0} (S : Table T N) (f : Form T N V) (ts : List T) : List T → Type 0 where
  none : Moves S f ts ts
  some : {rest : List T} → Next S f ts → Moves S f ts rest

module _ {T N V : Type 0} (S : Table T N) where
  next_first-walk : (c : V → V → V) (f g : Form T N V) (ts : List T) → is_next S f ts ≡ true → is_next S (pair c f g) ts ≡ true
  next_first-walk c f g [] e = e
  next_first-walk c f g (t ∷ ts) e = or_left _ _ e

  next_first : {c : V → V → V} {f g : Form T N V} {ts : List T} → Next S f ts → Next S (pair c f g) ts
  next_first {c} {f} {g} {ts} e = record { is = next_first-walk c f g ts e.is }

  next_second-walk : (c : V → V → V) (f g : Form T N V) (ts : List T) → empty_of S f ≡ true → is_next S g ts ≡ true → is_next S (pair c f g) ts ≡ true
  next_second-walk c f g [] h e = e
  next_second-walk c f g (t ∷ ts) h e = or_right (starts_of S f t) _ (and_both _ _ h e)

  next_second : {c : V → V → V} {f g : Form T N V} {ts : List T} → Empty S f → Next S g ts → Next S (pair c f g) ts
  next_second {c} {f} {g} {ts} h e = record { is = next_second-walk c f g ts h.is e.is }

  next_left-walk : (f g : Form T N V) (ts : List T) → is_next S f ts ≡ true → is_next S (either f g) ts ≡ true
  next_left-walk f g [] e = e
  next_left-walk f g (t ∷ ts) e = or_left _ _ e

  next_left : {f g : Form T N V} {ts : List T} → Next S f ts → Next S (either f g) ts
  next_left {f} {g} {ts} e = record { is = next_left-walk f g ts e.is }

  next_right-walk : (f g : Form T N V) (ts : List T) → is_next S g ts ≡ true → is_next S (either f g) ts ≡ true
  next_right-walk f g [] e = e
  next_right-walk f g (t ∷ ts) e = or_right (starts_of S f t) _ e

  next_right : {f g : Form T N V} {ts : List T} → Next S g ts → Next S (either f g) ts
  next_right {f} {g} {ts} e = record { is = next_right-walk f g ts e.is }

  next_turns-walk : (c : V → V → V) (v : V) (g : Form T N V) (ts : List T) → is_next S g ts ≡ true → is_next S (turns c v g) ts ≡ true
  next_turns-walk c v g [] e = e
  next_turns-walk c v g (t ∷ ts) e = e

  next_turns : {c : V → V → V} {v : V} {g : Form T N V} {ts : List T} → Next S g ts → Next S (turns c v g) ts
  next_turns {c} {v} {g} {ts} e = record { is = next_turns-walk c v g ts e.is }

  next_of_turns-walk : (c : V → V → V) (v : V) (g : Form T N V) (ts : List T) → is_next S (turns c v g) ts ≡ true → is_next S g ts ≡ true
  next_of_turns-walk c v g [] e = e
  next_of_turns-walk c v g (t ∷ ts) e = e

  pub next_of_turns : {c : V → V → V} {v : V} {g : Form T N V} {ts : List T} → Next S (turns c v g) ts → Next S g ts
  next_of_turns {c} {v} {g} {ts} e = record { is = next_of_turns-walk c v g ts e.is }

  next_base-walk : (c : V → V → V) (f g : Form T N V) (ts : List T) → is_next S f ts ≡ true → is_next S (fold c f g) ts ≡ true
  next_base-walk c f g [] e = e
  next_base-walk c f g (t ∷ ts) e = or_left _ _ e

  next_base : {c : V → V → V} {f g : Form T N V} {ts : List T} → Next S f ts → Next S (fold c f g) ts
  next_base {c} {f} {g} {ts} e = record { is = next_base-walk c f g ts e.is }

  next_past-walk : (c : V → V → V) (f g : Form T N V) (ts : List T) → empty_of S f ≡ true → is_next S g ts ≡ true → is_next S (fold c f g) ts ≡ true
  next_past-walk c f g [] h e = e
  next_past-walk c f g (t ∷ ts) h e = or_right (starts_of S f t) _ (and_both _ _ h e)

  next_past : {c : V → V → V} {f g : Form T N V} {ts : List T} → Empty S f → Next S g ts → Next S (fold c f g) ts
  next_past {c} {f} {g} {ts} h e = record { is = next_past-walk c f g ts h.is e.is }

  starts_pair : {c : V → V → V} {f g : Form T N V} {ts mid rest : List T} → Starts S f ts mid → Starts S g mid rest → Starts S (pair c f g) ts rest
  starts_pair (empty e) (empty h) = empty (record { is = and_both _ _ e.is h.is })
  starts_pair (empty e) (next h) = next (next_second e h)
  starts_pair (next e) k = next (next_first e)

  starts_left : {f g : Form T N V} {ts rest : List T} → Starts S f ts rest → Starts S (either f g) ts rest
  starts_left (empty e) = empty (record { is = or_left _ _ e.is })
  starts_left (next e) = next (next_left e)

  starts_right : {f g : Form T N V} {ts rest : List T} → Starts S g ts rest → Starts S (either f g) ts rest
  starts_right {f} (empty e) = empty (record { is = or_right (empty_of S f) _ e.is })
  starts_right (next e) = next (next_right e)

  starts_turns : {c : V → V → V} {v w : V} {g : Form T N V} {ts mid rest : List T} → Starts S g ts mid → Starts S (turns c w g) mid rest → Starts S (turns c v g) ts rest
  starts_turns (empty e) (empty h) = empty (record { is = refl })
  starts_turns (empty e) (next h) = next (next_turns (next_of_turns h))
  starts_turns (next e) k = next (next_turns e)

  starts_fold : {c : V → V → V} {v : V} {f g : Form T N V} {ts mid rest : List T} → Starts S f ts mid → Starts S (turns c v g) mid rest → Starts S (fold c f g) ts rest
  starts_fold (empty e) (empty h) = empty (record { is = e.is })
  starts_fold (empty e) (next h) = next (next_past e (next_of_turns h))
  starts_fold (next e) k = next (next_base e)

  moves_of : {f : Form T N V} {ts rest : List T} → Starts S f ts rest → Moves S f ts rest
  moves_of (empty e) = none
  moves_of (next e) = some e

  moves_first : {c : V → V → V} {f g : Form T N V} {ts rest : List T} → Moves S f ts rest → Moves S (pair c f g) ts rest
  moves_first none = none
  moves_first (some e) = some (next_first e)

  moves_second : {c : V → V → V} {f g : Form T N V} {ts mid rest : List T} → Starts S f ts mid → Moves S g mid rest → Moves S (pair c f g) ts rest
  moves_second (empty e) none = none
  moves_second (empty e) (some h) = some (next_second e h)
  moves_second (next e) k = some (next_first e)

  moves_left : {f g : Form T N V} {ts rest : List T} → Moves S f ts rest → Moves S (either f g) ts rest
  moves_left none = none
  moves_left (some e) = some (next_left e)

  moves_right : {f g : Form T N V} {ts rest : List T} → Moves S g ts rest → Moves S (either f g) ts rest
  moves_right none = none
  moves_right (some e) = some (next_right e)

  moves_turn : {c : V → V → V} {v : V} {g : Form T N V} {ts rest : List T} → Moves S g ts rest → Moves S (turns c v g) ts rest
  moves_turn none = none
  moves_turn (some e) = some (next_turns e)

  moves_later : {c : V → V → V} {v w : V} {g : Form T N V} {ts mid rest : List T} → Starts S g ts mid → Moves S (turns c w g) mid rest → Moves S (turns c v g) ts rest
  moves_later (empty e) none = none
  moves_later (empty e) (some h) = some (next_turns (next_of_turns h))
  moves_later (next e) k = some (next_turns e)

  moves_base : {c : V → V → V} {f g : Form T N V} {ts rest : List T} → Moves S f ts rest → Moves S (fold c f g) ts rest
  moves_base none = none
  moves_base (some e) = some (next_base e)

  moves_past : {c : V → V → V} {v : V} {f g : Form T N V} {ts mid rest : List T} → Starts S f ts mid → Moves S (turns c v g) mid rest → Moves S (fold c f g) ts rest
  moves_past (empty e) none = none
  moves_past (empty e) (some h) = some (next_past e (next_of_turns h))
  moves_past (next e) k = some (next_base e)

module _ {T N V : Type 0} (G : N → Form T N V) (S : Table T N) (known : IsDecided G S) where
  next_rule : (n : N) (ts : List T) → is_next S (G n) ts ≡ true → is_next {V = V} S (rule n) ts ≡ true
  next_rule n [] e = e
  next_rule n (t ∷ ts) e = sym (known.starts n t) ∙ e

  starts_rule : (n : N) {ts rest : List T} → Starts S (G n) ts rest → Starts {V = V} S (rule n) ts rest
  starts_rule n (empty e) = empty (record { is = sym (known.empty n) ∙ e.is })
  starts_rule n {ts} (next e) = next (record { is = next_rule n ts e.is })

  moves_rule : (n : N) {ts rest : List T} → Moves S (G n) ts rest → Moves {V = V} S (rule n) ts rest
  moves_rule n none = none
  moves_rule n {ts} (some e) = some (record { is = next_rule n ts e.is })

  pub starts : {f : Form T N V} {ts rest : List T} {v : V} → Reads G f ts v rest → Starts S f ts rest
  starts (is_token e) = next (record { is = ap is_some e })
  starts is_nothing = empty (record { is = refl })
  starts (is_pair h k) = starts_pair S (starts h) (starts k)
  starts (is_left h) = starts_left S (starts h)
  starts (is_right h) = starts_right S (starts h)
  starts is_stop = empty (record { is = refl })
  starts (is_turn h k) = starts_turns S (starts h) (starts k)
  starts (is_fold h k) = starts_fold S (starts h) (starts k)
  starts (is_chosen {n = n} e l h) = next (record { is = ap is_some e })
  starts (is_rule {n} h) = starts_rule n (starts h)

  pub moves : {f : Form T N V} {ts rest : List T} → Begins G f ts rest → Moves S f ts rest
  moves at_start = none
  moves (at_whole h) = moves_of S (starts h)
  moves (in_first h) = moves_first S (moves h)
  moves (in_second h k) = moves_second S (starts h) (moves k)
  moves (in_left h) = moves_left S (moves h)
  moves (in_right h) = moves_right S (moves h)
  moves (in_turn h) = moves_turn S (moves h)
  moves (after_turn h k) = moves_later S (starts h) (moves k)
  moves (in_base h) = moves_base S (moves h)
  moves (after_base h k) = moves_past S (starts h) (moves k)
  moves (in_chosen {n = n} e h) = some (record { is = ap is_some e })
  moves (in_rule {n} h) = moves_rule n (moves h)
