-- A reader of forms that looks at one token ahead and never goes back: what the functions of a
-- parser say of themselves.
use Rattle.std.specs.Prelude.{◌≡◌, Option, Some, None, List, [], ◌∷◌, Bool, true, false, length, ◌<◌, ◌≤◌}
use Rattle.pr_forms.specs.Form.{Form, token, nothing, pair, either, turns, fold, rule, chosen}
use Rattle.pr_forms.specs.Table.{Table, is_next}

-- What a reader gives: a value and the tokens left, or the tokens from the first bad one on.
pub data ReaderOutcome (T V : Type 0) : Type 0 where
  good : V → List T → ReaderOutcome T V
  bad : List T → ReaderOutcome T V

-- the tokens that are left
abbrev pub left_of : {T V : Type 0} → ReaderOutcome T V → List T
left_of (good v rest) = rest
left_of (bad rest) = rest

-- The reader of the form, begun at the tokens, gives the outcome.
pub data Runs {T N V : Type 0} (G : N → Form T N V) (S : Table T N) : Form T N V → List T → ReaderOutcome T V → Type 0 where
  run_token : {p : T → Option V} {t : T} {v : V} {rest : List T} → p t ≡ Some v → Runs G S (token p) (t ∷ rest) (good v rest)
  run_other : {p : T → Option V} {t : T} {rest : List T} → p t ≡ None → Runs G S (token p) (t ∷ rest) (bad (t ∷ rest))
  run_end : {p : T → Option V} → Runs G S (token p) [] (bad [])
  run_nothing : {v : V} {rest : List T} → Runs G S (nothing v) rest (good v rest)
  run_pair : {c : V → V → V} {f g : Form T N V} {ts mid rest : List T} {v w : V} →
      Runs G S f ts (good v mid) → Runs G S g mid (good w rest) → Runs G S (pair c f g) ts (good (c v w) rest)
  run_first : {c : V → V → V} {f g : Form T N V} {ts rest : List T} → Runs G S f ts (bad rest) → Runs G S (pair c f g) ts (bad rest)
  run_second : {c : V → V → V} {f g : Form T N V} {ts mid rest : List T} {v : V} →
      Runs G S f ts (good v mid) → Runs G S g mid (bad rest) → Runs G S (pair c f g) ts (bad rest)
  run_left : {f g : Form T N V} {ts : List T} {o : ReaderOutcome T V} →
      is_next S f ts ≡ true → Runs G S f ts o → Runs G S (either f g) ts o
  run_right : {f g : Form T N V} {ts : List T} {o : ReaderOutcome T V} →
      is_next S f ts ≡ false → Runs G S g ts o → Runs G S (either f g) ts o
  run_stop : {c : V → V → V} {g : Form T N V} {v : V} {ts : List T} → is_next S g ts ≡ false → Runs G S (turns c v g) ts (good v ts)
  run_turn : {c : V → V → V} {g : Form T N V} {ts mid : List T} {v w : V} {o : ReaderOutcome T V} →
      is_next S g ts ≡ true → Runs G S g ts (good w mid) → Runs G S (turns c (c v w) g) mid o → Runs G S (turns c v g) ts o
  run_in_turn : {c : V → V → V} {g : Form T N V} {ts rest : List T} {v : V} →
      is_next S g ts ≡ true → Runs G S g ts (bad rest) → Runs G S (turns c v g) ts (bad rest)
  run_fold : {c : V → V → V} {f g : Form T N V} {ts mid : List T} {v : V} {o : ReaderOutcome T V} →
      Runs G S f ts (good v mid) → Runs G S (turns c v g) mid o → Runs G S (fold c f g) ts o
  run_base : {c : V → V → V} {f g : Form T N V} {ts rest : List T} → Runs G S f ts (bad rest) → Runs G S (fold c f g) ts (bad rest)
  run_chosen : {q : T → Option N} {m : T → Bool} {t : T} {n : N} {ts rest : List T} {v : V} → q t ≡ Some n → length rest ≤ length ts →
      Runs G S (G n) (t ∷ ts) (good v rest) → Runs G S (chosen q m) (t ∷ ts) (good v rest)
  run_chosen_bad : {q : T → Option N} {m : T → Bool} {t : T} {n : N} {ts rest : List T} → q t ≡ Some n →
      Runs G S (G n) (t ∷ ts) (bad rest) → Runs G S (chosen q m) (t ∷ ts) (bad rest)
  run_unchosen : {q : T → Option N} {m : T → Bool} {t : T} {ts : List T} → q t ≡ None → Runs G S (chosen q m) (t ∷ ts) (bad (t ∷ ts))
  run_chosen_end : {q : T → Option N} {m : T → Bool} → Runs G S (chosen q m) [] (bad [])
  run_rule : {n : N} {ts : List T} {o : ReaderOutcome T V} → Runs G S (G n) ts o → Runs G S (rule n) ts o

-- The form is read, from its first token on.
pub record Takes {T N V : Type 0} (G : N → Form T N V) (S : Table T N) (f : Form T N V) (ts : List T) (v : V) (rest : List T) : Type 0 where
  pub gives : Runs G S f ts (good v rest)
  pub next : is_next S f ts ≡ true
  pub shorter : length rest < length ts

-- The next token does not start the form.
pub record Lacks {T N V : Type 0} (G : N → Form T N V) (S : Table T N) (f : Form T N V) (ts : List T) : Type 0 where
  pub gives : Runs G S f ts (bad ts)
  pub next : is_next S f ts ≡ false
