-- Forms of texts over any kind of token: what they read, what is a beginning of them, and the first
-- bad place.
use Rattle.std.specs.Prelude.{◌≡◌, ◌≤◌, ◌<◌, ℕ, Option, Some, List, ◌∷◌, length, drop, Bool}

-- A form over tokens T, with rules named by N and values V. A grammar is a function from the names
-- of its rules to forms.
pub data Form (T N V : Type 0) : Type 0 where
  -- one token that has a value
  token : (T → Option V) → Form T N V
  -- no token, and a value
  nothing : V → Form T N V
  -- a sequence: one form and then another
  pair : (V → V → V) → Form T N V → Form T N V → Form T N V
  -- a choice: one form or the other
  either : Form T N V → Form T N V → Form T N V
  -- a repetition: any number of turns of a form, each of which is joined to the value so far
  turns : (V → V → V) → V → Form T N V → Form T N V
  -- a form, and then turns of another from its value on: what associates to the left
  fold : (V → V → V) → Form T N V → Form T N V → Form T N V
  -- the rule that the next token chooses, which reads that token too; the test says what may go on
  -- after such a rule
  chosen : (T → Option N) → (T → Bool) → Form T N V
  -- the form of a rule
  rule : N → Form T N V

-- The tokens before `rest` are the form whole, and have the value.
pub data Reads {T N V : Type 0} (G : N → Form T N V) : Form T N V → List T → V → List T → Type 0 where
  is_token : {p : T → Option V} {t : T} {v : V} {rest : List T} → p t ≡ Some v → Reads G (token p) (t ∷ rest) v rest
  is_nothing : {v : V} {rest : List T} → Reads G (nothing v) rest v rest
  is_pair : {c : V → V → V} {f g : Form T N V} {ts mid rest : List T} {v w : V} →
      Reads G f ts v mid → Reads G g mid w rest → Reads G (pair c f g) ts (c v w) rest
  is_left : {f g : Form T N V} {ts rest : List T} {v : V} → Reads G f ts v rest → Reads G (either f g) ts v rest
  is_right : {f g : Form T N V} {ts rest : List T} {v : V} → Reads G g ts v rest → Reads G (either f g) ts v rest
  is_stop : {c : V → V → V} {g : Form T N V} {v : V} {rest : List T} → Reads G (turns c v g) rest v rest
  is_turn : {c : V → V → V} {g : Form T N V} {ts mid rest : List T} {v w x : V} →
      Reads G g ts w mid → Reads G (turns c (c v w) g) mid x rest → Reads G (turns c v g) ts x rest
  is_fold : {c : V → V → V} {f g : Form T N V} {ts mid rest : List T} {v w : V} →
      Reads G f ts v mid → Reads G (turns c v g) mid w rest → Reads G (fold c f g) ts w rest
  is_chosen : {q : T → Option N} {m : T → Bool} {t : T} {n : N} {ts rest : List T} {v : V} →
      q t ≡ Some n → length rest ≤ length ts → Reads G (G n) (t ∷ ts) v rest → Reads G (chosen q m) (t ∷ ts) v rest
  is_rule : {n : N} {ts rest : List T} {v : V} → Reads G (G n) ts v rest → Reads G (rule n) ts v rest

-- The tokens before `rest` are a beginning of the form, whether or not any more tokens could make
-- it whole.
pub data Begins {T N V : Type 0} (G : N → Form T N V) : Form T N V → List T → List T → Type 0 where
  -- none at all, and all of a form that is read whole
  at_start : {f : Form T N V} {rest : List T} → Begins G f rest rest
  at_whole : {f : Form T N V} {ts rest : List T} {v : V} → Reads G f ts v rest → Begins G f ts rest
  -- in a sequence: within the first part, or past it and within the second
  in_first : {c : V → V → V} {f g : Form T N V} {ts rest : List T} → Begins G f ts rest → Begins G (pair c f g) ts rest
  in_second : {c : V → V → V} {f g : Form T N V} {ts mid rest : List T} {v : V} →
      Reads G f ts v mid → Begins G g mid rest → Begins G (pair c f g) ts rest
  -- in a choice: within either side
  in_left : {f g : Form T N V} {ts rest : List T} → Begins G f ts rest → Begins G (either f g) ts rest
  in_right : {f g : Form T N V} {ts rest : List T} → Begins G g ts rest → Begins G (either f g) ts rest
  -- in a repetition: within a turn, after as many whole ones as there may be
  in_turn : {c : V → V → V} {g : Form T N V} {ts rest : List T} {v : V} → Begins G g ts rest → Begins G (turns c v g) ts rest
  after_turn : {c : V → V → V} {g : Form T N V} {ts mid rest : List T} {v w : V} →
      Reads G g ts w mid → Begins G (turns c (c v w) g) mid rest → Begins G (turns c v g) ts rest
  -- in a form with turns after it: as in a sequence
  in_base : {c : V → V → V} {f g : Form T N V} {ts rest : List T} → Begins G f ts rest → Begins G (fold c f g) ts rest
  after_base : {c : V → V → V} {f g : Form T N V} {ts mid rest : List T} {v : V} →
      Reads G f ts v mid → Begins G (turns c v g) mid rest → Begins G (fold c f g) ts rest
  -- in a rule: within its form
  in_chosen : {q : T → Option N} {m : T → Bool} {t : T} {n : N} {ts rest : List T} →
      q t ≡ Some n → Begins G (G n) (t ∷ ts) rest → Begins G (chosen q m) (t ∷ ts) rest
  in_rule : {n : N} {ts rest : List T} → Begins G (G n) ts rest → Begins G (rule n) ts rest

-- The first bad place: the tokens before it can go on, and with its own they cannot. Where all can,
-- it is the end.
pub record IsFirstBad {T N V : Type 0} (G : N → Form T N V) (f : Form T N V) (ts : List T) (place : ℕ) : Type 0 where
  pub within : place ≤ length ts
  pub before : (k : ℕ) → k ≤ place → Begins G f ts (drop k ts)
  pub after : (k : ℕ) → place < k → k ≤ length ts → Begins G f ts (drop k ts) → ⊥
