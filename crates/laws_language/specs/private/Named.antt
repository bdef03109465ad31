-- At which places of its tokens the grammar of the query language reads a name.
use Rattle.std.specs.Prelude.{◌≡◌, ◌≤◌, ℕ, length, ◌&&◌, not, Bool, true, false, Option, Some, List, [], ◌∷◌, ◌++◌, take, drop, if◌then◌else◌}
use Rattle.pr_forms.specs.Form.{Form, token, pair, either, turns, fold, chosen, rule, Reads}
use Rattle.pr_ast.specs.declared.lex.token.Sign.TheVariants.{LeftParen}
use Rattle.pr_parse.specs.declared.grammar.kind.TokenClass.{TokenClass}
use Rattle.pr_parse.specs.declared.grammar.kind.TokenClass.TheVariants.{Function, Sign}
use Rattle.pr_parse.specs.declared.fault.ParseKind.{ParseKind}
use Rattle.pr_parse.specs.declared.fault.ParseKind.TheVariants.{Unexpected, UnknownFunction}
use Rattle.pr_parse.specs.Seen.{Seen, kinds_seen}
use Rattle.pr_parse.specs.Grammar.{production, expression, QueryValue, word}
use Rattle.pr_parse.specs.Faults.{kind_before, kind_at}

-- The tokens before `rest` are a beginning of the form, in which it takes the last of them as a
-- token, with this value.
pub data TakesLast {T N V : Type 0} (G : N → Form T N V) : Form T N V → List T → V → List T → Type 0 where
  last_token : {p : T → Option V} {t : T} {v : V} {rest : List T} → p t ≡ Some v → TakesLast G (token p) (t ∷ rest) v rest
  last_first : {c : V → V → V} {f g : Form T N V} {ts rest : List T} {v : V} → TakesLast G f ts v rest → TakesLast G (pair c f g) ts v rest
  last_second : {c : V → V → V} {f g : Form T N V} {ts mid rest : List T} {u v : V} →
      Reads G f ts u mid → TakesLast G g mid v rest → TakesLast G (pair c f g) ts v rest
  last_left : {f g : Form T N V} {ts rest : List T} {v : V} → TakesLast G f ts v rest → TakesLast G (either f g) ts v rest
  last_right : {f g : Form T N V} {ts rest : List T} {v : V} → TakesLast G g ts v rest → TakesLast G (either f g) ts v rest
  last_turn : {c : V → V → V} {g : Form T N V} {ts rest : List T} {u v : V} → TakesLast G g ts v rest → TakesLast G (turns c u g) ts v rest
  last_after : {c : V → V → V} {g : Form T N V} {ts mid rest : List T} {u w v : V} →
      Reads G g ts w mid → TakesLast G (turns c (c u w) g) mid v rest → TakesLast G (turns c u g) ts v rest
  last_base : {c : V → V → V} {f g : Form T N V} {ts rest : List T} {v : V} → TakesLast G f ts v rest → TakesLast G (fold c f g) ts v rest
  last_more : {c : V → V → V} {f g : Form T N V} {ts mid rest : List T} {u v : V} →
      Reads G f ts u mid → TakesLast G (turns c u g) mid v rest → TakesLast G (fold c f g) ts v rest
  last_chosen : {q : T → Option N} {m : T → Bool} {t : T} {n : N} {ts rest : List T} {v : V} →
      q t ≡ Some n → TakesLast G (G n) (t ∷ ts) v rest → TakesLast G (chosen q m) (t ∷ ts) v rest
  last_rule : {n : N} {ts rest : List T} {v : V} → TakesLast G (G n) ts v rest → TakesLast G (rule n) ts v rest

-- The tokens before `rest` are the form whole, with the value `w`, and in reading them it takes the
-- one before `at` as a token, with the value `v`.
pub data TakesWithin {T N V : Type 0} (G : N → Form T N V) : Form T N V → List T → V → List T → V → List T → Type 0 where
  within_token : {p : T → Option V} {t : T} {v : V} {rest : List T} → p t ≡ Some v → TakesWithin G (token p) (t ∷ rest) v rest v rest
  within_first : {c : V → V → V} {f g : Form T N V} {ts at mid rest : List T} {v w x : V} →
      TakesWithin G f ts v at w mid → Reads G g mid x rest → TakesWithin G (pair c f g) ts v at (c w x) rest
  within_second : {c : V → V → V} {f g : Form T N V} {ts at mid rest : List T} {v w x : V} →
      Reads G f ts w mid → TakesWithin G g mid v at x rest → TakesWithin G (pair c f g) ts v at (c w x) rest
  within_left : {f g : Form T N V} {ts at rest : List T} {v w : V} → TakesWithin G f ts v at w rest → TakesWithin G (either f g) ts v at w rest
  within_right : {f g : Form T N V} {ts at rest : List T} {v w : V} → TakesWithin G g ts v at w rest → TakesWithin G (either f g) ts v at w rest
  within_turn : {c : V → V → V} {g : Form T N V} {ts at mid rest : List T} {u v w x : V} →
      TakesWithin G g ts v at w mid → Reads G (turns c (c u w) g) mid x rest → TakesWithin G (turns c u g) ts v at x rest
  within_later : {c : V → V → V} {g : Form T N V} {ts at mid rest : List T} {u v w x : V} →
      Reads G g ts w mid → TakesWithin G (turns c (c u w) g) mid v at x rest → TakesWithin G (turns c u g) ts v at x rest
  within_base : {c : V → V → V} {f g : Form T N V} {ts at mid rest : List T} {u v w : V} →
      TakesWithin G f ts v at u mid → Reads G (turns c u g) mid w rest → TakesWithin G (fold c f g) ts v at w rest
  within_more : {c : V → V → V} {f g : Form T N V} {ts at mid rest : List T} {u v w : V} →
      Reads G f ts u mid → TakesWithin G (turns c u g) mid v at w rest → TakesWithin G (fold c f g) ts v at w rest
  within_chosen : {q : T → Option N} {m : T → Bool} {t : T} {n : N} {ts at rest : List T} {v w : V} →
      q t ≡ Some n → length rest ≤ length ts → TakesWithin G (G n) (t ∷ ts) v at w rest → TakesWithin G (chosen q m) (t ∷ ts) v at w rest
  within_rule : {n : N} {ts at rest : List T} {v w : V} → TakesWithin G (G n) ts v at w rest → TakesWithin G (rule n) ts v at w rest

-- Whether a token's value is a name: the grammar gives this value to a metric's name and to a
-- label, and to nothing else.
abbrev pub is_name : QueryValue → Bool
is_name (word p text) = true
is_name _ = false

-- whether a token is the name of a function
abbrev pub is_function : Option TokenClass → Bool
is_function (Some (Function f)) = true
is_function _ = false

-- whether a token with a value is read as a name, and is no function's
abbrev pub is_other_name : Option TokenClass → QueryValue → Bool
is_other_name kind v = is_name v && not (is_function kind)

-- The tokens before the place begin an expression, and the last of them is read as a metric's name
-- or as a label, and is no function's name.
pub record FollowsName (ts : List Seen) (place : ℕ) : Type 0 where
  pub value : QueryValue
  pub takes : TakesLast production (rule expression) ts value (drop place ts)
  pub named : is_other_name (kind_before (kinds_seen ts) place) value ≡ true

-- the kind of a parenthesis with which no expression can go on, after a token of a kind that is
-- read as a value
abbrev pub paren_kind : Option TokenClass → QueryValue → ParseKind
paren_kind before v = if is_other_name before v then UnknownFunction else Unexpected

-- the kind that a parenthesis would have after so many of the tokens
abbrev pub paren_after : List TokenClass → ℕ → ParseKind
paren_after ks place = kind_at (take place ks ++ Sign LeftParen ∷ []) place
