-- What one token ahead decides: whether a form may be empty, what may start it, and what may go on
-- after it.
use Rattle.std.specs.Prelude.{◌≡◌, Some, List, [], ◌∷◌, Bool, true, false, ◌||◌, ◌&&◌, is_some}
use Rattle.pr_forms.specs.Form.{Form, token, nothing, pair, either, turns, fold, rule, chosen}

-- What is said of each rule of a grammar: whether it may read nothing, what it can start with, and
-- what can go on after a whole one.
pub record Table (T N : Type 0) : Type 0 where
  pub empty : N → Bool
  pub starts : N → T → Bool
  pub more : N → T → Bool

-- whether the form may read nothing
abbrev pub empty_of : {T N V : Type 0} → Table T N → Form T N V → Bool
empty_of S (token p) = false
empty_of S (nothing v) = true
empty_of S (pair c f g) = empty_of S f && empty_of S g
empty_of S (either f g) = empty_of S f || empty_of S g
empty_of S (turns c v g) = true
empty_of S (fold c f g) = empty_of S f
empty_of S (chosen q m) = false
empty_of S (rule n) = S.empty n

-- whether the form may start with the token
abbrev pub starts_of : {T N V : Type 0} → Table T N → Form T N V → T → Bool
starts_of S (token p) t = is_some (p t)
starts_of S (nothing v) t = false
starts_of S (pair c f g) t = starts_of S f t || (empty_of S f && starts_of S g t)
starts_of S (either f g) t = starts_of S f t || starts_of S g t
starts_of S (turns c v g) t = starts_of S g t
starts_of S (fold c f g) t = starts_of S f t || (empty_of S f && starts_of S g t)
starts_of S (chosen q m) t = is_some (q t)
starts_of S (rule n) t = S.starts n t

-- whether a whole form may go on with the token
abbrev pub more_of : {T N V : Type 0} → Table T N → Form T N V → T → Bool
more_of S (token p) t = false
more_of S (nothing v) t = false
more_of S (pair c f g) t = more_of S g t || (empty_of S g && (more_of S f t || starts_of S g t))
more_of S (either f g) t = more_of S f t || (more_of S g t || ((empty_of S f && starts_of S g t) || (empty_of S g && starts_of S f t)))
more_of S (turns c v g) t = starts_of S g t || more_of S g t
more_of S (fold c f g) t = more_of S f t || (starts_of S g t || more_of S g t)
more_of S (chosen q m) t = m t
more_of S (rule n) t = S.more n t

-- whether the next token is one that the form may start with
abbrev pub is_next : {T N V : Type 0} → Table T N → Form T N V → List T → Bool
is_next S f [] = false
is_next S f (t ∷ ts) = starts_of S f t

-- whether the next token is one that a whole form may go on with
abbrev pub is_more : {T N V : Type 0} → Table T N → Form T N V → List T → Bool
is_more S f [] = false
is_more S f (t ∷ ts) = more_of S f t

abbrev pub negation : Bool → Bool
negation true = false
negation false = true

-- whether no two ways through the form are open at the token: the sides of a choice start apart,
-- and what may go on after a part does not start the next one
abbrev pub parts_at : {T N V : Type 0} → Table T N → Form T N V → T → Bool
parts_at S (token p) t = true
parts_at S (nothing v) t = true
parts_at S (pair c f g) t = parts_at S f t && (parts_at S g t && negation (more_of S f t && starts_of S g t))
parts_at S (either f g) t = parts_at S f t && (parts_at S g t && negation (starts_of S f t && starts_of S g t))
parts_at S (turns c v g) t = parts_at S g t && negation (more_of S g t && starts_of S g t)
parts_at S (fold c f g) t = parts_at S f t && ((parts_at S g t && negation (more_of S g t && starts_of S g t)) && negation (more_of S f t && starts_of S g t))
parts_at S (chosen q m) t = true
parts_at S (rule n) t = true

-- whether no first side of a choice and no turn may be empty
abbrev pub is_solid : {T N V : Type 0} → Table T N → Form T N V → Bool
is_solid S (token p) = true
is_solid S (nothing v) = true
is_solid S (pair c f g) = is_solid S f && is_solid S g
is_solid S (either f g) = negation (empty_of S f) && (is_solid S f && is_solid S g)
is_solid S (turns c v g) = negation (empty_of S g) && is_solid S g
is_solid S (fold c f g) = is_solid S f && (negation (empty_of S g) && is_solid S g)
is_solid S (chosen q m) = true
is_solid S (rule n) = true

-- whether no rule is chosen by a token
abbrev pub is_plain : {T N V : Type 0} → Form T N V → Bool
is_plain (token p) = true
is_plain (nothing v) = true
is_plain (pair c f g) = is_plain f && is_plain g
is_plain (either f g) = is_plain f && is_plain g
is_plain (turns c v g) = is_plain g
is_plain (fold c f g) = is_plain f && is_plain g
is_plain (chosen q m) = false
is_plain (rule n) = true

-- What may go on after a chosen rule may go on after the choice.
abbrev pub Binds : {T N V : Type 0} → Table T N → Form T N V → Type 0
Binds S (token p) = Unit {0}
Binds S (nothing v) = Unit {0}
Binds S (pair c f g) = Binds S f × Binds S g
Binds S (either f g) = Binds S f × Binds S g
Binds S (turns c v g) = Binds S g
Binds S (fold c f g) = Binds S f × Binds S g
Binds {T} {N} S (chosen q m) = (t : T) (n : N) (u : T) → q t ≡ Some n → S.more n u ≡ true → m u ≡ true
Binds S (rule n) = Unit {0}

-- One token ahead decides the form.
pub record Decides {T N V : Type 0} (S : Table T N) (f : Form T N V) : Type 0 where
  pub at : (t : T) → parts_at S f t ≡ true
  pub solid : is_solid S f ≡ true
  pub binds : Binds S f

-- One token ahead decides the grammar: the table is what the productions compute, and each
-- production is decided.
pub record IsDecided {T N V : Type 0} (G : N → Form T N V) (S : Table T N) : Type 0 where
  pub empty : (n : N) → empty_of S (G n) ≡ S.empty n
  pub starts : (n : N) (t : T) → starts_of S (G n) t ≡ S.starts n t
  pub more : (n : N) (t : T) → more_of S (G n) t ≡ S.more n t
  pub decides : (n : N) → Decides S (G n)
