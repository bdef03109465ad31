-- Where names are labels, and where parentheses have labels: what each rule stands before and
-- after.
use Rattle.std.proofs.Common.{◌≡◌, Bool, true, false, Option, Some, List, ◌∷◌, refl}
use Rattle.pr_forms.specs.Form.{Form, token, nothing, pair, either, turns, fold, chosen, rule, Reads, is_chosen, is_token, is_nothing, is_pair, is_left, is_right, is_stop, is_turn, is_fold, is_rule}
use Rattle.pr_ast.specs.declared.lex.token.Token.{Token}
use Rattle.pr_parse.specs.declared.grammar.kind.TokenClass.{TokenClass}
use Rattle.pr_parse.specs.Seen.{Seen, lexed}
use Rattle.pr_parse.specs.Grammar.{QueryValue}
use Rattle.pr_parse.specs.declared.grammar.kind.TokenClass.TheVariants.{Word, Plain, WithColon, OwnName}
use Rattle.pr_parse.specs.Faults.{begins_labels, names_after, is_called}
use Rattle.laws_language.specs.private.Named.{is_other_name, TakesLast, last_token, last_first, last_second, last_left, last_right, last_turn, last_after, last_base, last_more, last_chosen, last_rule}

-- whether names are labels
abbrev domain : {A B : Type 0} → (A → B) → Type 0
domain {A} f = A

abbrev pub Names : Type 0
Names = domain names_after

-- Outside labels and braces after any token, after one that labels do not follow, and after one
-- that they do; in labels; in braces.
pub data Spot : Type 0 where
  open_spot : Spot
  fresh : Spot
  marked : Spot
  listed : Spot
  braced : Spot

abbrev pub called_in : Spot → TokenClass → Bool
called_in listed (Word w) = true
called_in braced (Word w) = true
called_in a Plain = true
called_in a WithColon = true
called_in a OwnName = true
called_in a k = false

-- Names are told as in the spot.
abbrev pub TellsAs : Spot → Names → Type 0
TellsAs a names = (k : TokenClass) → is_called names (Some k) ≡ called_in a k

abbrev pub Stands : Spot → Names → Option TokenClass → Type 0
Stands fresh names before = TellsAs open_spot names × (begins_labels before ≡ false)
Stands marked names before = TellsAs open_spot names × (begins_labels before ≡ true)
Stands a names before = TellsAs a names

-- whether the first spot is one of the second
abbrev pub fits : Spot → Spot → Bool
fits open_spot open_spot = true
fits fresh open_spot = true
fits fresh fresh = true
fits marked open_spot = true
fits marked marked = true
fits listed listed = true
fits braced braced = true
fits _ _ = false

pub stands_too : (a b : Spot) (names : Names) (before : Option TokenClass) → fits a b ≡ true → Stands a names before → Stands b names before
stands_too open_spot open_spot names before e h = h
stands_too fresh fresh names before e h = h
stands_too marked marked names before e h = h
stands_too listed listed names before e h = h
stands_too braced braced names before e h = h
stands_too fresh open_spot names before e h = h.0
stands_too marked open_spot names before e h = h.0
stands_too _ _ names before e h = absurd (cc)

-- A token leads from one spot to the other, and is a name where the tokens tell so.
pub record Moves (a : Spot) (k : TokenClass) (v : QueryValue) (b : Spot) (names : Names) (before : Option TokenClass) : Type 0 where
  pub at : Stands b (names_after names before k) (Some k)
  pub told : is_called (names_after names before k) (Some k) ≡ is_other_name (Some k) v

-- The tokens lead from names and the token before them to others.
pub data Path : Names → Option TokenClass → List Seen → Names → Option TokenClass → List Seen → Type 0 where
  stay : {names : Names} {before : Option TokenClass} {ts : List Seen} → Path names before ts names before ts
  go : {names last : Names} {before end : Option TokenClass} {k : TokenClass} {t : Token} {ts rest : List Seen} →
      Path (names_after names before k) (Some k) ts last end rest → Path names before (lexed k t ∷ ts) last end rest

join : {names middle last : Names} {before between end : Option TokenClass} {ts mid rest : List Seen} →
    Path names before ts middle between mid → Path middle between mid last end rest → Path names before ts last end rest
join stay q = q
join (go p) q = go (join p q)

pub record Arrives (b : Spot) (names : Names) (before : Option TokenClass) (ts rest : List Seen) : Type 0 where
  pub last : Names
  pub end : Option TokenClass
  pub path : Path names before ts last end rest
  pub at : Stands b last end

pub record Tells (names : Names) (before : Option TokenClass) (ts : List Seen) (v : QueryValue) (rest : List Seen) : Type 0 where
  pub last : Names
  pub end : Option TokenClass
  pub path : Path names before ts last end rest
  pub told : is_called last end ≡ is_other_name end v

onward : {b c : Spot} {names : Names} {before : Option TokenClass} {ts mid rest : List Seen} (x : Arrives b names before ts mid) → Arrives c x.last x.end mid rest → Arrives c names before ts rest
onward x y = record { last = y.last; end = y.end; path = join x.path y.path; at = y.at }

told_onward : {b : Spot} {names : Names} {before : Option TokenClass} {ts mid rest : List Seen} {v : QueryValue} (x : Arrives b names before ts mid) → Tells x.last x.end mid v rest → Tells names before ts v rest
told_onward x y = record { last = y.last; end = y.end; path = join x.path y.path; told = y.told }

widened : {b c : Spot} {names : Names} {before : Option TokenClass} {ts rest : List Seen} → fits b c ≡ true → Arrives b names before ts rest → Arrives c names before ts rest
widened {b} {c} e x = record { last = x.last; end = x.end; path = x.path; at = stands_too b c x.last x.end e x.at }

module _ {N : Type 0} (from to : N → Spot) where
  -- The form leads from one spot to the other, where rules lead from theirs to theirs.
  abbrev pub GoesBetween : Spot → Form Seen N QueryValue → Spot → Type 0
  GoesBetween a (token p) b = (k : TokenClass) (t : Token) (v : QueryValue) → p (lexed k t) ≡ Some v → (names : Names) (before : Option TokenClass) → Stands a names before → Moves a k v b names before
  GoesBetween a (nothing v) b = fits a b ≡ true
  GoesBetween a (pair c f g) b = (mid : Spot) × (GoesBetween a f mid × GoesBetween mid g b)
  GoesBetween a (either f g) b = GoesBetween a f b × GoesBetween a g b
  GoesBetween a (turns c v g) b = (fits a b ≡ true) × GoesBetween b g b
  GoesBetween a (fold c f g) b = GoesBetween a f b × GoesBetween b g b
  GoesBetween a (chosen q m) b = ⊥
  GoesBetween a (rule n) b = (fits a (from n) ≡ true) × (fits (to n) b ≡ true)

  same_fits : (b : Spot) → fits b b ≡ true
  same_fits open_spot = refl
  same_fits fresh = refl
  same_fits marked = refl
  same_fits listed = refl
  same_fits braced = refl

  module _ (G : N → Form Seen N QueryValue) (rules : (n : N) → GoesBetween (from n) (G n) (to n)) where
    moved : {a b : Spot} {k : TokenClass} {t : Token} {v : QueryValue} {rest : List Seen} {names : Names} {before : Option TokenClass} → Moves a k v b names before → Arrives b names before (lexed k t ∷ rest) rest
    moved {k = k} {names = names} {before = before} m = record { last = names_after names before k; end = Some k; path = go stay; at = m.at }

    arrives : {f : Form Seen N QueryValue} {ts rest : List Seen} {v : QueryValue} → Reads G f ts v rest → (a b : Spot) → GoesBetween a f b → (names : Names) (before : Option TokenClass) → Stands a names before → Arrives b names before ts rest
    arrives (is_token {t = lexed k t} {v = v} e) a b h names before s = moved (h k t v e names before s)
    arrives is_nothing a b h names before s = record { last = names; end = before; path = stay; at = stands_too a b names before h s }
    arrives (is_pair d k) a b h names before s = let x = arrives d a h.0 h.1.0 names before s in onward x (arrives k h.0 b h.1.1 x.last x.end x.at)
    arrives (is_left d) a b h names before s = arrives d a b h.0 names before s
    arrives (is_right d) a b h names before s = arrives d a b h.1 names before s
    arrives is_stop a b h names before s = record { last = names; end = before; path = stay; at = stands_too a b names before h.0 s }
    arrives (is_turn d k) a b h names before s =
        let x = arrives d b b h.1 names before (stands_too a b names before h.0 s) in
        onward x (arrives k b b (same_fits b, h.1) x.last x.end x.at)
    arrives (is_fold d k) a b h names before s = let x = arrives d a b h.0 names before s in onward x (arrives k b b (same_fits b, h.1) x.last x.end x.at)
    arrives (is_chosen e l d) a b h names before s = absurd h
    arrives (is_rule {n = n} d) a b h names before s = widened h.1 (arrives d (from n) (to n) (rules n) names before (stands_too a (from n) names before h.0 s))

    pub tells : {f : Form Seen N QueryValue} {ts rest : List Seen} {v : QueryValue} → TakesLast G f ts v rest → (a b : Spot) → GoesBetween a f b → (names : Names) (before : Option TokenClass) → Stands a names before → Tells names before ts v rest
    tells (last_token {t = lexed k t} {v = v} e) a b h names before s =
        let m = h k t v e names before s in record { last = names_after names before k; end = Some k; path = go stay; told = m.told }
    tells (last_first d) a b h names before s = tells d a h.0 h.1.0 names before s
    tells (last_second d k) a b h names before s = let x = arrives d a h.0 h.1.0 names before s in told_onward x (tells k h.0 b h.1.1 x.last x.end x.at)
    tells (last_left d) a b h names before s = tells d a b h.0 names before s
    tells (last_right d) a b h names before s = tells d a b h.1 names before s
    tells (last_turn d) a b h names before s = tells d b b h.1 names before (stands_too a b names before h.0 s)
    tells (last_after d k) a b h names before s =
        let x = arrives d b b h.1 names before (stands_too a b names before h.0 s) in
        told_onward x (tells k b b (same_fits b, h.1) x.last x.end x.at)
    tells (last_base d) a b h names before s = tells d a b h.0 names before s
    tells (last_more d k) a b h names before s = let x = arrives d a b h.0 names before s in told_onward x (tells k b b (same_fits b, h.1) x.last x.end x.at)
    tells (last_chosen e d) a b h names before s = absurd h
    tells (last_rule {n = n} d) a b h names before s = tells d (from n) (to n) (rules n) names before (stands_too a (from n) names before h.0 s)
