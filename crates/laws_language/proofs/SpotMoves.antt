-- What each kind of token does to names.
use Rattle.std.proofs.Common.{◌≡◌, Bool, true, false, Option, Some, None, refl, ap, sym, ◌∙◌, subst}
use Rattle.std.specs.Prelude.{not, ◌&&◌, if◌then◌else◌}
use Rattle.pr_ast.specs.declared.lex.token.Token.{Token}
use Rattle.pr_ast.specs.declared.lex.token.Sign.TheVariants.{LeftBrace, RightBrace, LeftParen, RightParen, Comma}
use Rattle.pr_ast.specs.declared.lex.words.Word.TheVariants.{And as AndWord, On}
use Rattle.pr_parse.specs.declared.grammar.kind.TokenClass.{TokenClass}
use Rattle.pr_parse.specs.declared.grammar.kind.TokenClass.TheVariants.{Word, Sign}
use Rattle.pr_parse.specs.Seen.{Seen, lexed}
use Rattle.pr_parse.specs.Grammar.{QueryValue}
use Rattle.pr_parse.specs.Faults.{begins_labels, names_after, is_called}
use Rattle.laws_language.specs.private.Named.{is_other_name}
use Rattle.laws_language.proofs.Spots.{Spot, open_spot, fresh, marked, listed, braced, Names, called_in, TellsAs, Stands, fits, stands_too, Moves}

-- the spot after a word of labels, and after another token
abbrev pub after_word : Bool → Option Spot
after_word true = Some marked
after_word false = Some fresh

-- the spot after a token, where it is known
abbrev pub spot_after : Spot → TokenClass → Option Spot
spot_after a (Sign LeftBrace) = Some braced
spot_after a (Sign RightBrace) = Some fresh
spot_after a (Sign RightParen) = Some fresh
spot_after fresh (Sign LeftParen) = Some fresh
spot_after marked (Sign LeftParen) = Some listed
spot_after a (Sign LeftParen) = None
spot_after listed k = Some listed
spot_after braced k = Some braced
spot_after a k = after_word (begins_labels (Some k))

-- names after the signs that begin and end labels
in_braces : (names : Names) (before : Option TokenClass) → TellsAs braced (names_after names before (Sign LeftBrace))
in_braces names before (Sign Comma) = refl
in_braces names before (Word AndWord) = refl
in_braces names before k = refl

pub elsewhere : (names : Names) (before : Option TokenClass) → TellsAs open_spot (names_after names before (Sign RightParen))
elsewhere names before (Sign Comma) = refl
elsewhere names before (Word AndWord) = refl
elsewhere names before k = refl

in_labels : (names : Names) → TellsAs listed (names_after names (Some (Word On)) (Sign LeftParen))
in_labels names (Sign Comma) = refl
in_labels names (Word AndWord) = refl
in_labels names k = refl

if_true : {A : Type 0} (b : Bool) (x y : A) → b ≡ true → (if b then x else y) ≡ x
if_true true x y e = refl
if_true false x y e = absurd (cc)

if_false : {A : Type 0} (b : Bool) (x y : A) → b ≡ false → (if b then x else y) ≡ y
if_false true x y e = absurd (cc)
if_false false x y e = refl

unmarked : (names : Names) (before : Option TokenClass) → begins_labels before ≡ false → names_after names before (Sign LeftParen) ≡ names_after names before (Sign RightParen)
unmarked names before e = if_false (begins_labels before) _ _ e

after_mark : (names : Names) (before : Option TokenClass) → begins_labels before ≡ true → names_after names before (Sign LeftParen) ≡ names_after names (Some (Word On)) (Sign LeftParen)
after_mark names before e = if_true (begins_labels before) _ _ e

abbrev pub Lands : Option Spot → Names → Option TokenClass → Type 0
Lands (Some b) names k = Stands b names k
Lands None names k = Unit {0}

fresh_lands : (names : Names) (before : Option TokenClass) → begins_labels before ≡ false → Stands fresh (names_after names before (Sign LeftParen)) (Some (Sign LeftParen))
fresh_lands names before e = (subst (λ n. TellsAs open_spot n) (sym (unmarked names before e)) (elsewhere names before), refl)

marked_lands : (names : Names) (before : Option TokenClass) → begins_labels before ≡ true → Stands listed (names_after names before (Sign LeftParen)) (Some (Sign LeftParen))
marked_lands names before e = subst (λ n. TellsAs listed n) (sym (after_mark names before e)) (in_labels names)

pub landing : (a : Spot) (names : Names) (before : Option TokenClass) (k : TokenClass) → Stands a names before → Lands (spot_after a k) (names_after names before k) (Some k)
landing a names before (Sign LeftBrace) h = in_braces names before
landing a names before (Sign RightBrace) h = (elsewhere names before, refl)
landing a names before (Sign RightParen) h = (elsewhere names before, refl)
landing fresh names before (Sign LeftParen) h = fresh_lands names before h.1
landing marked names before (Sign LeftParen) h = marked_lands names before h.1
landing open_spot names before (Sign LeftParen) h = tt
landing listed names before (Sign LeftParen) h = tt
landing braced names before (Sign LeftParen) h = tt
landing open_spot names before (Word AndWord) h = (h, refl)
landing open_spot names before k h = (h, refl)
landing fresh names before (Word AndWord) h = (h.0, refl)
landing fresh names before k h = (h.0, refl)
landing marked names before (Word AndWord) h = (h.0, refl)
landing marked names before k h = (h.0, refl)
landing listed names before (Word AndWord) h = h
landing listed names before k h = h
landing braced names before (Word AndWord) h = h
landing braced names before k h = h

abbrev pub same_truth : Bool → Bool → Bool
same_truth true b = b
same_truth false b = not b

abbrev pub fits_next : Option Spot → Spot → Bool
fits_next (Some a) b = fits a b
fits_next None b = false

-- whether a token that a form takes leads from one spot to the other, and is a name where the
-- tokens tell so
abbrev pub is_right : Spot → Spot → TokenClass → Option QueryValue → Bool
is_right a b k None = true
is_right a b k (Some v) = fits_next (spot_after a k) b && same_truth (called_in b k) (is_other_name (Some k) v)

both_0 : (x y : Bool) → (x && y) ≡ true → x ≡ true
both_0 true y e = refl
both_0 false y e = absurd (cc)

both_1 : (x y : Bool) → (x && y) ≡ true → y ≡ true
both_1 true y e = e
both_1 false y e = absurd (cc)

same_is : (x y : Bool) → same_truth x y ≡ true → x ≡ y
same_is true true e = refl
same_is false false e = refl
same_is true false e = absurd (cc)
same_is false true e = absurd (cc)

next_stands : (o : Option Spot) (b : Spot) (names : Names) (k : Option TokenClass) → fits_next o b ≡ true → Lands o names k → Stands b names k
next_stands (Some a) b names k e h = stands_too a b names k e h
next_stands None b names k e h = absurd (cc)

-- what is told in a spot
stood : (b : Spot) (names : Names) (before : Option TokenClass) → Stands b names before → (k : TokenClass) → is_called names (Some k) ≡ called_in b k
stood open_spot names before h k = h k
stood fresh names before h (Word AndWord) = h.0 (Word AndWord)
stood fresh names before h k = h.0 k
stood marked names before h (Word AndWord) = h.0 (Word AndWord)
stood marked names before h k = h.0 k
stood listed names before h k = h k
stood braced names before h k = h k

moves : (a b : Spot) (k : TokenClass) (v : QueryValue) → is_right a b k (Some v) ≡ true → (names : Names) (before : Option TokenClass) → Stands a names before → Moves a k v b names before
moves a b k v e names before h =
    let at = next_stands (spot_after a k) b (names_after names before k) (Some k) (both_0 (fits_next (spot_after a k) b) _ e) (landing a names before k h) in record {
      at = at;
      told = stood b (names_after names before k) (Some k) at k ∙ same_is (called_in b k) (is_other_name (Some k) v) (both_1 (fits_next (spot_after a k) b) _ e);
    }

-- A form of one token leads from one spot to the other.
abbrev pub TakesBetween : Spot → (Seen → Option QueryValue) → Spot → Type 0
TakesBetween a p b = (k : TokenClass) (t : Token) (v : QueryValue) → p (lexed k t) ≡ Some v → (names : Names) (before : Option TokenClass) → Stands a names before → Moves a k v b names before

pub by_kinds : (p : Seen → Option QueryValue) (a b : Spot) → ((k : TokenClass) (t : Token) → is_right a b k (p (lexed k t)) ≡ true) → TakesBetween a p b
by_kinds p a b h k t v e names before s = moves a b k v (sym (ap (is_right a b k) e) ∙ h k t) names before s

pub from_fresh : (p : Seen → Option QueryValue) {b : Spot} → TakesBetween open_spot p b → TakesBetween fresh p b
from_fresh p h k t v e names before s =
    let m = h k t v e names before (stands_too fresh open_spot names before refl s) in
    record { at = m.at; told = m.told }

pub to_open : (p : Seen → Option QueryValue) {a : Spot} → TakesBetween a p fresh → TakesBetween a p open_spot
to_open p h k t v e names before s =
    let m = h k t v e names before s in
    record { at = stands_too fresh open_spot (names_after names before k) (Some k) refl m.at; told = m.told }
