-- From spelled texts to tokens, and the spelling of names and signs.
use Rattle.std.proofs.Common.{◌≡◌, ℕ, ◌+◌, Bool, true, false, List, [], ◌∷◌, ◌++◌, length, take, drop, refl, ap, sym, subst, arith}
use Rattle.std.specs.Prelude.{not, ◌==◌, ◌&&◌, Ok}
use Rattle.std.specs.List.{list_all, prefix_len}
use Rattle.std.proofs.lemmas.Bool.Decides.{nat_tests}
use Rattle.pr_labels.specs.pr_words.Bytes.{is_whitespace}
use Rattle.pr_ast.specs.declared.lex.token.Token.{Token}
use Rattle.pr_ast.specs.declared.lex.token.TokenKind.{TokenKind}
use Rattle.pr_ast.specs.declared.lex.token.TokenKind.TheVariants.{Name as NameKind, Sign as SignKind}
use Rattle.pr_ast.specs.declared.lex.token.Sign.{Sign}
use Rattle.pr_ast.specs.declared.lex.token.Sign.TheVariants.{LeftBrace, RightBrace, LeftParen, RightParen, LeftBracket, RightBracket, Comma, Colon, Assign, NotEqual, Like, NotLike, Equal, Less, LessEqual, Greater, GreaterEqual, Plus, Minus, Star, Slash, Percent}
use Rattle.pr_ast.specs.declared.lex.part.Class.TheVariants.{Whitespace}
use Rattle.pr_ast.specs.declared.lex.part.Lexeme.TheVariants.{Name, Sign as SignLexeme}
use Rattle.pr_ast.specs.declared.lex.part.Part.TheVariants.{Gap, Token as TokenPart}
use Rattle.pr_ast.specs.Bytes.{part_at, is_of, starts_name, name_class, front_len}
use Rattle.pr_ast.specs.Signs.{sign_text}
use Rattle.pr_ast.specs.private.Spaced.{kinds}
use Rattle.pr_ast.specs.Tokens.{AreTokens, no_more, past_gap, one_more, inside_after}
use Rattle.pr_ast.specs.SignAt.{sign_at}
use Rattle.pr_ast.specs.private.Spelled.{Spells, all_spelled, a_blank, a_token, begins_blank, ends_sign, IsNameText, name_text, ends_name}
use Rattle.pr_ast.proofs.TakenSigns.{sign_is}

no_front : (text : List ℕ) → begins_blank text ≡ false → front_len Whitespace text ≡ 0
no_front [] e = refl
no_front (b ∷ rest) e = rw e refl

one_blank : (inside : Bool) (text : List ℕ) → begins_blank text ≡ false → part_at inside (32 ∷ text) ≡ Gap 1
one_blank inside text e = ap (λ n. Gap (1 + n)) (no_front text e)

pub record Found (inside : Bool) (at : ℕ) (text : List ℕ) (ks : List TokenKind) : Type 0 where
  pub tokens : List Token
  pub are : AreTokens inside at text tokens
  pub kinds : kinds tokens ≡ ks

pub found : {inside : Bool} {text : List ℕ} {ks : List TokenKind} (at : ℕ) → Spells inside text ks → Found inside at text ks
found at all_spelled = record { tokens = []; are = no_more refl; kinds = refl }
found at (a_blank {inside} {text} e s) = let r = found (at + 1) s in record { tokens = r.tokens; are = past_gap 1 (one_blank inside text e) r.are; kinds = r.kinds }
found at (a_token n kind lexeme p i s) = let r = found (at + n) s in
    record { tokens = record { start = at; end = at + n; kind = kind } ∷ r.tokens; are = one_more n kind lexeme p i r.are; kinds = ap (λ ks. kind ∷ ks) r.kinds }

-- names
pub both_left : (a b : Bool) → a && b ≡ true → a ≡ true
both_left true b e = refl
both_left false b e = e

pub both_right : (a b : Bool) → a && b ≡ true → b ≡ true
both_right true b e = e
both_right false b e = cc

pub not_true : (a : Bool) → not a ≡ true → a ≡ false
not_true true e = cc
not_true false e = refl

front_known : (inside : Bool) (xs ys : List ℕ) → list_all (is_of (name_class inside)) xs ≡ true → ends_name inside ys ≡ true → prefix_len (is_of (name_class inside)) (xs ++ ys) ≡ length xs
front_known inside [] [] e h = refl
front_known inside [] (y ∷ ys) e h = rw (not_true (is_of (name_class inside) y) h) refl
front_known inside (x ∷ xs) ys e h =
    let k : is_of (name_class inside) x ≡ true = both_left (is_of (name_class inside) x) (list_all (is_of (name_class inside)) xs) e in
    let r : prefix_len (is_of (name_class inside)) (xs ++ ys) ≡ length xs = front_known inside xs ys (both_right (is_of (name_class inside) x) (list_all (is_of (name_class inside)) xs) e) h in
    rw k (omega (arith, r))

pub take_front : (xs ys : List ℕ) → take (length xs) (xs ++ ys) ≡ xs
take_front [] ys = refl
take_front (x ∷ xs) ys = ap (λ zs. x ∷ zs) (take_front xs ys)

pub drop_front : (xs ys : List ℕ) → drop (length xs) (xs ++ ys) ≡ ys
drop_front [] ys = refl
drop_front (x ∷ xs) ys = drop_front xs ys

no_blank_starts : (inside : Bool) (b : ℕ) → starts_name inside b ≡ true → is_whitespace b ≡ false
no_blank_starts true b h = grind (arith, nat_tests)
no_blank_starts false b h = grind (arith, nat_tests)

no_comment_starts : (inside : Bool) (b : ℕ) → starts_name inside b ≡ true → b == 35 ≡ false
no_comment_starts true b h = grind (arith, nat_tests)
no_comment_starts false b h = grind (arith, nat_tests)

starts_go_on : (inside : Bool) (b : ℕ) → starts_name inside b ≡ true → is_of (name_class inside) b ≡ true
starts_go_on true b h = grind (arith, nat_tests)
starts_go_on false b h = grind (arith, nat_tests)

name_part : (inside : Bool) (b : ℕ) (rest : List ℕ) → starts_name inside b ≡ true → part_at inside (b ∷ rest) ≡ TokenPart Name
name_part inside b rest h = rw (no_blank_starts inside b h, no_comment_starts inside b h, h) refl

pub name_spelled : (inside : Bool) (name rest : List ℕ) (ks : List TokenKind) → IsNameText inside name → ends_name inside rest ≡ true → Spells inside rest ks → Spells inside (name ++ rest) (NameKind name ∷ ks)
name_spelled inside name rest ks (name_text {b} {bs} h e) w s =
    a_token (length (b ∷ bs)) (NameKind (b ∷ bs)) Name (name_part inside b (bs ++ rest) h)
    (record { longest = sym (front_known inside (b ∷ bs) rest (rw (starts_go_on inside b h) e) w); is = ap NameKind (sym (take_front (b ∷ bs) rest)) })
    (subst (λ t. Spells inside t ks) (sym (drop_front (b ∷ bs) rest)) s)

-- signs
no_longer : (a b : Bool) → not a && not b ≡ true → (a ≡ false) × (b ≡ false)
no_longer true b e = cc
no_longer false true e = cc
no_longer false false e = (refl, refl)

pub record SignKnown (inside : Bool) (sign : Sign) (rest : List ℕ) : Type 0 where
  pub part : part_at inside (sign_text sign ++ rest) ≡ TokenPart SignLexeme
  pub taken : sign_at (sign_text sign ++ rest) ≡ Ok (sign, length (sign_text sign))
  pub left : drop (length (sign_text sign)) (sign_text sign ++ rest) ≡ rest

sign_known : (inside : Bool) (sign : Sign) (rest : List ℕ) → ends_sign inside sign rest ≡ true → SignKnown inside sign rest
sign_known true LeftBrace [] e = record { part = refl; taken = refl; left = refl }
sign_known true LeftBrace (b ∷ rest) e = record { part = refl; taken = refl; left = refl }
sign_known false LeftBrace [] e = record { part = refl; taken = refl; left = refl }
sign_known false LeftBrace (b ∷ rest) e = record { part = refl; taken = refl; left = refl }
sign_known true RightBrace [] e = record { part = refl; taken = refl; left = refl }
sign_known true RightBrace (b ∷ rest) e = record { part = refl; taken = refl; left = refl }
sign_known false RightBrace [] e = record { part = refl; taken = refl; left = refl }
sign_known false RightBrace (b ∷ rest) e = record { part = refl; taken = refl; left = refl }
sign_known true LeftParen [] e = record { part = refl; taken = refl; left = refl }
sign_known true LeftParen (b ∷ rest) e = record { part = refl; taken = refl; left = refl }
sign_known false LeftParen [] e = record { part = refl; taken = refl; left = refl }
sign_known false LeftParen (b ∷ rest) e = record { part = refl; taken = refl; left = refl }
sign_known true RightParen [] e = record { part = refl; taken = refl; left = refl }
sign_known true RightParen (b ∷ rest) e = record { part = refl; taken = refl; left = refl }
sign_known false RightParen [] e = record { part = refl; taken = refl; left = refl }
sign_known false RightParen (b ∷ rest) e = record { part = refl; taken = refl; left = refl }
sign_known true LeftBracket [] e = record { part = refl; taken = refl; left = refl }
sign_known true LeftBracket (b ∷ rest) e = record { part = refl; taken = refl; left = refl }
sign_known false LeftBracket [] e = record { part = refl; taken = refl; left = refl }
sign_known false LeftBracket (b ∷ rest) e = record { part = refl; taken = refl; left = refl }
sign_known true RightBracket [] e = record { part = refl; taken = refl; left = refl }
sign_known true RightBracket (b ∷ rest) e = record { part = refl; taken = refl; left = refl }
sign_known false RightBracket [] e = record { part = refl; taken = refl; left = refl }
sign_known false RightBracket (b ∷ rest) e = record { part = refl; taken = refl; left = refl }
sign_known true Comma [] e = record { part = refl; taken = refl; left = refl }
sign_known true Comma (b ∷ rest) e = record { part = refl; taken = refl; left = refl }
sign_known false Comma [] e = record { part = refl; taken = refl; left = refl }
sign_known false Comma (b ∷ rest) e = record { part = refl; taken = refl; left = refl }
sign_known true Plus [] e = record { part = refl; taken = refl; left = refl }
sign_known true Plus (b ∷ rest) e = record { part = refl; taken = refl; left = refl }
sign_known false Plus [] e = record { part = refl; taken = refl; left = refl }
sign_known false Plus (b ∷ rest) e = record { part = refl; taken = refl; left = refl }
sign_known true Minus [] e = record { part = refl; taken = refl; left = refl }
sign_known true Minus (b ∷ rest) e = record { part = refl; taken = refl; left = refl }
sign_known false Minus [] e = record { part = refl; taken = refl; left = refl }
sign_known false Minus (b ∷ rest) e = record { part = refl; taken = refl; left = refl }
sign_known true Star [] e = record { part = refl; taken = refl; left = refl }
sign_known true Star (b ∷ rest) e = record { part = refl; taken = refl; left = refl }
sign_known false Star [] e = record { part = refl; taken = refl; left = refl }
sign_known false Star (b ∷ rest) e = record { part = refl; taken = refl; left = refl }
sign_known true Slash [] e = record { part = refl; taken = refl; left = refl }
sign_known true Slash (b ∷ rest) e = record { part = refl; taken = refl; left = refl }
sign_known false Slash [] e = record { part = refl; taken = refl; left = refl }
sign_known false Slash (b ∷ rest) e = record { part = refl; taken = refl; left = refl }
sign_known true Percent [] e = record { part = refl; taken = refl; left = refl }
sign_known true Percent (b ∷ rest) e = record { part = refl; taken = refl; left = refl }
sign_known false Percent [] e = record { part = refl; taken = refl; left = refl }
sign_known false Percent (b ∷ rest) e = record { part = refl; taken = refl; left = refl }
sign_known true NotEqual rest e = record { part = refl; taken = refl; left = refl }
sign_known false NotEqual rest e = record { part = refl; taken = refl; left = refl }
sign_known true Like rest e = record { part = refl; taken = refl; left = refl }
sign_known false Like rest e = record { part = refl; taken = refl; left = refl }
sign_known true NotLike rest e = record { part = refl; taken = refl; left = refl }
sign_known false NotLike rest e = record { part = refl; taken = refl; left = refl }
sign_known true Equal rest e = record { part = refl; taken = refl; left = refl }
sign_known false Equal rest e = record { part = refl; taken = refl; left = refl }
sign_known true LessEqual rest e = record { part = refl; taken = refl; left = refl }
sign_known false LessEqual rest e = record { part = refl; taken = refl; left = refl }
sign_known true GreaterEqual rest e = record { part = refl; taken = refl; left = refl }
sign_known false GreaterEqual rest e = record { part = refl; taken = refl; left = refl }
sign_known true Colon [] e = record { part = refl; taken = refl; left = refl }
sign_known true Colon (b ∷ rest) e = record { part = refl; taken = refl; left = refl }
sign_known false Colon rest e = cc
sign_known true Assign [] e = record { part = refl; taken = refl; left = refl }
sign_known true Assign (b ∷ rest) e = let k = no_longer (b == 61) (b == 126) e in record { part = refl; taken = rw (k.0, k.1) refl; left = refl }
sign_known false Assign [] e = record { part = refl; taken = refl; left = refl }
sign_known false Assign (b ∷ rest) e = let k = no_longer (b == 61) (b == 126) e in record { part = refl; taken = rw (k.0, k.1) refl; left = refl }
sign_known true Less [] e = record { part = refl; taken = refl; left = refl }
sign_known true Less (b ∷ rest) e = let k = no_longer (b == 61) (b == 61) e in record { part = refl; taken = rw k.0 refl; left = refl }
sign_known false Less [] e = record { part = refl; taken = refl; left = refl }
sign_known false Less (b ∷ rest) e = let k = no_longer (b == 61) (b == 61) e in record { part = refl; taken = rw k.0 refl; left = refl }
sign_known true Greater [] e = record { part = refl; taken = refl; left = refl }
sign_known true Greater (b ∷ rest) e = let k = no_longer (b == 61) (b == 61) e in record { part = refl; taken = rw k.0 refl; left = refl }
sign_known false Greater [] e = record { part = refl; taken = refl; left = refl }
sign_known false Greater (b ∷ rest) e = let k = no_longer (b == 61) (b == 61) e in record { part = refl; taken = rw k.0 refl; left = refl }

pub sign_spelled : (inside : Bool) (sign : Sign) (rest : List ℕ) (ks : List TokenKind) → ends_sign inside sign rest ≡ true → Spells (inside_after inside (SignKind sign)) rest ks → Spells inside (sign_text sign ++ rest) (SignKind sign ∷ ks)
sign_spelled inside sign rest ks e s =
    let k = sign_known inside sign rest e in
    a_token (length (sign_text sign)) (SignKind sign) SignLexeme k.part (sign_is (sign_text sign ++ rest) sign (length (sign_text sign)) k.taken) (subst (λ t. Spells (inside_after inside (SignKind sign)) t ks) (sym k.left) s)
