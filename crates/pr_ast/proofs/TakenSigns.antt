-- The function that takes a sign takes the longest one, and none where the text begins with none.
use Rattle.std.proofs.Common.{◌≡◌, ℕ, List, [], ◌∷◌, Option, Some, None, Ok, Err, length, take, refl, ap, sym, ◌∙◌, arith}
use Rattle.std.specs.Prelude.{Result, ◌==◌, if◌then◌else◌}
use Rattle.pr_ast.specs.declared.lex.token.Sign.{Sign}
use Rattle.pr_ast.specs.declared.lex.token.Sign.TheVariants.{LeftBrace, RightBrace, LeftParen, RightParen, LeftBracket, RightBracket, Comma, Colon, Assign, NotEqual, Like, NotLike, Equal, Less, LessEqual, Greater, GreaterEqual, Plus, Minus, Star, Slash, Percent}
use Rattle.pr_ast.specs.declared.lex.token.TokenKind.TheVariants.{Sign as SignKind}
use Rattle.pr_ast.specs.declared.lex.fault.LexKind.{LexKind}
use Rattle.pr_ast.specs.declared.lex.fault.LexKind.TheVariants.{BadChar}
use Rattle.pr_ast.specs.Signs.{sign_text, IsLongestSign, begun_sign}
use Rattle.pr_ast.specs.SignAt.{sign_at, longest_sign, longer_sign, shorter_sign, one_byte_sign}
use Rattle.pr_ast.specs.Tokens.{IsSign, IsSignFault}
use Rattle.pr_ast.proofs.LongestSigns.{taken, not_taken}

own_text : (s : Sign) → sign_at (sign_text s) ≡ Ok (s, length (sign_text s))
own_text LeftBrace = refl
own_text RightBrace = refl
own_text LeftParen = refl
own_text RightParen = refl
own_text LeftBracket = refl
own_text RightBracket = refl
own_text Comma = refl
own_text Colon = refl
own_text Assign = refl
own_text NotEqual = refl
own_text Like = refl
own_text NotLike = refl
own_text Equal = refl
own_text Less = refl
own_text LessEqual = refl
own_text Greater = refl
own_text GreaterEqual = refl
own_text Plus = refl
own_text Minus = refl
own_text Star = refl
own_text Slash = refl
own_text Percent = refl

same_sign : (s t : Sign) (n m : ℕ) → ◌≡◌ {A = Result (Sign × ℕ) ℕ} (Ok (s, n)) (Ok (t, m)) → s ≡ t
same_sign s t n m e = let p : ◌≡◌ {A = Sign × ℕ} (s, n) (t, m) = cc in ap (λ x. x.0) p

same_text : (s t : Sign) → sign_text s ≡ sign_text t → s ≡ t
same_text s t e = same_sign s t (length (sign_text s)) (length (sign_text t)) (sym (own_text s) ∙ (ap sign_at e ∙ own_text t))

-- a text has one longest sign
same_longest : (text : List ℕ) (s t : Sign) → IsLongestSign text s → IsLongestSign text t → s ≡ t
same_longest text s t x y =
    let a = x.longest t y.begins in
    let b = y.longest s x.begins in
    let l : length (sign_text s) ≡ length (sign_text t) = omega (arith, a, b) in
    same_text s t (sym x.begins ∙ (ap (λ n. take n text) l ∙ y.begins))

pub sign_known : (text : List ℕ) (s : Sign) (n : ℕ) → IsLongestSign text s → n ≡ length (sign_text s) → sign_at text ≡ Ok (s, n)
sign_known text s n x e = by_answer (sign_at text) refl
  where
    by_answer : (r : Result (Sign × ℕ) ℕ) → sign_at text ≡ r → sign_at text ≡ Ok (s, n)
    by_answer (Ok (t, m)) h =
        let k = taken text t m h in
        let same : t ≡ s = same_longest text t s k.1 x in
        let size : m ≡ n = k.0 ∙ (ap (λ (u : Sign). length (sign_text u)) same ∙ sym e) in
        h ∙ cc
    by_answer (Err place) h = absurd (not_taken text place h s x.begins)

pub sign_is : (text : List ℕ) (s : Sign) (n : ℕ) → sign_at text ≡ Ok (s, n) → IsSign text n (SignKind s)
sign_is text s n e = let k = taken text s n e in record { sign = s; longest = k.1; whole = k.0; is = refl }

-- where no sign is taken, the bad byte is the first one, or the one after a `!`
by_shorter : (a : ℕ) (o : Option Sign) (place : ℕ) → shorter_sign a o ≡ Err place → place ≡ (if a == 33 then 1 else 0)
by_shorter a (Some s) place e = cc
by_shorter a None place e = let h : (if a == 33 then 1 else 0) ≡ place = cc in sym h

by_longest : (a : ℕ) (o : Option Sign) (place : ℕ) → longest_sign a o ≡ Err place → place ≡ (if a == 33 then 1 else 0)
by_longest a (Some s) place e = cc
by_longest a None place e = by_shorter a (one_byte_sign a) place e

bad_place : (text : List ℕ) (place : ℕ) → sign_at text ≡ Err place → place ≡ begun_sign text
bad_place [] place e = let h : 0 ≡ place = cc in sym h
bad_place (a ∷ rest) place e = by_longest a (longer_sign a rest) place e

pub fault_is : (text : List ℕ) (place : ℕ) → sign_at text ≡ Err place → IsSignFault text place BadChar
fault_is text place e = record { none = not_taken text place e; after = bad_place text place e; is = refl }

pub fault_known : (text : List ℕ) (place : ℕ) (kind : LexKind) → IsSignFault text place kind → sign_at text ≡ Err place
fault_known text place kind x = by_answer (sign_at text) refl
  where
    by_answer : (r : Result (Sign × ℕ) ℕ) → sign_at text ≡ r → sign_at text ≡ Err place
    by_answer (Ok (t, m)) h = let k = taken text t m h in let i = k.1 in absurd (x.none t i.begins)
    by_answer (Err p) h = let e : p ≡ place = bad_place text p h ∙ sym x.after in h ∙ ap Err e
