-- The texts of tokens, each with a space after it, have the same tokens again.
use Rattle.std.proofs.Common.{◌≡◌, ℕ, ◌+◌, ◌<◌, List, [], ◌∷◌, ◌++◌, Bool, length, take, drop, refl, ap, ap₂, sym, ◌∙◌, subst, subst₂, arith, append_assoc, take-append-drop, length-take}
use Rattle.pr_ast.specs.declared.lex.token.Token.{Token}
use Rattle.pr_ast.specs.declared.lex.token.TokenKind.{TokenKind}
use Rattle.pr_ast.specs.declared.lex.part.Class.TheVariants.{Whitespace}
use Rattle.pr_ast.specs.declared.lex.part.Lexeme.{Lexeme}
use Rattle.pr_ast.specs.declared.lex.part.Part.TheVariants.{Token as TokenPart}
use Rattle.pr_ast.specs.Bytes.{front_len, part_at}
use Rattle.pr_ast.specs.Tokens.{IsTokenOf, AreTokens, no_more, past_gap, one_more, inside_after, HasTokens}
use Rattle.pr_ast.specs.private.Spaced.{slice, spaced, kinds}
use Rattle.pr_ast.proofs.Ordered.{IsPart, token_part, next_text}
use Rattle.pr_ast.proofs.SpaceEnds.{token_again}
use Rattle.pr_ast.proofs.SpacedParts.{part_again, no_blank_first}
use Rattle.pr_ast.proofs.Untaken.{drop_front}

-- The text begins with the token, ends it with the space, and has no blank before it.
pub record IsAgain (inside : Bool) (text more : List ℕ) (n : ℕ) (token : TokenKind) (l : Lexeme) : Type 0 where
  pub part : part_at inside text ≡ TokenPart l
  pub is : IsTokenOf l inside text n token
  pub rest : drop n text ≡ 32 ∷ more
  pub first : front_len Whitespace text ≡ 0

front_again : (inside : Bool) (front r more : List ℕ) (token : TokenKind) (l : Lexeme) → 0 < length front → part_at inside (front ++ r) ≡ TokenPart l → IsTokenOf l inside (front ++ r) (length front) token →
    IsAgain inside (front ++ 32 ∷ more) more (length front) token l
front_again inside [] r more token l pos e x = absurd (omega (arith, pos))
front_again inside (b ∷ front) r more token l pos e x = record {
  part = part_again inside b front r more token l e x;
  is = token_again inside (b ∷ front) r more token pos l x;
  rest = drop_front (b ∷ front) (32 ∷ more);
  first = no_blank_first inside b front r more token l e;
}

is_again : (inside : Bool) (text more : List ℕ) (n : ℕ) (token : TokenKind) (l : Lexeme) → part_at inside text ≡ TokenPart l → IsTokenOf l inside text n token → IsAgain inside (take n text ++ 32 ∷ more) more n token l
is_again inside text more n token l e x =
    subst (λ k. IsAgain inside (take n text ++ 32 ∷ more) more k token l) long
    (front_again inside (take n text) (drop n text) more token l (omega (arith, long, p.long)) (subst (λ t. part_at inside t ≡ TokenPart l) whole e)
    (subst₂ (λ t k. IsTokenOf l inside t k token) whole (sym long) x))
  where
    p : IsPart text n
    p = token_part l inside text n token e x

    whole : text ≡ take n text ++ drop n text
    whole = sym (take-append-drop n text)

    long : length (take n text) ≡ n
    long = let w = p.within in simp length-take (omega (arith, w))

-- The text has tokens of these kinds, and no blank before the first one.
pub record HasAgain (inside : Bool) (at : ℕ) (text : List ℕ) (tokens : List Token) : Type 0 where
  pub again : List Token
  pub are : AreTokens inside at text again
  pub alike : kinds again ≡ kinds tokens
  pub first : front_len Whitespace text ≡ 0

-- a space before them
after_space : (inside : Bool) (at : ℕ) (more : List ℕ) (tokens : List Token) → front_len Whitespace more ≡ 0 → AreTokens inside (at + 1) more tokens → AreTokens inside at (32 ∷ more) tokens
after_space inside at more tokens e d = past_gap 1 (rw e refl) d

one_again : (inside : Bool) (from at n : ℕ) (text more : List ℕ) (token : TokenKind) (l : Lexeme) (tokens : List Token) → IsAgain inside text more n token l → HasAgain (inside_after inside token) (at + n + 1) more tokens →
    HasAgain inside at text (record { start = from; end = from + n; kind = token } ∷ tokens)
one_again inside from at n text more token l tokens x h = record {
  again = record { start = at; end = at + n; kind = token } ∷ h.again;
  are = one_more n token l x.part x.is (subst (λ t. AreTokens (inside_after inside token) (at + n) t h.again) (sym x.rest) (after_space (inside_after inside token) (at + n) more h.again h.first h.are));
  alike = ap (λ ks. token ∷ ks) h.alike;
  first = x.first;
}

module _ (whole : List ℕ) where
  token_slice : (at n : ℕ) (text : List ℕ) (token : TokenKind) → text ≡ drop at whole → take n text ≡ slice whole (record { start = at; end = at + n; kind = token })
  token_slice at n text token is = ap₂ (λ k t. take k t) (omega arith) is

  spaced_slice : (at n : ℕ) (text : List ℕ) (token : TokenKind) (tokens : List Token) → text ≡ drop at whole →
      take n text ++ 32 ∷ spaced whole tokens ≡ spaced whole (record { start = at; end = at + n; kind = token } ∷ tokens)
  spaced_slice at n text token tokens is =
      ap (λ t. t ++ 32 ∷ spaced whole tokens) (token_slice at n text token is) ∙ sym (append_assoc (slice whole (record { start = at; end = at + n; kind = token })) (32 ∷ []) (spaced whole tokens))

  all_again : {inside : Bool} {at : ℕ} {text : List ℕ} {tokens : List Token} (place : ℕ) → text ≡ drop at whole → AreTokens inside at text tokens → HasAgain inside place (spaced whole tokens) tokens
  all_again place is (no_more e) = record { again = []; are = no_more refl; alike = refl; first = refl }
  all_again {at = at} {text = text} place is (past_gap n e d) = all_again place (next_text whole at n text is) d
  all_again {inside} {at} {text} place is (one_more {tokens = tokens} n token l e x d) =
      subst (λ t. HasAgain inside place t (record { start = at; end = at + n; kind = token } ∷ tokens)) (spaced_slice at n text token tokens is)
      (one_again inside at place n (take n text ++ 32 ∷ spaced whole tokens) (spaced whole tokens) token l tokens (is_again inside text (spaced whole tokens) n token l e x) (all_again (place + n + 1) (next_text whole at n text is) d))

pub tokens_again : (text : List ℕ) (tokens : List Token) → HasTokens text tokens → (again : List Token) × HasTokens (spaced text tokens) again × (kinds again ≡ kinds tokens)
tokens_again text tokens d = let h = all_again text 0 refl d in (h.again, h.are, h.alike)
