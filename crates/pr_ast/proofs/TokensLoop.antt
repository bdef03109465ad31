-- What the loop over the tokens of a text keeps.
use Rattle.std.proofs.Common.{◌≡◌, ℕ, ◌+◌, ◌<◌, ◌≤◌, List, [], ◌∷◌, ◌++◌, zero, suc, Bool, false, length, drop, refl, sym, ◌∙◌, ap, subst, append_assoc, arith, length-drop, Err, ◌^◌}
use Rattle.std.specs.Prelude.{Option, Some, None}
use Rattle.std.proofs.lemmas.List.{drop-drop, append-nil}
use Rattle.pr_ast.specs.declared.lex.token.Token.{Token}
use Rattle.pr_ast.specs.declared.lex.token.TokenKind.{TokenKind}
use Rattle.pr_ast.specs.declared.lex.fault.LexKind.{LexKind}
use Rattle.pr_ast.specs.declared.lex.part.Lexeme.{Lexeme}
use Rattle.pr_ast.specs.declared.lex.part.Part.TheVariants.{End, Gap, Token as TokenPart}
use Rattle.pr_ast.specs.Bytes.{part_at}
use Rattle.pr_ast.specs.declared.lex.fault.LexError.{LexError}
use Rattle.pr_ast.specs.declared.lex.fault.LexError.TheVariants.{Fault, Memory}
use Rattle.pr_ast.specs.private.Reader.{IsRead, IsWithin, Refuses, Misses, Fits, moved, kept, HasKept}
use Rattle.pr_ast.proofs.Unique.{one_list, not_both}
use Rattle.pr_ast.specs.Tokens.{HasTokens, IsTokenOf, inside_after, AreTokens, no_more, past_gap, one_more, IsFirstFault, fault_here, fault_past_gap, fault_past_token}

-- The tokens from the place on, after those read, are the tokens of the text; and so is the first
-- fault. Those found are the kept ones of those read.
pub record Found (text : List ℕ) (most : Option ℕ) (inside : Bool) (place : ℕ) (found : List Token) : Type 0 where
  pub all : List Token
  pub are : found ≡ kept most all
  pub tokens : (ts : List Token) → AreTokens inside place (drop place text) ts → AreTokens false 0 text (all ++ ts)
  pub faults : (at : ℕ) (kind : LexKind) → IsFirstFault inside place (drop place text) at kind → IsFirstFault false 0 text at kind

none_kept : (most : Option ℕ) → [] ≡ kept most []
none_kept None = refl
none_kept (Some zero) = refl
none_kept (Some (suc n)) = refl

pub has_kept : (text : List ℕ) (most : Option ℕ) (found all : List Token) → found ≡ kept most all → HasTokens text all → HasKept text most found
has_kept text None found all e d = subst (HasTokens text) (sym e) d
has_kept text (Some n) found all e d = record { tokens = all; has = d; is = e }

module _ (text : List ℕ) (most : Option ℕ) where
  pub none_found : (found : List Token) → found ≡ [] → Found text most false 0 found
  none_found found e = record { all = []; are = e ∙ none_kept most; tokens = λ ts d. d; faults = λ at kind d. d }

  pub gap_found : (inside : Bool) (place n : ℕ) (found : List Token) → part_at inside (drop place text) ≡ Gap n → Found text most inside place found → Found text most inside (place + n) found
  gap_found inside place n found e f = record {
    all = f.all;
    are = f.are;
    tokens = λ ts d. f.tokens ts (past_gap n e (subst (λ t. AreTokens inside (place + n) t ts) (sym (drop-drop n place text)) d));
    faults = λ at kind d. f.faults at kind (fault_past_gap n e (subst (λ t. IsFirstFault inside (place + n) t at kind) (sym (drop-drop n place text)) d));
  }

  pub token_found : (inside after : Bool) (place n : ℕ) (found more : List Token) (l : Lexeme) (token : TokenKind) → part_at inside (drop place text) ≡ TokenPart l →
      IsTokenOf l inside (drop place text) n token → after ≡ inside_after inside token →
      ((all : List Token) → found ≡ kept most all → more ≡ kept most (all ++ record { start = place; end = place + n; kind = token } ∷ [])) →
      Found text most inside place found → Found text most after (place + n) more
  token_found inside after place n found more l token e x a m f = record {
    all = f.all ++ record { start = place; end = place + n; kind = token } ∷ [];
    are = m f.all f.are;
    tokens = λ ts d. subst (λ us. AreTokens false 0 text us) (sym (append_assoc f.all (record { start = place; end = place + n; kind = token } ∷ []) ts))
        (f.tokens (record { start = place; end = place + n; kind = token } ∷ ts) (one_more n token l e x (subst (λ i. AreTokens i (place + n) (drop n (drop place text)) ts) a
        (subst (λ t. AreTokens after (place + n) t ts) (sym (drop-drop n place text)) d))));
    faults = λ at kind d. f.faults at kind (fault_past_token n token l e x (subst (λ i. IsFirstFault i (place + n) (drop n (drop place text)) at kind) a
        (subst (λ t. IsFirstFault after (place + n) t at kind) (sym (drop-drop n place text)) d)));
  }

  -- the tokens that were read at the end of the text
  pub all_read : (inside : Bool) (place : ℕ) (found : List Token) → part_at inside (drop place text) ≡ End → (f : Found text most inside place found) → AreTokens false 0 text f.all
  all_read inside place found e f = subst (λ us. AreTokens false 0 text us) (append-nil f.all) (f.tokens [] (no_more e))

  pub all_found : (inside : Bool) (place : ℕ) (found : List Token) → part_at inside (drop place text) ≡ End → Found text most inside place found → HasKept text most found
  all_found inside place found e f = has_kept text most found f.all f.are (all_read inside place found e f)

  pub only_found : (inside : Bool) (place : ℕ) (found : List Token) → part_at inside (drop place text) ≡ End → Found text most inside place found → (ts : List Token) → HasTokens text ts →
      found ≡ kept most ts
  only_found inside place found e f ts d = f.are ∙ ap (kept most) (one_list (all_read inside place found e f) d)

  over : (inside : Bool) (rest : List ℕ) → length rest ≡ 0 → part_at inside rest ≡ End
  over inside [] e = refl
  over inside (b ∷ rest) e = absurd (omega arith)

  pub is_over : (inside : Bool) (place : ℕ) → length text ≤ place → part_at inside (drop place text) ≡ End
  is_over inside place le = over inside (drop place text) (omega (arith, length-drop place text))

  fault_there : (inside : Bool) (place : ℕ) (found : List Token) (l : Lexeme) (e : LexError) → part_at inside (drop place text) ≡ TokenPart l → IsRead l inside (drop place text) (Err e) →
      Found text most inside place found → Refuses text (moved place e)
  fault_there inside place found l (Fault at kind) e x f = f.faults (place + at) kind (fault_here at l e x)
  fault_there inside place found l Memory e x f = tt

  pub fault_found : (inside : Bool) (place : ℕ) (found : List Token) (l : Lexeme) (e : LexError) (rest : List ℕ) → rest ≡ drop place text → part_at inside rest ≡ TokenPart l → IsRead l inside rest (Err e) →
      Found text most inside place found → Refuses text (moved place e)
  fault_found inside place found l e rest h part read f =
      fault_there inside place found l e (subst (λ r. part_at inside r ≡ TokenPart l) h part) (subst (λ r. IsRead l inside r (Err e)) h read) f

-- a text that is refused has no tokens
pub no_tokens : (text : List ℕ) (e : LexError) → Refuses text e → (ts : List Token) → HasTokens text ts → Misses e
no_tokens text (Fault at kind) f ts d = not_both d f
no_tokens text Memory f ts d = tt

pub can_move : (place : ℕ) (text : List ℕ) (e : LexError) → place + length text < 2 ^ 64 → IsWithin text e → Fits place e
can_move place text (Fault at kind) h w = omega (arith, h, w)
can_move place text Memory h w = tt
