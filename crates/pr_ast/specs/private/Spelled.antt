-- Texts that are put together from the texts of tokens.
use Rattle.std.specs.Prelude.{◌≡◌, ℕ, ◌==◌, ◌&&◌, ◌||◌, Bool, true, false, not, List, [], ◌∷◌, drop}
use Prim.Native.Char.{code}
use Rattle.std.specs.List.{list_all}
use Rattle.std.specs.Char.{is_ascii_digit}
use Rattle.pr_labels.specs.pr_words.Bytes.{is_whitespace}
use Rattle.pr_ast.specs.declared.lex.token.TokenKind.{TokenKind}
use Rattle.pr_ast.specs.declared.lex.token.Sign.{Sign}
use Rattle.pr_ast.specs.declared.lex.token.Sign.TheVariants.{Colon, Assign, Less, Greater}
use Rattle.pr_ast.specs.declared.lex.part.Lexeme.{Lexeme}
use Rattle.pr_ast.specs.declared.lex.part.Part.TheVariants.{Token as TokenPart}
use Rattle.pr_ast.specs.Bytes.{part_at, is_unit_letter, is_of, starts_name, name_class}
use Rattle.pr_ast.specs.Tokens.{IsTokenOf, inside_after}

-- whether a text begins with a blank
abbrev pub begins_blank : List ℕ → Bool
begins_blank [] = false
begins_blank (b ∷ rest) = is_whitespace b

-- The text is these tokens, with single blanks between some of them.
pub data Spells : Bool → List ℕ → List TokenKind → Type 0 where
  all_spelled : {inside : Bool} → Spells inside [] []
  a_blank : {inside : Bool} {text : List ℕ} {ks : List TokenKind} → begins_blank text ≡ false → Spells inside text ks → Spells inside (code " " ∷ text) ks
  a_token : {inside : Bool} {text : List ℕ} {ks : List TokenKind} (n : ℕ) (kind : TokenKind) (lexeme : Lexeme) → part_at inside text ≡ TokenPart lexeme →
      IsTokenOf lexeme inside text n kind → Spells (inside_after inside kind) (drop n text) ks → Spells inside text (kind ∷ ks)

-- whether a text begins with neither of two bytes
abbrev pub begins_other : ℕ → ℕ → List ℕ → Bool
begins_other a b [] = true
begins_other a b (c ∷ rest) = not (c == a) && not (c == b)

-- Whether a sign is taken for itself before the rest of a text: a colon between brackets alone, and
-- `=`, `<` and `>` before nothing that makes them longer.
abbrev pub ends_sign : Bool → Sign → List ℕ → Bool
ends_sign inside Colon rest = inside
ends_sign inside Assign rest = begins_other (code "=") (code "~") rest
ends_sign inside Less rest = begins_other (code "=") (code "=") rest
ends_sign inside Greater rest = begins_other (code "=") (code "=") rest
ends_sign inside _ rest = true

-- the text of a name
pub data IsNameText (inside : Bool) : List ℕ → Type 0 where
  name_text : {b : ℕ} {bs : List ℕ} → starts_name inside b ≡ true → list_all (is_of (name_class inside)) bs ≡ true → IsNameText inside (b ∷ bs)

-- whether a text goes on no name
abbrev pub ends_name : Bool → List ℕ → Bool
ends_name inside [] = true
ends_name inside (b ∷ rest) = not (is_of (name_class inside) b)

-- whether a text goes on no number, and makes no duration of its digits
abbrev pub ends_number : List ℕ → Bool
ends_number [] = true
ends_number (b ∷ rest) = not (is_ascii_digit b) && (not (b == code ".") && (not (b == code "e" || b == code "E") && not (is_unit_letter b)))

-- whether a text goes on no duration
abbrev pub ends_span : List ℕ → Bool
ends_span [] = true
ends_span (b ∷ rest) = not (is_ascii_digit b) && not (is_unit_letter b)
