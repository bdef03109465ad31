-- What a text gives, as a function of it. The law `lexed_is_tokens_or_fault` of `lex` says
-- that these are its tokens, or its first fault.
use Rattle.std.specs.Prelude.{ℕ, zero, suc, ◌+◌, ◌^◌, ◌==◌, ◌||◌, nat_le, Bool, false, List, [], ◌∷◌, ◌++◌, length, take, drop, Option, Some, None, is_some, Result, Ok, Err, if◌then◌else◌}
use Rattle.pr_time.specs.pr_forms.Form.{rule}
use Rattle.pr_time.specs.pr_forms.Reading.{reading, bad_place}
use Rattle.pr_num.specs.declared.value.Num.{Num}
use Rattle.pr_num.specs.declared.text.NumFault.{NumFault}
use Rattle.pr_num.specs.declared.text.NumFault.TheVariants.{NotNumber, TooWide as WideNumber}
use Rattle.pr_num.specs.Reads.{reads}
use Rattle.pr_time.specs.SpanAnswer.{span_of, bad_span_place}
use Rattle.pr_labels.specs.pr_words.Strings as strings
use Rattle.pr_labels.specs.pr_words.StringTable as string_tables
use Rattle.pr_labels.specs.pr_words.StringAnswer.{string_of, bad_string_place}
use Rattle.pr_ast.specs.declared.lex.token.Token.{Token}
use Rattle.pr_ast.specs.declared.lex.token.TokenKind.{TokenKind}
use Rattle.pr_ast.specs.declared.lex.token.TokenKind.TheVariants.{Name as NameKind, Number as NumberKind, Duration as DurationKind, Text as TextKind, Sign as SignKind}
use Rattle.pr_ast.specs.declared.lex.token.Sign.{Sign as SignName}
use Rattle.pr_ast.specs.declared.lex.fault.LexKind.{LexKind}
use Rattle.pr_ast.specs.declared.lex.fault.LexKind.TheVariants.{BadChar, OpenText, BadEscape, BadNumber, TooWide, BadSpan, SpanTooLong}
use Rattle.pr_ast.specs.declared.lex.part.Lexeme.{Lexeme}
use Rattle.pr_ast.specs.declared.lex.part.Lexeme.TheVariants.{Name, Number, Duration, Text, Sign}
use Rattle.pr_ast.specs.declared.lex.part.Part.{Part}
use Rattle.pr_ast.specs.declared.lex.part.Part.TheVariants.{End, Gap, Token as TokenPart}
use Rattle.pr_ast.specs.Bytes.{part_at, front_len, name_class}
use Rattle.pr_ast.specs.Number as numbers
use Rattle.pr_ast.specs.NumberTable as number_tables
use Rattle.pr_ast.specs.SignAt.{sign_at}
use Rattle.pr_ast.specs.Tokens.{inside_after}

pub data Lexed : Type 0 where
  -- its tokens
  gives_tokens : List Token → Lexed
  -- the place and the kind of its first fault
  gives_fault : ℕ → LexKind → Lexed

-- What a text that begins some token gives there: the token with its length, or the place and the
-- kind of a fault.
pub data First : Type 0 where
  a_token : ℕ → TokenKind → First
  a_fault : ℕ → LexKind → First

-- the first place at which no number can go on
abbrev pub number_place : List ℕ → ℕ
number_place text = bad_place numbers.production number_tables.table 8 (rule numbers.Number) (numbers.seen text)

-- A number, a duration and a string go on up to a place, and what stands before it is whole, or is
-- none.
abbrev pub number_by : ℕ → Result Num NumFault → First
number_by n (Ok value) = a_token n (NumberKind value)
number_by n (Err NotNumber) = a_fault n BadNumber
number_by n (Err WideNumber) = a_fault 0 TooWide

abbrev pub span_by : ℕ → Option ℕ → First
span_by n (Some ms) = if nat_le ms (2 ^ 40) then a_token n (DurationKind ms) else a_fault 0 SpanTooLong
span_by n None = a_fault n BadSpan

-- A string is left open at the text's end, and where its first quote would end it.
abbrev pub would_end : List ℕ → ℕ → Bool
would_end text n = is_some (reading strings.production string_tables.table string_tables.steps (rule strings.Text) (strings.seen (take n text ++ take 1 text)))

abbrev pub text_by : List ℕ → ℕ → Option (List ℕ) → First
text_by text n (Some content) = a_token n (TextKind content)
text_by text n None = if n == length text || would_end text n then a_fault 0 OpenText else a_fault n BadEscape

abbrev pub sign_by : Result (SignName × ℕ) ℕ → First
sign_by (Ok x) = a_token x.1 (SignKind x.0)
sign_by (Err place) = a_fault place BadChar

abbrev pub first_of : Lexeme → Bool → List ℕ → First
first_of Name inside text = a_token (front_len (name_class inside) text) (NameKind (take (front_len (name_class inside) text) text))
first_of Number inside text = number_by (number_place text) (reads (take (number_place text) text))
first_of Duration inside text = span_by (bad_span_place text) (span_of (take (bad_span_place text) text))
first_of Text inside text = text_by text (bad_string_place text) (string_of (take (bad_string_place text) text))
first_of Sign inside text = sign_by (sign_at text)

abbrev pub with_token : Token → Lexed → Lexed
with_token token (gives_tokens tokens) = gives_tokens (token ∷ tokens)
with_token token (gives_fault place kind) = gives_fault place kind

-- One part of a text that stands at a place, and what `again` gives for the rest.
abbrev pub after_first : (Bool → ℕ → List ℕ → Lexed) → Bool → ℕ → List ℕ → First → Lexed
after_first again inside at text (a_token n token) = with_token (record { start = at; end = at + n; kind = token }) (again (inside_after inside token) (at + n) (drop n text))
after_first again inside at text (a_fault place kind) = gives_fault (at + place) kind

abbrev pub by_part : (Bool → ℕ → List ℕ → Lexed) → Bool → ℕ → List ℕ → Part → Lexed
by_part again inside at text End = gives_tokens []
by_part again inside at text (Gap n) = again inside (at + n) (drop n text)
by_part again inside at text (TokenPart lexeme) = after_first again inside at text (first_of lexeme inside text)

-- so many parts at most: a text has no more of them than bytes, and its end
abbrev pub lexed_in : ℕ → Bool → ℕ → List ℕ → Lexed
lexed_in zero inside at text = gives_tokens []
lexed_in (suc parts) inside at text = by_part (lexed_in parts) inside at text (part_at inside text)

unfoldable pub lexed : List ℕ → Lexed
lexed text = lexed_in (suc (length text)) false 0 text
