-- The tokens of a text of the query language, and its first fault.
use Rattle.std.specs.Prelude.{◌≡◌, ℕ, ◌+◌, ◌<◌, ◌≤◌, ◌^◌, Bool, true, false, List, [], ◌∷◌, length, take, drop, ◌⊎◌, Result, Ok, Err}
use Rattle.pr_num.specs.declared.value.Num.{Num}
use Rattle.pr_num.specs.declared.text.NumFault.{NumFault}
use Rattle.pr_num.specs.declared.text.NumFault.TheVariants.{NotNumber, TooWide as WideNumber}
use Rattle.pr_num.specs.Reads.{reads}
use Rattle.pr_time.specs.SpanText.{ReadsSpan, IsBadPlace as IsSpanEnd}
use Rattle.pr_labels.specs.pr_words.Strings.{IsString, IsBadPlace as IsStringEnd, IsOpenAt}
use Rattle.pr_ast.specs.declared.lex.token.Sign.{Sign}
use Rattle.pr_ast.specs.declared.lex.token.Sign.TheVariants.{LeftBracket, RightBracket}
use Rattle.pr_ast.specs.declared.lex.token.TokenKind.{TokenKind}
use Rattle.pr_ast.specs.declared.lex.token.TokenKind.TheVariants.{Name as NameKind, Number as NumberKind, Duration as DurationKind, Text as TextKind, Sign as SignKind}
use Rattle.pr_ast.specs.declared.lex.token.Token.{Token}
use Rattle.pr_ast.specs.declared.lex.fault.LexKind.{LexKind}
use Rattle.pr_ast.specs.declared.lex.fault.LexKind.TheVariants.{BadChar, OpenText, BadEscape, BadNumber, TooWide, BadSpan, SpanTooLong}
use Rattle.pr_ast.specs.declared.lex.part.Lexeme.{Lexeme}
use Rattle.pr_ast.specs.declared.lex.part.Lexeme.TheVariants.{Name, Number, Duration, Text, Sign as SignLexeme}
use Rattle.pr_ast.specs.declared.lex.part.Part.TheVariants.{End, Gap, Token as TokenPart}
use Rattle.pr_ast.specs.Bytes.{name_class, front_len, part_at}
use Rattle.pr_ast.specs.Number.{IsNumberEnd}
use Rattle.pr_ast.specs.Signs.{sign_text, BeginsWithSign, IsLongestSign, begun_sign}

-- A name is all the bytes of names that the text begins with.
pub record IsName (inside : Bool) (text : List ℕ) (n : ℕ) (token : TokenKind) : Type 0 where
  pub longest : n ≡ front_len (name_class inside) text
  pub is : token ≡ NameKind (take n text)

-- A number and a string go on as long as the bytes before some place begin one of their form, and
-- no further. A duration goes on up to the first byte with which it does not go on as a span text:
-- before it stand whole parts, and digits or a letter that begin one more. Whether what stands
-- there can still become a span is not asked: `5ms5` goes on, though no span begins with it. What
-- goes on so is whole.
pub record IsNumber (text : List ℕ) (n : ℕ) (token : TokenKind) : Type 0 where
  pub longest : IsNumberEnd text n
  pub value : Num
  pub whole : reads (take n text) ≡ Ok value
  pub is : token ≡ NumberKind value

pub record IsDuration (text : List ℕ) (n : ℕ) (token : TokenKind) : Type 0 where
  pub longest : IsSpanEnd text n
  pub ms : ℕ
  pub whole : ReadsSpan (take n text) ms
  pub fits : ms ≤ 2 ^ 40
  pub is : token ≡ DurationKind ms

pub record IsText (text : List ℕ) (n : ℕ) (token : TokenKind) : Type 0 where
  pub longest : IsStringEnd text n
  pub content : List ℕ
  pub whole : IsString text content (drop n text)
  pub is : token ≡ TextKind content

-- Of the signs that the text begins with, the longest is taken.
pub record IsSign (text : List ℕ) (n : ℕ) (token : TokenKind) : Type 0 where
  pub sign : Sign
  pub longest : IsLongestSign text sign
  pub whole : n ≡ length (sign_text sign)
  pub is : token ≡ SignKind sign

-- The first so many bytes of the text are the token.
abbrev pub IsTokenOf : Lexeme → Bool → List ℕ → ℕ → TokenKind → Type 0
IsTokenOf Name inside text n token = IsName inside text n token
IsTokenOf Number inside text n token = IsNumber text n token
IsTokenOf Duration inside text n token = IsDuration text n token
IsTokenOf Text inside text n token = IsText text n token
IsTokenOf SignLexeme inside text n token = IsSign text n token

-- What is wrong with a number that goes on up to `end`: it is not whole there, or it is too wide.
abbrev pub NumberFault : Result Num NumFault → ℕ → ℕ → LexKind → Type 0
NumberFault (Ok value) end place kind = ⊥
NumberFault (Err NotNumber) end place kind = (place ≡ end) × (kind ≡ BadNumber)
NumberFault (Err WideNumber) end place kind = (place ≡ 0) × (kind ≡ TooWide)

pub record IsNumberFault (text : List ℕ) (place : ℕ) (kind : LexKind) : Type 0 where
  pub end : ℕ
  pub longest : IsNumberEnd text end
  pub fault : NumberFault (reads (take end text)) end place kind

-- What is wrong with a duration that goes on up to `end`.
abbrev pub DurationFault : LexKind → List ℕ → ℕ → ℕ → Type 0
DurationFault BadSpan text end place = (place ≡ end) × ((ms : ℕ) → ReadsSpan (take end text) ms → ⊥)
DurationFault SpanTooLong text end place = (place ≡ 0) × ((ms : ℕ) × ReadsSpan (take end text) ms × (2 ^ 40 < ms))
DurationFault _ text end place = ⊥

pub record IsDurationFault (text : List ℕ) (place : ℕ) (kind : LexKind) : Type 0 where
  pub end : ℕ
  pub longest : IsSpanEnd text end
  pub fault : DurationFault kind text end place

-- What is wrong with a string that goes on up to `end`. It is left open where the text ends, inside
-- an escape too, and where a line feed follows whole pieces; else the byte there is bad for an
-- escape.
abbrev pub IsLeftOpen : List ℕ → ℕ → Type 0
IsLeftOpen text end = (end ≡ length text) ⊎ IsOpenAt text end

abbrev pub TextFault : LexKind → List ℕ → ℕ → ℕ → Type 0
TextFault OpenText text end place = (place ≡ 0) × IsLeftOpen text end
TextFault BadEscape text end place = (place ≡ end) × (IsLeftOpen text end → ⊥)
TextFault _ text end place = ⊥

pub record IsTextFault (text : List ℕ) (place : ℕ) (kind : LexKind) : Type 0 where
  pub end : ℕ
  pub longest : IsStringEnd text end
  pub broken : (content : List ℕ) → IsString text content (drop end text) → ⊥
  pub fault : TextFault kind text end place

-- The text begins with no sign. With `!` two signs begin, and none is whole: then the byte after it
-- is the bad one.
pub record IsSignFault (text : List ℕ) (place : ℕ) (kind : LexKind) : Type 0 where
  pub none : (sign : Sign) → BeginsWithSign text sign → ⊥
  pub after : place ≡ begun_sign text
  pub is : kind ≡ BadChar

-- The text begins with no token: the place of the fault in it, and its kind.
abbrev pub IsFaultOf : Lexeme → List ℕ → ℕ → LexKind → Type 0
IsFaultOf Name text place kind = ⊥
IsFaultOf Number text place kind = IsNumberFault text place kind
IsFaultOf Duration text place kind = IsDurationFault text place kind
IsFaultOf Text text place kind = IsTextFault text place kind
IsFaultOf SignLexeme text place kind = IsSignFault text place kind

-- After a `[` a text stands between brackets, until the next `]`.
abbrev pub inside_after : Bool → TokenKind → Bool
inside_after inside (SignKind LeftBracket) = true
inside_after inside (SignKind RightBracket) = false
inside_after inside token = inside

-- The tokens of a text that stands at a place: whitespace and comments are passed over, and each
-- token is the longest one where it begins.
pub data AreTokens : Bool → ℕ → List ℕ → List Token → Type 0 where
  no_more : {inside : Bool} {at : ℕ} {text : List ℕ} → part_at inside text ≡ End → AreTokens inside at text []
  past_gap : {inside : Bool} {at : ℕ} {text : List ℕ} {tokens : List Token} (n : ℕ) → part_at inside text ≡ Gap n →
      AreTokens inside (at + n) (drop n text) tokens → AreTokens inside at text tokens
  one_more : {inside : Bool} {at : ℕ} {text : List ℕ} {tokens : List Token} (n : ℕ) (token : TokenKind) (lexeme : Lexeme) →
      part_at inside text ≡ TokenPart lexeme → IsTokenOf lexeme inside text n token →
      AreTokens (inside_after inside token) (at + n) (drop n text) tokens → AreTokens inside at text (record { start = at; end = at + n; kind = token } ∷ tokens)

-- The first fault of a text that stands at a place: after as many tokens as there are, the text
-- begins with none.
pub data IsFirstFault : Bool → ℕ → List ℕ → ℕ → LexKind → Type 0 where
  fault_here : {inside : Bool} {at : ℕ} {text : List ℕ} {kind : LexKind} (place : ℕ) (lexeme : Lexeme) →
      part_at inside text ≡ TokenPart lexeme → IsFaultOf lexeme text place kind → IsFirstFault inside at text (at + place) kind
  fault_past_gap : {inside : Bool} {at place : ℕ} {text : List ℕ} {kind : LexKind} (n : ℕ) → part_at inside text ≡ Gap n →
      IsFirstFault inside (at + n) (drop n text) place kind → IsFirstFault inside at text place kind
  fault_past_token : {inside : Bool} {at place : ℕ} {text : List ℕ} {kind : LexKind} (n : ℕ) (token : TokenKind) (lexeme : Lexeme) →
      part_at inside text ≡ TokenPart lexeme → IsTokenOf lexeme inside text n token →
      IsFirstFault (inside_after inside token) (at + n) (drop n text) place kind → IsFirstFault inside at text place kind

-- The tokens of a whole text, and its first fault.
abbrev pub HasTokens : List ℕ → List Token → Type 0
HasTokens text tokens = AreTokens false 0 text tokens

abbrev pub HasFault : List ℕ → ℕ → LexKind → Type 0
HasFault text place kind = IsFirstFault false 0 text place kind

-- The first so many tokens of a whole text, or all where it has fewer.
pub record HasFirst (text : List ℕ) (most : ℕ) (front : List Token) : Type 0 where
  pub tokens : List Token
  pub has : HasTokens text tokens
  pub is : front ≡ take most tokens
