-- The strings of the query language: what they read, and where they are bad.
use Rattle.std.specs.Prelude.{◌≡◌, ℕ, zero, suc, ◌+◌, ◌*◌, ◌^◌, ◌==◌, nat_le, ◌&&◌, ◌||◌, not, Bool, true, false, Option, Some, None, List, [], ◌∷◌, ◌++◌, drop, map, encode_utf8, if◌then◌else◌}
use Prim.Native.Char.{code}
use Rattle.std.specs.Char.{is_ascii_digit, digit_value}
use Rattle.pr_words.specs.Bytes.{is_blank}
use Rattle.pr_forms.specs.Form.{Form, token, nothing, pair, either, turns, chosen, rule, Reads, IsFirstBad}
use Rattle.pr_words.specs.declared.strings.kind.Mark.{Mark}
use Rattle.pr_words.specs.declared.strings.kind.Mark.TheVariants.{Double, Single, Back}
use Rattle.pr_words.specs.declared.strings.kind.StringByte.{StringByte}
use Rattle.pr_words.specs.declared.strings.kind.StringByte.TheVariants.{Quote, Backslash, Feed, A, B, F, N, R, T, V, X, Short, Long, Digit, HexLetter, OtherLetter, Colon, Open, Close, Comma, Equal, Blank, Other}

-- what a byte is to the texts that have strings
abbrev pub is_hex_letter : ℕ → Bool
is_hex_letter b = (nat_le (code "A") b && nat_le b (code "F")) || (nat_le (code "c") b && nat_le b (code "e"))

abbrev pub is_other_letter : ℕ → Bool
is_other_letter b = (nat_le (code "G") b && nat_le b (code "Z")) || (nat_le (code "g") b && nat_le b (code "z")) || b == code "_"

-- the signs and the blanks, and all else
abbrev pub sign_kind : ℕ → StringByte
sign_kind b = if b == code ":" then Colon else (if b == code "{" then Open else (if b == code "}" then Close else (if b == code "," then Comma else (if b == code "=" then Equal else
    (if is_blank b then Blank else Other)))))

-- the digits and the letters without a meaning after a backslash
abbrev pub plain_kind : ℕ → StringByte
plain_kind b = if is_ascii_digit b then Digit else (if is_hex_letter b then HexLetter else (if is_other_letter b then OtherLetter else sign_kind b))

-- the letters that stand after a backslash
abbrev pub escape_kind : ℕ → StringByte
escape_kind b = if b == code "a" then A else (if b == code "b" then B else (if b == code "f" then F else (if b == code "n" then N else (if b == code "r" then R else
    (if b == code "t" then T else (if b == code "v" then V else (if b == code "x" then X else (if b == code "u" then Short else (if b == code "U" then Long else plain_kind b)))))))))

-- the quotes, the backslash and the line feed
abbrev pub kind_of : ℕ → StringByte
kind_of b = if b == code "\"" then Quote Double else (if b == code "'" then Quote Single else (if b == code "`" then Quote Back else
    (if b == code "\\" then Backslash else (if b == code "\n" then Feed else escape_kind b))))

-- A byte as the grammar sees it.
pub data Letter : Type 0 where
  letter : StringByte → ℕ → Letter

abbrev pub letter_of : ℕ → Letter
letter_of b = letter (kind_of b) b

abbrev pub seen : List ℕ → List Letter
seen = map letter_of

-- What stands for a part of a string.
pub data StringValue : Type 0 where
  -- the bytes that a part means
  content : List ℕ → StringValue
  -- a byte that has no value alone
  mark : StringValue

-- The rules.
pub data Rule : Type 0 where
  -- a string
  Text : Rule
  -- what stands after its first quote, with the last one
  Quoted : Mark → Rule
  -- what stands after a backslash
  Escape : Mark → Rule
  -- a number of digits that are left, after those that have written a number, of a character at
  -- most this one
  Digits : ℕ → ℕ → ℕ → Rule
  -- a byte, and then as many digits
  Then : ℕ → ℕ → ℕ → Rule

abbrev pub same_mark : Mark → Mark → Bool
same_mark Double Double = true
same_mark Single Single = true
same_mark Back Back = true
same_mark _ _ = false

abbrev pub quote_at : Mark → Letter → Option StringValue
quote_at m (letter (Quote n) b) = if same_mark m n then Some mark else None
quote_at m _ = None

-- Between backticks all but a backtick stands for itself; between the other quotes neither a
-- backslash nor a line feed does.
abbrev pub is_plain : Mark → StringByte → Bool
is_plain m (Quote n) = not (same_mark m n)
is_plain Back k = true
is_plain m Backslash = false
is_plain m Feed = false
is_plain m k = true

-- a byte that a part means
abbrev pub byte_value : ℕ → StringValue
byte_value b = content (b ∷ [])

abbrev pub plain_at : Mark → Letter → Option StringValue
plain_at m (letter k b) = if is_plain m k then Some (byte_value b) else None

abbrev pub is_escape : Mark → StringByte → Bool
is_escape Back k = false
is_escape m Backslash = true
is_escape m k = false

abbrev pub escape_at : Mark → Letter → Option StringValue
escape_at m (letter k b) = if is_escape m k then Some mark else None

-- the byte that a letter after a backslash stands for; of the quotes, only the string's own one
-- does
abbrev pub named_byte : Mark → StringByte → Option ℕ
named_byte m (Quote n) = if same_mark m n then Some (if same_mark m Double then code "\"" else (if same_mark m Single then code "'" else code "`")) else None
named_byte m Backslash = Some (code "\\")
named_byte m A = Some (code "\u{7}")
named_byte m B = Some (code "\u{8}")
named_byte m F = Some (code "\u{c}")
named_byte m N = Some (code "\n")
named_byte m R = Some (code "\r")
named_byte m T = Some (code "\t")
named_byte m V = Some (code "\u{b}")
named_byte m k = None

abbrev pub as_content : Option ℕ → Option StringValue
as_content (Some b) = Some (byte_value b)
as_content None = None

abbrev pub named_at : Mark → Letter → Option StringValue
named_at m (letter k b) = as_content (named_byte m k)

-- After x two digits follow, up to 7F; after u four and after U eight, up to the last character.
abbrev pub numbering : ℕ → ℕ → Rule
numbering limit digits = Then limit digits 0

abbrev pub numbered_by : StringByte → Option Rule
numbered_by X = Some (numbering 0x7F 2)
numbered_by Short = Some (numbering 0x10FFFF 4)
numbered_by Long = Some (numbering 0x10FFFF 8)
numbered_by k = None

abbrev pub numbered : Letter → Option Rule
numbered (letter k b) = numbered_by k

-- the value of a digit of base 16
abbrev pub digit_of : Letter → Option ℕ
digit_of (letter Digit b) = Some (digit_value b)
digit_of (letter HexLetter b) = Some (digit_value b)
digit_of (letter A b) = Some 10
digit_of (letter B b) = Some 11
digit_of (letter F b) = Some 15
digit_of _ = None

-- Whether a number can become that of a character with so many digits more: the least number that
-- it can become is not above the limit, and not all that it can become are surrogates, which are no
-- characters.
abbrev pub fits : ℕ → ℕ → ℕ → Bool
fits limit left n = nat_le (n * 16 ^ left) limit && not (nat_le 0xD800 (n * 16 ^ left) && nat_le (n * 16 ^ left + 16 ^ left) 0xE000)

abbrev pub reached : ℕ → ℕ → ℕ → Option ℕ → Option Rule
reached limit left n None = None
reached limit left n (Some d) = if fits limit left (n * 16 + d) then Some (Then limit left (n * 16 + d)) else None

abbrev pub any_at : Letter → Option StringValue
any_at t = Some mark

-- how the values of parts are joined
abbrev pub joined : StringValue → StringValue → StringValue
joined (content bs) (content cs) = content (bs ++ cs)
joined _ _ = mark

abbrev pub first_of : StringValue → StringValue → StringValue
first_of v w = v

abbrev pub second_of : StringValue → StringValue → StringValue
second_of v w = w

abbrev pub nothing_follows : Letter → Bool
nothing_follows t = false

-- a byte that stands for itself, or an escape
abbrev pub piece : Mark → Form Letter Rule StringValue
piece m = either (token (plain_at m)) (pair second_of (token (escape_at m)) (rule (Escape m)))

-- The productions:
--   text          = '"' quoted(double) | "'" quoted(single) | "`" quoted(back)
--   quoted(m)     = {plain(m) | "\" escape(m)} m
--   escape(m)     = m | "\" | "a" | "b" | "f" | "n" | "r" | "t" | "v"
--                 | "x" digits(2) | "u" digits(4) | "U" digits(8)
--   digits(0)     =
--   digits(k + 1) = a digit with which a character can still come, and digits(k)
-- `Then` reads the byte that chose it, and then the digits.
abbrev pub production : Rule → Form Letter Rule StringValue
production Text = either (pair second_of (token (quote_at Double)) (rule (Quoted Double)))
    (either (pair second_of (token (quote_at Single)) (rule (Quoted Single))) (pair second_of (token (quote_at Back)) (rule (Quoted Back))))
production (Quoted m) = pair first_of (turns joined (content []) (piece m)) (token (quote_at m))
production (Escape m) = either (token (named_at m)) (chosen numbered nothing_follows)
production (Digits limit zero n) = nothing (content (encode_utf8 n))
production (Digits limit (suc left) n) = chosen (λ t. reached limit left n (digit_of t)) nothing_follows
production (Then limit left n) = pair second_of (token any_at) (rule (Digits limit left n))

-- The front of the text before the rest is a string, and means the bytes.
abbrev pub IsString : List ℕ → List ℕ → List ℕ → Type 0
IsString text bytes rest = Reads production (rule Text) (seen text) (content bytes) (seen rest)

-- The place is the first one at which no string can go on.
abbrev pub IsBadPlace : List ℕ → ℕ → Type 0
IsBadPlace text place = IsFirstBad production (rule Text) (seen text) place

-- The text begins with a quote, and the rest follows it.
pub record IsOpening (text : List ℕ) (quote : Mark) (rest : List ℕ) : Type 0 where
  pub first : ℕ
  pub is : text ≡ first ∷ rest
  pub opens : kind_of first ≡ Quote quote

-- The bytes between the first quote of the text and the place are whole pieces: a string could end
-- there.
pub record IsOpenAt (text : List ℕ) (place : ℕ) : Type 0 where
  pub quote : Mark
  pub rest : List ℕ
  pub opening : IsOpening text quote rest
  pub value : StringValue
  pub pieces : Reads production (turns joined (content []) (piece quote)) (seen rest) value (drop place (seen text))
