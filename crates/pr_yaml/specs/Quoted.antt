-- Quoted texts.
use Rattle.std.specs.Prelude.{ℕ, ◌+◌, ◌-◌, ◌*◌, ◌==◌, nat_le, ◌&&◌, ◌||◌, Bool, true, false, Option, Some, None, List, [], ◌∷◌, ◌++◌, drop, encode_utf8, if◌then◌else◌}
use Prim.Native.Char.{code}
use Rattle.pr_words.specs.Strings.{fits}
use Rattle.pr_yaml.specs.Bytes.{no_text, is_bare, blanks_len}
use Rattle.pr_yaml.specs.Lines.{along, feeds, folded_break}
use Rattle.pr_yaml.specs.declared.yaml_scan.scalar.Scalar.{Scalar}
use Rattle.pr_yaml.specs.declared.yaml_scan.scalar.Scalar.TheVariants.{Found, Broken}
use Rattle.pr_yaml.specs.declared.yaml_scan.quoted.QuotedLine.{QuotedLine}
use Rattle.pr_yaml.specs.declared.yaml_scan.quoted.QuotedLine.TheVariants.{Closed, OpenEnd, JoinedEnd, CutEnd, BadByte}
use Rattle.pr_yaml.specs.declared.yaml_scan.quoted.ByteStep.{ByteStep}
use Rattle.pr_yaml.specs.declared.yaml_scan.quoted.ByteStep.TheVariants.{Byte, Character, Mark, LineOver, QuoteOver, Bad}
use Rattle.pr_yaml.specs.declared.yaml_scan.quoted.Within.{Within}
use Rattle.pr_yaml.specs.declared.yaml_scan.quoted.Within.TheVariants.{InText, AtQuote, InEscape, InDigits}
use Rattle.pr_yaml.specs.declared.yaml_scan.fault.YamlKind.TheVariants.{Escape, Quote as OpenQuote, NotText}
use Rattle.pr_yaml.specs.declared.yaml_scan.quoted.Quote.{Quote}
use Rattle.pr_yaml.specs.declared.yaml_scan.quoted.Quote.TheVariants.{Single, Double}

-- the line with more before it, which takes so many bytes
abbrev pub after_bytes : List ℕ → ℕ → QuotedLine → QuotedLine
after_bytes bytes n (Closed text taken) = Closed (bytes ++ text) (n + taken)
after_bytes bytes n (OpenEnd text) = OpenEnd (bytes ++ text)
after_bytes bytes n (JoinedEnd text) = JoinedEnd (bytes ++ text)
after_bytes bytes n CutEnd = CutEnd
after_bytes bytes n (BadByte kind) = BadByte kind

unfoldable pub quote_byte : Quote → ℕ
quote_byte Single = code "'"
quote_byte Double = code "\""

unfoldable pub is_backslash : Quote → ℕ → Bool
is_backslash Single b = false
is_backslash Double b = b == code "\\"

-- the byte that a letter after a backslash stands for: \\ \" \/ \a \b \e \f \n \r \t \v \0
unfoldable pub named_byte : ℕ → Option ℕ
named_byte b =
    if b == code "\\" || (b == code "\"" || b == code "/") then Some b else (if b == code "a" then Some (code "\u{7}") else (if b == code "b" then Some (code "\u{8}") else (if b == code "e" then Some (code "\u{1b}") else
    (if b == code "f" then Some (code "\u{c}") else (if b == code "n" then Some (code "\n") else (if b == code "r" then Some (code "\r") else (if b == code "t" then Some (code "\t") else
    (if b == code "v" then Some (code "\u{b}") else (if b == code "0" then Some (code "\0") else None)))))))))

-- how many digits follow x, u and U
unfoldable pub digits_after : ℕ → Option ℕ
digits_after b = if b == code "x" then Some 2 else (if b == code "u" then Some 4 else (if b == code "U" then Some 8 else None))

-- the value of a digit of base 16
unfoldable pub hex_digit : ℕ → Option ℕ
hex_digit b =
    if nat_le (code "0") b && nat_le b (code "9") then Some (b - code "0") else
    (if nat_le (code "A") b && nat_le b (code "F") then Some (b - (code "A" - 10)) else (if nat_le (code "a") b && nat_le b (code "f") then Some (b - (code "a" - 10)) else None))

-- a byte that no escape goes on with
abbrev pub bad_escape : ℕ → ByteStep
bad_escape b = Bad (if no_text b then NotText else Escape)

-- after a backslash: a letter that stands for a byte, or one before digits
abbrev pub letter_step : ℕ → Option ℕ → Option ℕ → ByteStep
letter_step b (Some named) digits = Byte named
letter_step b None (Some n) = Mark (InDigits n 0)
letter_step b None None = bad_escape b

-- Digits have written a number, and so many are left. Where no character up to the last one,
-- 10FFFF, can come of it, the last of these digits is bad: the surrogates are no characters.
unfoldable pub number_step : ℕ → ℕ → ByteStep
number_step left n = if fits 0x10FFFF left n then (if left == 0 then Character n else Mark (InDigits left n)) else Bad Escape

-- a digit of base 16
abbrev pub digit_step : ℕ → Option ℕ → ℕ → ℕ → ByteStep
digit_step b None left n = bad_escape b
digit_step b (Some d) left n = number_step (left - 1) (n * 16 + d)

-- whether the byte after a quote keeps that quote in the text
abbrev pub doubles : Quote → ℕ → Bool
doubles Single b = b == code "'"
doubles Double b = false

-- What the next byte is to a quoted text. `bare` says that nothing but blanks stands on the line
-- from it on: these are dropped. A quote ends the text, but two single quotes are one. In double
-- quotes a backslash begins an escape.
unfoldable pub byte_step : Quote → Within → Bool → ℕ → ByteStep
byte_step q InText bare b =
    if bare then LineOver else (if b == quote_byte q then Mark AtQuote else (if is_backslash q b then Mark InEscape else (if no_text b then Bad NotText else Byte b)))
byte_step q AtQuote bare b = if doubles q b then Byte b else QuoteOver
byte_step q InEscape bare b = letter_step b (named_byte b) (digits_after b)
byte_step q (InDigits left n) bare b = digit_step b (hex_digit b) left n

-- what a text has from a byte on, by what it has from the next one on
abbrev pub on_step : ByteStep → (Within → QuotedLine) → QuotedLine
on_step (Byte b) again = after_bytes (b ∷ []) 1 (again InText)
on_step (Character n) again = after_bytes (encode_utf8 n) 1 (again InText)
on_step (Mark w) again = after_bytes [] 1 (again w)
on_step LineOver again = OpenEnd []
on_step QuoteOver again = Closed [] 0
on_step (Bad kind) again = BadByte kind

-- what the line's end is to a text
abbrev pub at_line_end : Within → QuotedLine
at_line_end InText = OpenEnd []
at_line_end AtQuote = Closed [] 0
at_line_end InEscape = JoinedEnd []
at_line_end (InDigits left n) = CutEnd

-- What a quoted text has on a line.
unfoldable pub quoted_line : Quote → Within → List ℕ → QuotedLine
quoted_line q w [] = at_line_end w
quoted_line q w (b ∷ rest) = on_step (byte_step q w (is_bare (b ∷ rest)) b) (λ v. quoted_line q v rest)

-- What a break makes, after a backslash at the line's end or not: after a backslash the break
-- itself is nothing.
unfoldable pub quoted_break : Bool → ℕ → List ℕ
quoted_break joined empty = if joined then feeds empty else folded_break empty

-- inside an escape a line's end is bad, but the text's end leaves the quoted text open
unfoldable pub cut_fault : ℕ → ℕ → List (List ℕ) → Scalar
cut_fault final line [] = Broken final OpenQuote
cut_fault final line (l ∷ more) = Broken line Escape

-- what it comes to by what it has on a line
abbrev pub by_line : QuotedLine → ℕ → ℕ → List ℕ → List (List ℕ) → (List ℕ → Bool → Scalar) → Scalar
by_line (Closed text taken) final line l more again = Found text (along taken (record { line = line; column = 0; here = l; below = more }))
by_line (OpenEnd text) final line l more again = again text false
by_line (JoinedEnd text) final line l more again = again text true
by_line CutEnd final line l more again = cut_fault final line more
by_line (BadByte kind) final line l more again = Broken line kind

-- A quoted text goes on over lines, as a plain text does, but whatever their indentation: it has
-- `text` so far, ended its last line with a backslash or not, and after that line stand so many
-- empty ones and then these, of which the first has the number `line`. The text's last byte is on
-- the line `final`.
unfoldable pub quoted_below : Quote → List ℕ → Bool → ℕ → ℕ → ℕ → List (List ℕ) → Scalar
quoted_below q text joined empty final line [] = Broken final OpenQuote
quoted_below q text joined empty final line (l ∷ more) =
    if is_bare l then quoted_below q text joined (empty + 1) final (line + 1) more else
    by_line (after_bytes (text ++ quoted_break joined empty) (blanks_len l) (quoted_line q InText (drop (blanks_len l) l))) final line l more
    (λ more_text ended_joined. quoted_below q more_text ended_joined 0 final (line + 1) more)
