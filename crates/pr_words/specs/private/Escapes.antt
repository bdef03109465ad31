-- What the digits of an escape write: a character, at most the limit.
use Rattle.std.specs.Prelude.{◌≡◌, ℕ, ◌+◌, ◌*◌, ◌^◌, ◌<◌, ◌≤◌, ◌⊎◌, List, ◌++◌, length, encode_utf8}
use Rattle.std.specs.Str.Parse.{AllDigits, digits_value}
use Rattle.pr_forms.specs.Form.{rule, Reads}
use Rattle.pr_words.specs.declared.strings.kind.Mark.{Mark}
use Rattle.pr_words.specs.Strings.{production, seen, content, Escape}

-- the limits of escapes: the last character of one byte, and the last of all
abbrev pub IsLimit : ℕ → Type 0
IsLimit limit = (limit ≡ 0x7F) ⊎ (limit ≡ 0x10FFFF)

-- A number is that of a character: the surrogates, from 0xD800 to 0xDFFF, are none.
abbrev pub IsCharacter : ℕ → Type 0
IsCharacter v = (v < 0xD800) ⊎ ((0xE000 ≤ v) × (v ≤ 0x10FFFF))

-- With so many digits after it, a number can become that of a character which is at most the limit.
-- The numbers that it can become are those from itself with zeros after it on, as many as the
-- digits can count.
pub record CanBecomeCharacter (limit left number : ℕ) : Type 0 where
  pub value : ℕ
  pub from : number * 16 ^ left ≤ value
  pub below : value < number * 16 ^ left + 16 ^ left
  pub limited : value ≤ limit
  pub character : IsCharacter value

-- What stands after the backslash before the rest means the bytes.
abbrev pub IsEscape : Mark → List ℕ → List ℕ → List ℕ → Type 0
IsEscape quote text bytes rest = Reads production (rule (Escape quote)) (seen text) (content bytes) (seen rest)

-- The text begins with as many digits of base 16, and they write the number of a character at most
-- the limit, whose bytes these are.
pub record WritesCharacter (limit count : ℕ) (text bytes rest : List ℕ) : Type 0 where
  pub digits : List ℕ
  pub parts : text ≡ digits ++ rest
  pub counted : length digits ≡ count
  pub based : AllDigits 16 digits
  pub limited : digits_value 16 digits ≤ limit
  pub character : IsCharacter (digits_value 16 digits)
  pub means : bytes ≡ encode_utf8 (digits_value 16 digits)
