-- The form of a number text, as a grammar: a text for each choice of its parts.
use Rattle.std.specs.Prelude.{◌≡◌, ℕ, ◌+◌, ◌<◌, ◌⊎◌, Bool, true, false, List, [], ◌++◌, length, codes}
use Rattle.std.specs.List.{list_all}
use Rattle.std.specs.Char.{is_ascii_digit}
use Rattle.std.specs.Str.{str_eq_ignore_ascii_case}
use Rattle.pr_num.specs.Reads.{Scale}

-- a sign
pub data Sign : Type 0 where
  no_sign : Sign
  plus : Sign
  minus : Sign

abbrev pub sign_text : Sign → List ℕ
sign_text no_sign = []
sign_text plus = codes "+"
sign_text minus = codes "-"

abbrev pub is_minus : Sign → Bool
is_minus no_sign = false
is_minus plus = false
is_minus minus = true

-- a point and the digits after it
pub data Fraction : Type 0 where
  no_point : Fraction
  point : List ℕ → Fraction

abbrev pub fraction_part : Fraction → List ℕ
fraction_part no_point = []
fraction_part (point ds) = codes "." ++ ds

abbrev pub decimals : Fraction → List ℕ
decimals no_point = []
decimals (point ds) = ds

-- an exponent, after a small or a capital letter
pub data Exponent : Type 0 where
  no_exponent : Exponent
  small_e : Sign → List ℕ → Exponent
  capital_e : Sign → List ℕ → Exponent

abbrev pub exponent_part : Exponent → List ℕ
exponent_part no_exponent = []
exponent_part (small_e s ds) = codes "e" ++ (sign_text s ++ ds)
exponent_part (capital_e s ds) = codes "E" ++ (sign_text s ++ ds)

abbrev pub scale_part : Exponent → Scale
scale_part no_exponent = record { divides = false; digits = [] }
scale_part (small_e s ds) = record { divides = is_minus s; digits = ds }
scale_part (capital_e s ds) = record { divides = is_minus s; digits = ds }

-- digits alone
abbrev pub AreDigits : List ℕ → Type 0
AreDigits ds = list_all is_ascii_digit ds ≡ true

abbrev pub IsExponent : Exponent → Type 0
IsExponent no_exponent = Unit {0}
IsExponent (small_e s ds) = (0 < length ds) × AreDigits ds
IsExponent (capital_e s ds) = (0 < length ds) × AreDigits ds

-- digits with an optional point among them, at least one digit in all, and an optional exponent
pub record IsUnsignedForm (whole : List ℕ) (fraction : Fraction) (exponent : Exponent) : Type 0 where
  pub whole_digits : AreDigits whole
  pub decimal_digits : AreDigits (decimals fraction)
  pub some : 0 < length whole + length (decimals fraction)
  pub exponent_form : IsExponent exponent

abbrev pub unsigned_text : List ℕ → Fraction → Exponent → List ℕ
unsigned_text whole fraction exponent = whole ++ (fraction_part fraction ++ exponent_part exponent)

-- the texts of numbers: an optional sign and that
abbrev pub form_text : Sign → List ℕ → Fraction → Exponent → List ℕ
form_text sign whole fraction exponent = sign_text sign ++ unsigned_text whole fraction exponent

-- a word for an infinity, in any case
abbrev pub IsInfinityWord : List ℕ → Type 0
IsInfinityWord word =
    (str_eq_ignore_ascii_case word (codes "inf") ≡ true) ⊎ (str_eq_ignore_ascii_case word (codes "infinity") ≡ true)

-- a text after its sign has the form, by these parts
pub record HasUnsignedForm (text : List ℕ) : Type 0 where
  pub whole : List ℕ
  pub fraction : Fraction
  pub exponent : Exponent
  pub form : IsUnsignedForm whole fraction exponent
  pub parts : text ≡ unsigned_text whole fraction exponent

-- a text is a sign and then such a word, or has the form
pub record IsSigned (text : List ℕ) : Type 0 where
  pub sign : Sign
  pub rest : List ℕ
  pub parts : text ≡ sign_text sign ++ rest
  pub form : IsInfinityWord rest ⊎ HasUnsignedForm rest

-- the number texts
abbrev pub IsNumberText : List ℕ → Type 0
IsNumberText text = (str_eq_ignore_ascii_case text (codes "nan") ≡ true) ⊎ IsSigned text
