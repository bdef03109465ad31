-- The number texts, and what they read as: a sign, digits with a point among them, and an exponent.
use Rattle.std.specs.Prelude.{ℕ, ◌+◌, ◌*◌, ◌^◌, ◌==◌, ◌&&◌, ◌||◌, Bool, true, false, List, [], ◌∷◌, ◌++◌, length, take, drop, codes, Option, Some, None, nat_lt, if◌then◌else◌, Result, Ok, Err}
use Prim.Native.Char.{code}
use Rattle.std.specs.List.{prefix_len, list_all}
use Rattle.std.specs.Char.{is_ascii_digit}
use Rattle.std.specs.Str.{str_eq_ignore_ascii_case}
use Rattle.std.specs.Str.Parse.{digits_value}
use Rattle.pr_num.specs.declared.value.Num.{Num}
use Rattle.pr_num.specs.declared.value.Num.TheVariants.{Finite, NaN}
use Rattle.pr_num.specs.declared.text.NumFault.{NumFault}
use Rattle.pr_num.specs.declared.text.NumFault.TheVariants.{NotNumber, TooWide}
use Rattle.pr_num.specs.Half.{half_abs, signed}
use Rattle.pr_num.specs.Arithmetic.{infinity}

-- the digits that the bytes begin with, and what stands after them
abbrev pub front_digits : List ℕ → List ℕ
front_digits bs = take (prefix_len is_ascii_digit bs) bs

abbrev pub after_digits : List ℕ → List ℕ
after_digits bs = drop (prefix_len is_ascii_digit bs) bs

-- the digits after a point, and what stands after them; both where the digits before it end
abbrev pub fraction_digits : List ℕ → List ℕ
fraction_digits [] = []
fraction_digits (c ∷ bs) = if c == code "." then front_digits bs else []

abbrev pub after_fraction : List ℕ → List ℕ
after_fraction [] = []
after_fraction (c ∷ bs) = if c == code "." then after_digits bs else c ∷ bs

-- a power of ten: whether it divides, and the digits of its exponent
pub record Scale : Type 0 where
  pub divides : Bool
  pub digits : List ℕ

-- a digit or more, and nothing else
abbrev pub is_numeral : List ℕ → Bool
is_numeral bs = nat_lt 0 (length bs) && list_all is_ascii_digit bs

abbrev pub scale_of : Bool → List ℕ → Option Scale
scale_of divides bs = if is_numeral bs then Some (record { divides = divides; digits = bs }) else None

-- an exponent after its letter
abbrev pub signed_scale : List ℕ → Option Scale
signed_scale [] = None
signed_scale (c ∷ bs) = if c == code "-" then scale_of true bs else (if c == code "+" then scale_of false bs else scale_of false (c ∷ bs))

-- the end of a number text
abbrev pub ending : List ℕ → Option Scale
ending [] = Some (record { divides = false; digits = [] })
ending (c ∷ bs) = if (c == code "e") || (c == code "E") then signed_scale bs else None

-- the powers of ten that an exponent multiplies with and divides by
abbrev pub up : Scale → ℕ
up s = if s.divides then 0 else digits_value 10 s.digits

abbrev pub down : Scale → ℕ
down s = if s.divides then digits_value 10 s.digits else 0

-- the exact magnitude of a text in units of 10^-9, as a fraction
abbrev pub numerator : List ℕ → List ℕ → Scale → ℕ
numerator whole fraction s = digits_value 10 (whole ++ fraction) * 10 ^ (9 + up s)

abbrev pub denominator : List ℕ → Scale → ℕ
denominator fraction s = 10 ^ (length fraction + down s)

-- the same rounded half to even
abbrev pub text_magnitude : List ℕ → List ℕ → Scale → ℕ
text_magnitude whole fraction s = half_abs (numerator whole fraction s) (denominator fraction s)

-- the value of this sign and this many units, unless they are 10^29 or more
abbrev pub number_of : Bool → ℕ → Result Num NumFault
number_of negative magnitude =
    if nat_lt magnitude (10 ^ 29) then Ok (Finite (signed negative magnitude)) else Err TooWide

-- digits before and after a point, of which there is one at least, and an exponent
abbrev pub reads_number : Bool → List ℕ → List ℕ → Option Scale → Result Num NumFault
reads_number negative whole fraction None = Err NotNumber
reads_number negative whole fraction (Some s) =
    if nat_lt 0 (length whole + length fraction) then number_of negative (text_magnitude whole fraction s) else Err NotNumber

-- a text after its sign: one of two words in any case, or digits
abbrev pub reads_unsigned : Bool → List ℕ → Result Num NumFault
reads_unsigned negative bs =
    if str_eq_ignore_ascii_case bs (codes "inf") || str_eq_ignore_ascii_case bs (codes "infinity") then Ok (infinity negative)
    else reads_number negative (front_digits bs) (fraction_digits (after_digits bs)) (ending (after_fraction (after_digits bs)))

-- a text: after a sign, or a word without one, or digits
unfoldable pub reads : List ℕ → Result Num NumFault
reads [] = Err NotNumber
reads (c ∷ bs) =
    if c == code "-" then reads_unsigned true bs
    else (if c == code "+" then reads_unsigned false bs
    else (if str_eq_ignore_ascii_case (c ∷ bs) (codes "nan") then Ok NaN else reads_unsigned false (c ∷ bs)))
