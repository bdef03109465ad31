-- The number texts of a line: an optional sign, and digits with an optional point, of which there
-- is one digit at least, and optionally `e`, an optional sign and digits; or `inf` or `infinity`
-- after an optional sign, or `nan`, in any case.
use Rattle.std.specs.Prelude.{ℕ, ◌==◌, Bool, true, false, Option, Some, None, if◌then◌else◌}
use Rattle.pr_expo.specs.declared.expo_line.number.NumberPlace.{NumberPlace}
use Rattle.pr_expo.specs.declared.expo_line.number.NumberPlace.TheVariants.{Signed, Whole, Point, Fraction, Exponent, ExponentSign, ExponentDigits, I, In, Inf, Infi, Infin, Infini, Infinit, Infinity, N, Na, Nan}
use Prim.Native.Char.{code}
use Rattle.std.specs.Char.{is_ascii_digit, eq_ignore_ascii_case}
use Rattle.pr_expo.specs.Characters.{is_sign}

abbrev pub unsigned_start : ℕ → Option NumberPlace
unsigned_start c = if is_ascii_digit c then Some Whole else (if c == code "." then Some Point else (if eq_ignore_ascii_case c (code "i") then Some I else None))

-- the place after the first character
abbrev pub number_start : ℕ → Option NumberPlace
number_start c = if is_sign c then Some Signed else (if eq_ignore_ascii_case c (code "n") then Some N else unsigned_start c)

abbrev pub exponent_start : ℕ → Option NumberPlace
exponent_start c = if eq_ignore_ascii_case c (code "e") then Some Exponent else None

abbrev pub exponent_digit : ℕ → Option NumberPlace
exponent_digit c = if is_ascii_digit c then Some ExponentDigits else None

-- the place after another character, where a number text can go on with it
abbrev pub number_next : NumberPlace → ℕ → Option NumberPlace
number_next Signed c = unsigned_start c
number_next Whole c = if is_ascii_digit c then Some Whole else (if c == code "." then Some Fraction else exponent_start c)
number_next Point c = if is_ascii_digit c then Some Fraction else None
number_next Fraction c = if is_ascii_digit c then Some Fraction else exponent_start c
number_next Exponent c = if is_sign c then Some ExponentSign else exponent_digit c
number_next ExponentSign c = exponent_digit c
number_next ExponentDigits c = exponent_digit c
number_next I c = if eq_ignore_ascii_case c (code "n") then Some In else None
number_next In c = if eq_ignore_ascii_case c (code "f") then Some Inf else None
number_next Inf c = if eq_ignore_ascii_case c (code "i") then Some Infi else None
number_next Infi c = if eq_ignore_ascii_case c (code "n") then Some Infin else None
number_next Infin c = if eq_ignore_ascii_case c (code "i") then Some Infini else None
number_next Infini c = if eq_ignore_ascii_case c (code "t") then Some Infinit else None
number_next Infinit c = if eq_ignore_ascii_case c (code "y") then Some Infinity else None
number_next Infinity c = None
number_next N c = if eq_ignore_ascii_case c (code "a") then Some Na else None
number_next Na c = if eq_ignore_ascii_case c (code "n") then Some Nan else None
number_next Nan c = None

-- whether a number text may end here
abbrev pub is_number_end : NumberPlace → Bool
is_number_end Whole = true
is_number_end Fraction = true
is_number_end ExponentDigits = true
is_number_end Inf = true
is_number_end Infinity = true
is_number_end Nan = true
is_number_end _ = false
