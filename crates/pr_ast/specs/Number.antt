-- The texts of numbers as far as they go on: digits with a point among them or before them, and an
-- exponent. What a whole one is worth is a definition of pr_num.
use Rattle.std.specs.Prelude.{ℕ, ◌==◌, nat_le, ◌&&◌, ◌||◌, Option, Some, None, List, map, if◌then◌else◌}
use Prim.Native.Char.{code}
use Rattle.pr_time.specs.pr_forms.Form.{Form, token, nothing, pair, either, turns, rule, IsFirstBad}
use Rattle.pr_ast.specs.declared.lex.number.Letter.{Letter}
use Rattle.pr_ast.specs.declared.lex.number.Letter.TheVariants.{Digit, Point, E, PlusMinus, Other}

-- what a byte is to a number
abbrev pub letter_of : ℕ → Letter
letter_of b =
    if nat_le (code "0") b && nat_le b (code "9") then Digit else (if b == code "." then Point else (if b == code "e" || b == code "E" then E else (if b == code "+" || b == code "-" then PlusMinus else Other)))

-- the bytes as the grammar sees them
abbrev pub seen : List ℕ → List Letter
seen = map letter_of

-- What stands for a part of a number: nothing but that it is there.
pub data NumberValue : Type 0 where
  mark : NumberValue

-- The rules.
pub data Rule : Type 0 where
  -- a number
  Number : Rule
  -- what may follow its first digits
  Fraction : Rule
  -- an exponent with its letter, which there need not be
  Power : Rule
  -- an exponent after its letter
  Exponent : Rule
  -- a digit or more
  Digits : Rule
  -- what stands after a point at the front
  Tail : Rule

abbrev pub digit_at : Letter → Option NumberValue
digit_at Digit = Some mark
digit_at _ = None

abbrev pub point_at : Letter → Option NumberValue
point_at Point = Some mark
point_at _ = None

abbrev pub e_at : Letter → Option NumberValue
e_at E = Some mark
e_at _ = None

abbrev pub plus_minus_at : Letter → Option NumberValue
plus_minus_at PlusMinus = Some mark
plus_minus_at _ = None

abbrev pub digit : Form Letter Rule NumberValue
digit = token digit_at

abbrev pub both : NumberValue → NumberValue → NumberValue
both v w = mark

-- any number of digits
abbrev pub digits : Form Letter Rule NumberValue
digits = turns both mark digit

-- The productions:
--   number   = "." tail | digits fraction
--   tail     = digits power
--   fraction = "." {digit} power | power
--   power    = ("e" | "E") exponent |
--   exponent = ("+" | "-") digits | digits
--   digits   = digit {digit}
abbrev pub production : Rule → Form Letter Rule NumberValue
production Number = either (pair both (token point_at) (rule Tail)) (pair both (rule Digits) (rule Fraction))
production Tail = pair both (rule Digits) (rule Power)
production Fraction = either (pair both (token point_at) (pair both digits (rule Power))) (rule Power)
production Power = either (pair both (token e_at) (rule Exponent)) (nothing mark)
production Exponent = either (pair both (token plus_minus_at) (rule Digits)) (rule Digits)
production Digits = pair both digit digits

-- The place is the first one at which no number can go on.
abbrev pub IsNumberEnd : List ℕ → ℕ → Type 0
IsNumberEnd text place = IsFirstBad production (rule Number) (seen text) place
