-- The texts of spans: what they read, and where they are bad.
use Prim.Native.Char.{code}
use Rattle.std.specs.Prelude.{ℕ, zero, suc, ◌+◌, ◌-◌, ◌*◌, ◌<◌, ◌^◌, ◌==◌, nat_le, ◌&&◌, Option, Some, None, List, [], map, if◌then◌else◌}
use Rattle.pr_forms.specs.Form.{Form, token, nothing, pair, either, turns, fold, rule, Reads, IsFirstBad}
use Rattle.pr_time.specs.declared.text.Letter.{Letter}
use Rattle.pr_time.specs.declared.text.Letter.TheVariants.{Digit, Y, W, D, H, M, S, Other}
use Rattle.pr_time.specs.declared.text.Unit.{Unit as TimeUnit}
use Rattle.pr_time.specs.declared.text.Unit.TheVariants.{Year, Week, Day, Hour, Minute, Second, Millisecond}
use Rattle.pr_time.specs.declared.text.SpanFault.{SpanFault}
use Rattle.pr_time.specs.declared.text.SpanFault.TheVariants.{BadSpan, SpanTooLong}

-- what a byte is to a span text
abbrev pub letter_of : ℕ → Letter
letter_of b =
    if nat_le (code "0") b && nat_le b (code "9") then Digit (b - code "0") else
    (if b == code "y" then Y else (if b == code "w" then W else (if b == code "d" then D else (if b == code "h" then H else (if b == code "m" then M else (if b == code "s" then S else Other))))))

-- the bytes as the grammar sees them
abbrev pub seen : List ℕ → List Letter
seen = map letter_of

-- a unit in milliseconds
abbrev pub ms_of : TimeUnit → ℕ
ms_of Year = 31536000000
ms_of Week = 604800000
ms_of Day = 86400000
ms_of Hour = 3600000
ms_of Minute = 60000
ms_of Second = 1000
ms_of Millisecond = 1

-- how many units are greater
abbrev pub rank : TimeUnit → ℕ
rank Year = 0
rank Week = 1
rank Day = 2
rank Hour = 3
rank Minute = 4
rank Second = 5
rank Millisecond = 6

-- What stands for a part of a span text.
pub data SpanValue : Type 0 where
  -- the number that digits write
  count : ℕ → SpanValue
  -- a unit, and the milliseconds of the parts after it
  scaled : ℕ → ℕ → SpanValue
  -- milliseconds
  span : ℕ → SpanValue
  -- a letter that has no value alone
  mark : SpanValue

-- The rules.
pub data Rule : Type 0 where
  -- a span text
  Text : Rule
  -- what may follow a zero at its front
  AfterZero : Rule
  -- the parts after one with this unit, of which there may be none
  After : TimeUnit → Rule
  -- a unit, this one or a smaller one, and the parts after it
  From : TimeUnit → Rule
  -- what may follow an m: an s, or the parts after minutes
  AfterM : Rule
  -- a unit where none is left, which nothing is
  NoUnit : Rule

abbrev pub digit_at : Letter → Option SpanValue
digit_at (Digit n) = Some (count n)
digit_at _ = None

abbrev pub zero_at : Letter → Option SpanValue
zero_at (Digit zero) = Some mark
zero_at _ = None

abbrev pub other_digit_at : Letter → Option SpanValue
other_digit_at (Digit (suc n)) = Some (count (suc n))
other_digit_at _ = None

abbrev pub none_at : Letter → Option SpanValue
none_at _ = None

abbrev pub m_at : Letter → Option SpanValue
m_at M = Some mark
m_at _ = None

-- the letter of a unit that is written by one letter other than m
abbrev pub unit_at : TimeUnit → Letter → Option SpanValue
unit_at Year Y = Some (scaled (ms_of Year) 0)
unit_at Week W = Some (scaled (ms_of Week) 0)
unit_at Day D = Some (scaled (ms_of Day) 0)
unit_at Hour H = Some (scaled (ms_of Hour) 0)
unit_at Second S = Some (scaled (ms_of Second) 0)
unit_at Millisecond S = Some (scaled (ms_of Millisecond) 0)
unit_at _ _ = None

abbrev pub digit : Form Letter Rule SpanValue
digit = token digit_at

abbrev pub unit : TimeUnit → Form Letter Rule SpanValue
unit u = token (unit_at u)

-- how the values of parts are joined
abbrev pub shifted : SpanValue → SpanValue → SpanValue
shifted (count n) (count d) = count (n * 10 + d)
shifted _ _ = mark

abbrev pub times : SpanValue → SpanValue → SpanValue
times (count n) (scaled s ms) = span (n * s + ms)
times _ _ = mark

abbrev pub followed : SpanValue → SpanValue → SpanValue
followed (scaled s z) (span ms) = scaled s ms
followed _ _ = mark

abbrev pub second_of : SpanValue → SpanValue → SpanValue
second_of v w = w

-- a number, and then its unit with the parts after it
abbrev pub amount : Form Letter Rule SpanValue → Rule → Form Letter Rule SpanValue
amount digits n = pair times digits (rule n)

-- the next smaller unit, that is written apart from the others
abbrev pub smaller : TimeUnit → TimeUnit
smaller Year = Week
smaller Week = Day
smaller Day = Hour
smaller Hour = Minute
smaller Minute = Second
smaller Second = Millisecond
smaller Millisecond = Millisecond

-- the units that may stand after one
abbrev pub below : TimeUnit → Rule
below Millisecond = NoUnit
below u = From (smaller u)

-- The productions:
--   text       = "0" after-zero | digit-above-0 {digit} from(year)
--   after-zero = {digit} from(year) |
--   after(u)   = digit {digit} from(smaller u) |              of milliseconds digit {digit} no-unit |
--   from(u)    = letter-of-u after(u) | from(smaller u)       for y, w, d and h
--   from(m)    = "m" after-m | "s" after(s)
--   after-m    = "s" after(ms) | after(m)
--   from(s)    = "s" after(s) | from(ms)
--   from(ms)   = "m" "s" after(ms)
abbrev pub production : Rule → Form Letter Rule SpanValue
production Text = either (pair second_of (token zero_at) (rule AfterZero)) (amount (fold shifted (token other_digit_at) digit) (From Year))
production AfterZero = either (amount (turns shifted (count 0) digit) (From Year)) (nothing (span 0))
production (After u) = either (amount (fold shifted digit digit) (below u)) (nothing (span 0))
production NoUnit = token none_at
production (From Minute) = either (pair second_of (token m_at) (rule AfterM)) (pair followed (unit Second) (rule (After Second)))
production (From Millisecond) = pair second_of (token m_at) (pair followed (unit Millisecond) (rule (After Millisecond)))
production (From u) = either (pair followed (unit u) (rule (After u))) (rule (From (smaller u)))
production AfterM = either (pair followed (unit Millisecond) (rule (After Millisecond))) (pair followed (nothing (scaled (ms_of Minute) 0)) (rule (After Minute)))

-- The text is a span text, of so many milliseconds.
abbrev pub ReadsSpan : List ℕ → ℕ → Type 0
ReadsSpan text ms = Reads production (rule Text) (seen text) (span ms) []

-- The place of the first bad byte: those before it go on by the grammar, and with it they do not.
-- Going on is less than beginning some span: after milliseconds digits go on, as those of one more
-- part, though no unit is left for it. So `5ms5s` is bad at 4, and no span begins with `5ms5`.
abbrev pub IsBadPlace : List ℕ → ℕ → Type 0
IsBadPlace text place = IsFirstBad production (rule Text) (seen text) place

-- Why a text gives no span: it is not of the form, and so bad at a place; or it is, and writes too
-- many milliseconds.
abbrev pub Refuses : List ℕ → SpanFault → Type 0
Refuses text (BadSpan at) = IsBadPlace text at
Refuses text SpanTooLong = (ms : ℕ) × ReadsSpan text ms × (2 ^ 40 < ms)

-- A text with this value is refused so: only where the value is a span that is too long.
abbrev pub IsTooLong : SpanValue → SpanFault → Type 0
IsTooLong (span ms) SpanTooLong = 2 ^ 40 < ms
IsTooLong _ _ = ⊥
