-- What one byte ahead tells of the rules of spans, and how many steps they make: no part of what a
-- text means.
use Rattle.std.specs.Prelude.{◌||◌, Bool, true, false, ℕ}
use Rattle.pr_forms.specs.Table.{Table}
use Rattle.pr_time.specs.declared.text.Letter.{Letter}
use Rattle.pr_time.specs.declared.text.Letter.TheVariants.{Digit, Y, W, D, H, M, S}
use Rattle.pr_time.specs.declared.text.Unit.{Unit as TimeUnit}
use Rattle.pr_time.specs.declared.text.Unit.TheVariants.{Year, Week, Day, Hour, Minute, Second, Millisecond}
use Rattle.pr_time.specs.SpanText.{Rule, Text, AfterZero, After, From, AfterM, NoUnit}

-- What one token ahead tells of the rules.
abbrev pub is_digit : Letter → Bool
is_digit (Digit n) = true
is_digit _ = false

abbrev pub starts_from : TimeUnit → Letter → Bool
starts_from u M = true
starts_from Millisecond t = false
starts_from u S = true
starts_from Second t = false
starts_from Minute t = false
starts_from u H = true
starts_from Hour t = false
starts_from u D = true
starts_from Day t = false
starts_from u W = true
starts_from Week t = false
starts_from u Y = true
starts_from u t = false

abbrev pub starts_rule : Rule → Letter → Bool
starts_rule Text t = is_digit t
starts_rule AfterZero t = is_digit t || starts_from Year t
starts_rule (After u) t = is_digit t
starts_rule (From u) t = starts_from u t
starts_rule NoUnit t = false
starts_rule AfterM S = true
starts_rule AfterM t = is_digit t

abbrev pub empty_rule : Rule → Bool
empty_rule AfterZero = true
empty_rule (After u) = true
empty_rule AfterM = true
empty_rule _ = false

-- after a whole one of most rules the next part or the s of ms may come
abbrev pub is_part : Letter → Bool
is_part S = true
is_part t = is_digit t

abbrev pub more_rule : Rule → Letter → Bool
more_rule Text t = is_digit t || starts_from Year t
more_rule AfterZero t = is_digit t || starts_from Year t
more_rule NoUnit t = false
more_rule (After Millisecond) t = is_digit t
more_rule (After Second) t = is_digit t
more_rule (After Minute) t = is_digit t
more_rule (After u) t = is_part t
more_rule (From Millisecond) t = is_digit t
more_rule (From Second) t = is_digit t
more_rule (From u) t = is_part t
more_rule AfterM t = is_part t

abbrev pub table : Table Letter Rule
table = record { empty = empty_rule; starts = starts_rule; more = more_rule }

-- how many steps a rule makes at most before it comes to a byte, and a bound on that
abbrev pub from_rank : TimeUnit → ℕ
from_rank Year = 11
from_rank Week = 9
from_rank Day = 7
from_rank Hour = 5
from_rank Minute = 3
from_rank Second = 4
from_rank Millisecond = 2

abbrev pub step_rank : Rule → ℕ
step_rank Text = 4
step_rank AfterZero = 14
step_rank (After u) = 4
step_rank (From u) = from_rank u
step_rank AfterM = 7
step_rank NoUnit = 1

abbrev pub steps : ℕ
steps = 16
