-- Values that rise or fall evenly.
use Rattle.std.specs.Prelude.{ℕ, zero, suc, ◌-◌, ◌^◌, pos, ◌+ℤ◌, ◌*ℤ◌, min, Option, Some, None, Result, Ok, Err}
use Rattle.std.specs.Option.{option_map}
use Rattle.pr_num.specs.declared.value.Num.{Num}
use Rattle.pr_num.specs.declared.value.Num.TheVariants.{Finite}
use Rattle.pr_num.specs.declared.value.TooWide.{TooWide}
use Rattle.pr_num.specs.Arithmetic.{fitted, negated, sum_of}
use Rattle.pr_testfile.specs.declared.inputs.stretch.Stretch.{Stretch}
use Rattle.pr_testfile.specs.declared.inputs.stretch.Stretch.TheVariants.{Steps}

-- What comes so many steps after a value. Finite values are added exactly; with others a step gives
-- the sum of both, and a further step the same.
abbrev pub stepped : Num → Num → ℕ → Result Num TooWide
stepped first by zero = Ok first
stepped first by (suc n) = sum_of first by

abbrev pub value_at : Num → Num → ℕ → Result Num TooWide
value_at (Finite a) (Finite b) n = fitted (a +ℤ b *ℤ pos n)
value_at first by n = stepped first by n

-- what is kept of a count: more than any series has is enough
abbrev pub kept : ℕ → ℕ
kept n = min n (2 ^ 32 - 1)

-- Values rise or fall evenly, so the last one is the widest.
abbrev pub if_fit : Num → Num → ℕ → Result Num TooWide → Option Stretch
if_fit first by n (Ok last) = Some (Steps first by (kept n))
if_fit first by n (Err wide) = None

abbrev pub zero_value : Num
zero_value = Finite (pos 0)

-- n + 1 values that begin with the first and rise by the second, or fall by it
abbrev pub rising : Option Num → Option Num → ℕ → Option Stretch
rising (Some first) (Some by) n = if_fit first by n (value_at first by n)
rising (Some first) None n = None
rising None by n = None

abbrev pub falling : Option Num → Option Num → ℕ → Option Stretch
falling first by n = rising first (option_map negated by) n
