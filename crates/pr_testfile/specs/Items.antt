-- The items of the values of a series, and the stretch of values that each writes.
use Rattle.std.specs.Prelude.{ℕ, ◌-◌, ◌==◌, ◌||◌, ◌&&◌, not, Bool, List, [], ◌∷◌, codes, length, take, drop, Option, Some, None, if◌then◌else◌}
use Prim.Native.Char.{code}
use Rattle.std.specs.List.{position_or_len}
use Rattle.std.specs.Str.{bytes_eq}
use Rattle.pr_num.specs.declared.value.Num.{Num}
use Rattle.pr_testfile.specs.declared.inputs.stretch.Stretch.{Stretch}
use Rattle.pr_testfile.specs.declared.inputs.stretch.Stretch.TheVariants.{Steps, Missing, Marker}
use Rattle.pr_testfile.specs.Numbers.{is_sign, number_of, unsigned_number, count_of}
use Rattle.pr_testfile.specs.Steps.{zero_value, kept, rising, falling}

-- the sign of a step: one that neither stands first nor follows the letter of an exponent
abbrev pub is_exponent : ℕ → Bool
is_exponent b = b == code "e" || b == code "E"

abbrev pub is_step : ℕ → ℕ → Bool
is_step before b = is_sign b && not (is_exponent before)

-- what begins with the first such sign, behind a byte; nothing where there is none
unfoldable pub step_behind : ℕ → List ℕ → List ℕ
step_behind before [] = []
step_behind before (b ∷ bs) = if is_step before b then b ∷ bs else step_behind b bs

abbrev pub step_in : List ℕ → List ℕ
step_in [] = []
step_in (b ∷ bs) = step_behind b bs

abbrev pub before_step : List ℕ → List ℕ
before_step text = take (length text - length (step_in text)) text

-- `a`, `a+b` or `a-b`, so many more times
abbrev pub by_step : Option Num → Option Num → ℕ → List ℕ → Option Stretch
by_step whole first n [] = rising whole (Some zero_value) n
by_step whole first n (sign ∷ by) =
    if sign == code "+" then rising first (unsigned_number by) n else falling first (unsigned_number by) n

unfoldable pub steps_of : List ℕ → ℕ → Option Stretch
steps_of text n = by_step (number_of text) (number_of (before_step text)) n (step_in text)

abbrev pub gap : List ℕ
gap = codes "_"

-- an item before its `x`, and how often
abbrev pub repeated : List ℕ → Option ℕ → Option Stretch
repeated text None = None
repeated text (Some n) = if bytes_eq text gap then Some (Missing (kept n)) else steps_of text n

-- an item without an `x`
abbrev pub once : Option Num → Option Stretch
once (Some v) = Some (Steps v zero_value 0)
once None = None

abbrev pub single : List ℕ → Option Stretch
single text = if bytes_eq text gap then Some (Missing 1) else (if bytes_eq text (codes "stale") then Some Marker else once (number_of text))

-- No number has an `x`, so the first one stands before the count.
abbrev pub is_times : ℕ → Bool
is_times b = b == code "x"

abbrev pub by_times : List ℕ → List ℕ → List ℕ → Option Stretch
by_times text before [] = single text
by_times text before (x ∷ count) = repeated before (count_of count)

-- The stretch of values that an item writes; none where it is no item, or has a value that is too
-- wide.
unfoldable pub stretch_of : List ℕ → Option Stretch
stretch_of text = by_times text (take (position_or_len is_times text) text) (drop (position_or_len is_times text) text)
