-- Small ranges to try the definitions on.
use Rattle.std.specs.Prelude.{ℕ, ◌+◌, ◌*◌, ◌^◌, pos, neg_ℤ, false, List, [], ◌∷◌, Option, Some, None, Result, Ok}
use Rattle.pr_num.specs.declared.value.Num.{Num}
use Rattle.pr_num.specs.declared.value.Num.TheVariants.{Finite}
use Rattle.spec_history.specs.declared.entry.Entry.{Entry}
use Rattle.spec_history.specs.declared.spot.Spot.{Spot}
use Rattle.spec_history.specs.private.Examples.{m, entry_at, whole}
use Rattle.spec_history.specs.Lookback.{spot_of}
use Rattle.spec_vectors.specs.declared.range.Ask.{Ask}
use Rattle.spec_vectors.specs.declared.range.AskFault.{AskFault}
use Rattle.spec_vectors.specs.declared.range.RangeFn.{RangeFn}
use Rattle.spec_vectors.specs.private.Laws.{answer_to}
use Rattle.spec_vectors.specs.Ranges.{over}

-- a function of the range from one moment to another, without an argument or with one
abbrev pub ask_of : RangeFn → ℕ → ℕ → Ask
ask_of func from to = record { from = pos from; to = pos to; func = func; arg = None; inside = false }

abbrev pub ask_with : RangeFn → Num → ℕ → ℕ → Ask
ask_with func arg from to = record { from = pos from; to = pos to; func = func; arg = Some arg; inside = false }

-- a value
abbrev pub gives : Num → Result (Option Num) AskFault
gives value = Ok (Some value)

-- the five minutes up to minute 5, of the metric m
abbrev pub of_m : RangeFn → List Entry → Result (Option Num) AskFault
of_m func history = answer_to history m (ask_of func 0 300000)

-- m is 1 at each of six minutes; 0, 2, 4, 6, 8 and 10; and 1, 7 and 13 from the second minute on
abbrev pub ones : List Entry
ones = entry_at 0 (whole 1) ∷ entry_at 60000 (whole 1) ∷ entry_at 120000 (whole 1) ∷ entry_at 180000 (whole 1) ∷ entry_at 240000 (whole 1) ∷ entry_at 300000 (whole 1) ∷ []

abbrev pub twos : List Entry
twos = entry_at 0 (whole 0) ∷ entry_at 60000 (whole 2) ∷ entry_at 120000 (whole 4) ∷ entry_at 180000 (whole 6) ∷ entry_at 240000 (whole 8) ∷ entry_at 300000 (whole 10) ∷ []

abbrev pub late : List Entry
late = entry_at 120000 (whole 1) ∷ entry_at 180000 (whole 7) ∷ entry_at 240000 (whole 13) ∷ []

-- it is 5, 8, 2 and 4, a minute after one another
abbrev pub falling : List Entry
falling = entry_at 60000 (whole 5) ∷ entry_at 120000 (whole 8) ∷ entry_at 180000 (whole 2) ∷ entry_at 240000 (whole 4) ∷ []

-- values a second after one another, from the first second on
abbrev pub seconds_from : ℕ → List Num → List Spot
seconds_from time [] = []
seconds_from time (v ∷ vs) = spot_of time v ∷ seconds_from (time + 1000) vs

abbrev pub seconds : List Num → List Spot
seconds values = seconds_from 1000 values

-- a function of values at the first seconds, in the ten seconds from 0 on
abbrev pub of_values : RangeFn → List Num → Result (Option Num) AskFault
of_values func values = over (ask_of func 0 10000) (seconds values)

abbrev pub of_values_with : RangeFn → Num → List Num → Result (Option Num) AskFault
of_values_with func arg values = over (ask_with func arg 0 10000) (seconds values)

-- a value below zero, and the widest one
abbrev pub minus : ℕ → Num
minus n = Finite (neg_ℤ (pos (n * 10 ^ 9)))

abbrev pub widest : Num
widest = Finite (pos 99999999999999999999999999999)
