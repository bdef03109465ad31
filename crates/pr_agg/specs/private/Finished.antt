-- What the summaries of a part are finished to.
use Rattle.std.specs.Prelude.{ℕ, pos, Result, Ok}
use Rattle.pr_num.specs.declared.value.Num.{Num}
use Rattle.pr_num.specs.declared.value.TooWide.{TooWide}
use Rattle.pr_num.specs.Arithmetic.{whole_of}
use Rattle.pr_num.specs.Total.{Tally, mean_of, value_of}

abbrev pub total_finished : Tally → Result Num TooWide
total_finished t = value_of t

abbrev pub mean_finished : Tally → Result Num TooWide
mean_finished t = Ok (mean_of t)

abbrev pub value_finished : Num → Result Num TooWide
value_finished v = Ok v

abbrev pub count_finished : ℕ → Result Num TooWide
count_finished n = Ok (whole_of (pos n))

abbrev pub presence_finished : Unit {0} → Result Num TooWide
presence_finished p = Ok (whole_of (pos 1))
