-- What a call answers of what is meant.
use Rattle.std.specs.Prelude.{◌≡◌, Option, Result, Ok, Err}
use Rattle.spec_vectors.specs.pr_num.declared.value.Num.{Num}
use Rattle.spec_vectors.specs.declared.range.AskFault.{AskFault}
use Rattle.spec_vectors.specs.declared.range.AskFault.TheVariants as fault
use Rattle.pr_range.specs.declared.fault.RangeFault.{RangeFault}
use Rattle.pr_range.specs.declared.fault.RangeFault.TheVariants.{TooWide, RangeTooLong, Memory}

-- The value or the fault is the one that is meant; want of memory tells nothing of it.
abbrev pub AnswersAsk : Result (Option Num) AskFault → Result (Option Num) RangeFault → Type 0
AnswersAsk meant (Ok value) = meant ≡ Ok value
AnswersAsk meant (Err TooWide) = meant ≡ Err fault.TooWide
AnswersAsk meant (Err (RangeTooLong have)) = meant ≡ Err (fault.RangeTooLong have)
AnswersAsk meant (Err Memory) = Unit {0}
