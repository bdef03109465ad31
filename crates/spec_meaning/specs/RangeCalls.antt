-- Functions of ranges.
use Rattle.std.specs.Prelude.{Bool, true, false, cond, List, [], ◌∷◌, Option, Some, None, Result, Ok, Err}
use Rattle.pr_num.specs.declared.value.Num.{Num}
use Rattle.pr_ast.specs.pr_labels.declared.pair.Pair.{Pair}
use Rattle.pr_ast.specs.pr_labels.declared.item.Item.{Item}
use Rattle.pr_ast.specs.pr_labels.SeriesText.{unnamed}
use Rattle.spec_vectors.specs.spec_history.declared.spot.Spot.{Spot}
use Rattle.pr_ast.specs.declared.place.Place.{Place}
use Rattle.spec_vectors.specs.declared.range.Ask.{Ask}
use Rattle.spec_vectors.specs.declared.range.AskFault.{AskFault}
use Rattle.spec_vectors.specs.declared.range.AskFault.TheVariants as ask
use Rattle.spec_vectors.specs.declared.range.RangeFn.{RangeFn}
use Rattle.spec_vectors.specs.declared.range.RangeFn.TheVariants.{Rate, Increase, Delta, Irate, Idelta, Deriv, PredictLinear, Changes, Resets, SumOverTime, AvgOverTime, MinOverTime, MaxOverTime, CountOverTime, LastOverTime, PresentOverTime, QuantileOverTime}
use Rattle.spec_vectors.specs.Functions.{told_apart}
use Rattle.spec_vectors.specs.Ranges.{over}
use Rattle.spec_vectors.specs.Vectors.{element}
use Rattle.spec_meaning.specs.declared.fault.Fault.{Fault}
use Rattle.spec_meaning.specs.declared.fault.FaultKind.TheVariants as kind
use Rattle.spec_meaning.specs.declared.value.Value.{Value}
use Rattle.spec_meaning.specs.declared.value.Value.TheVariants.{Vector}
use Rattle.spec_meaning.specs.Answers.{fault, function_at, go_on}
use Rattle.spec_meaning.specs.Given.{Ranged}

-- what is asked of the values of a range
abbrev pub question : RangeFn → Option Num → Ranged → Ask
question func arg r = record { from = r.from; to = r.to; func = func; arg = arg; inside = false }

-- too many values are told at the place of the range, a value that is too wide at that of the call
abbrev pub range_fault : Place → Place → AskFault → Fault
range_fault p at ask.TooWide = fault p kind.TooWide
range_fault p at (ask.RangeTooLong have) = fault at (kind.RangeTooLong have)

-- the last value of a series keeps the metric's name, and every other answer drops it
abbrev pub keeps_name : RangeFn → Bool
keeps_name LastOverTime = true
keeps_name Rate = false
keeps_name Increase = false
keeps_name Delta = false
keeps_name Irate = false
keeps_name Idelta = false
keeps_name Deriv = false
keeps_name PredictLinear = false
keeps_name Changes = false
keeps_name Resets = false
keeps_name SumOverTime = false
keeps_name AvgOverTime = false
keeps_name MinOverTime = false
keeps_name MaxOverTime = false
keeps_name CountOverTime = false
keeps_name PresentOverTime = false
keeps_name QuantileOverTime = false

abbrev pub answered_labels : RangeFn → List Pair → List Pair
answered_labels func labels = cond (keeps_name func) labels (unnamed labels)

-- The series are taken in order, and the first fault ends; a series without an answer gives
-- nothing.
abbrev pub answer_before : Place → Place → List Pair → Result (Option Num) AskFault → Result (List (Item Num)) Fault → Result (List (Item Num)) Fault
answer_before p at labels (Err f) more = Err (range_fault p at f)
answer_before p at labels (Ok None) more = more
answer_before p at labels (Ok (Some v)) (Err f) = Err f
answer_before p at labels (Ok (Some v)) (Ok items) = Ok (element labels v ∷ items)

abbrev pub answers_over : Place → Place → Ask → List (Item (List Spot)) → Result (List (Item Num)) Fault
answers_over p at a [] = Ok []
answers_over p at a (s ∷ series) = answer_before p at (answered_labels a.func s.labels) (over a s.value) (answers_over p at a series)

-- A function of a range. Equal labels are told after all values.
abbrev pub over_ranges : Place → RangeFn → Option Num → Ranged → Result Value Fault
over_ranges p func arg r = go_on (λ items. function_at p (told_apart items)) (answers_over p r.place (question func arg r) r.series)

-- the same of an argument, which is a range
abbrev pub over_given : Place → RangeFn → Option Num → Option Ranged → Result Value Fault
over_given p func arg None = Ok (Vector [])
over_given p func arg (Some r) = over_ranges p func arg r
