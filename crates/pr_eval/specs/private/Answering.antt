-- The answers of series that are asked one after another, with the whole labels of each.
use Rattle.std.specs.Prelude.{◌≡◌, ◌++◌, ℕ, List, [], ◌∷◌, map, Option, Some, None, Result, Ok, Err}
use Rattle.pr_num.specs.declared.value.Num.{Num}
use Rattle.pr_labels.specs.declared.pair.Pair.{Pair}
use Rattle.pr_labels.specs.declared.item.Item.{Item}
use Rattle.pr_range.specs.spec_history.declared.spot.Spot.{Spot}
use Rattle.pr_range.specs.spec_vectors.declared.range.Ask.{Ask}
use Rattle.pr_range.specs.spec_vectors.declared.range.AskFault.{AskFault}
use Rattle.pr_range.specs.spec_vectors.declared.range.AskFault.TheVariants as fault
use Rattle.pr_range.specs.spec_vectors.Ranges.{over}
use Rattle.pr_range.specs.spec_vectors.Vectors.{element}
use Rattle.pr_range.specs.declared.fault.RangeFault.{RangeFault}
use Rattle.pr_range.specs.declared.fault.RangeFault.TheVariants.{TooWide, RangeTooLong, Memory}
use Rattle.pr_range.specs.pr_head.private.Stored.{Stored}
use Rattle.pr_ast.specs.declared.place.Place.{Place}
use Rattle.pr_range.specs.spec_vectors.declared.range.RangeFn.{RangeFn}
use Rattle.spec_meaning.specs.declared.fault.Fault.{Fault}
use Rattle.spec_meaning.specs.RangeCalls.{answered_labels, range_fault}
use Rattle.pr_eval.specs.private.Choosing.{labels_of_series}
use Rattle.pr_eval.specs.declared.range_calls.asking.RangeAnswer.{RangeAnswer}

-- An answer before those of later series; the first fault ends.
abbrev pub one_answer : {A : Type 0} → (Num → A) → Result (Option Num) AskFault → Result (List A) AskFault → Result (List A) AskFault
one_answer f (Err e) more = Err e
one_answer f (Ok None) more = more
one_answer f (Ok (Some v)) (Err e) = Err e
one_answer f (Ok (Some v)) (Ok xs) = Ok (f v ∷ xs)

-- the answers of numbered series
abbrev pub answer : ℕ → Num → RangeAnswer
answer n v = record { series = n; value = v }

abbrev pub answers_of : (ℕ → Result (Option Num) AskFault) → List ℕ → Result (List RangeAnswer) AskFault
answers_of asked [] = Ok []
answers_of asked (n ∷ numbers) = one_answer (answer n) (asked n) (answers_of asked numbers)

-- the answers of series by their labels
abbrev pub elements_of : Ask → List (Item (List Spot)) → Result (List (Item Num)) AskFault
elements_of a [] = Ok []
elements_of a (s ∷ series) = one_answer (element s.labels) (over a s.value) (elements_of a series)

abbrev pub answer_element : List (List Pair × Stored) → RangeAnswer → Item Num
answer_element head x = element (labels_of_series head x.series) x.value

-- with the labels of the answers, and a fault at its place
abbrev pub relabelled : RangeFn → List (Item Num) → List (Item Num)
relabelled func items = map (λ e. element (answered_labels func e.labels) e.value) items

abbrev pub fault_placed : Place → Place → Result (List (Item Num)) AskFault → Result (List (Item Num)) Fault
fault_placed p at (Ok items) = Ok items
fault_placed p at (Err f) = Err (range_fault p at f)

-- these before others
abbrev pub after : {A : Type 0} → List A → Result (List A) AskFault → Result (List A) AskFault
after front (Ok xs) = Ok (front ++ xs)
after front (Err e) = Err e

-- The answers or the fault are those that are meant; want of memory tells nothing of them.
abbrev pub FaultIs : {A : Type 0} → Result A AskFault → RangeFault → Type 0
FaultIs meant TooWide = meant ≡ Err fault.TooWide
FaultIs meant (RangeTooLong have) = meant ≡ Err (fault.RangeTooLong have)
FaultIs meant Memory = Unit {0}
