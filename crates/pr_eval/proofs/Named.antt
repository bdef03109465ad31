-- The answers of series, and what is made of them at a node.
use Rattle.std.proofs.Common.{◌≡◌, ℕ, ◌≤◌, ◌<◌, pos, arith, false, cond, nat_lt, length, List, [], ◌∷◌, ◌++◌, append-nil, append_assoc, map, Option, Some, None, Result, Ok, Err, IfOk, MatchResult, refl, sym, ap, ◌∙◌, subst}
use Rattle.std.proofs.lemmas.List.{length-map}
use Rattle.std.specs.Option.{option_to_list}
use Rattle.pr_num.specs.declared.value.Num.{Num}
use Rattle.pr_num.specs.Arithmetic.{whole_of}
use Rattle.pr_labels.specs.declared.pair.Pair.{Pair}
use Rattle.pr_labels.specs.Rising.{IsRising}
use Rattle.pr_labels.specs.declared.item.Item.{Item}
use Rattle.pr_range.specs.spec_history.declared.entry.Entry.{Entry}
use Rattle.pr_range.specs.spec_history.declared.spot.Spot.{Spot}
use Rattle.pr_range.specs.pr_head.private.Stored.{Stored}
use Rattle.pr_range.specs.pr_head.private.Holds.{arrivals, labels_at, sets_of}
use Rattle.pr_ast.specs.declared.place.Place.{Place}
use Rattle.pr_range.specs.spec_vectors.declared.range.Ask.{Ask}
use Rattle.pr_range.specs.spec_vectors.declared.range.AskFault.{AskFault}
use Rattle.pr_range.specs.spec_vectors.declared.range.AskFault.TheVariants as fault
use Rattle.pr_range.specs.spec_vectors.declared.range.RangeFn.{RangeFn}
use Rattle.pr_range.specs.spec_vectors.declared.range.RangeFn.TheVariants.{Rate, Increase, Delta, Irate, Idelta, Deriv, PredictLinear, Changes, Resets, SumOverTime, AvgOverTime, MinOverTime, MaxOverTime, CountOverTime, LastOverTime, PresentOverTime, QuantileOverTime}
use Rattle.pr_range.specs.spec_vectors.Functions.{told_apart}
use Rattle.pr_range.specs.spec_vectors.private.Laws.{answer_to, IsVector}
use Rattle.pr_range.specs.spec_vectors.Ranges.{function_of, longest, over, with_fault}
use Rattle.pr_range.specs.spec_vectors.Vectors.{element, label_sets}
use Rattle.pr_fn.specs.private.Rows.{without_metric}
use Rattle.spec_meaning.specs.declared.fault.Fault.{Fault}
use Rattle.spec_meaning.specs.Answers.{function_at, go_on}
use Rattle.spec_meaning.specs.declared.value.Value.TheVariants.{Vector}
use Rattle.spec_meaning.specs.Absence.{absent_of}
use Rattle.spec_meaning.specs.Calls.{vector_at}
use Rattle.spec_meaning.specs.Selection.{chosen_by}
use Rattle.spec_meaning.specs.Given.{Ranged, range_at, series_within}
use Rattle.spec_meaning.specs.RangeCalls.{answered_labels, answers_over, answer_before, over_ranges, question}
use Rattle.pr_range.specs.private.Answers.{AnswersAsk}
use Rattle.pr_range.specs.declared.fault.RangeFault.{RangeFault}
use Rattle.pr_range.specs.declared.fault.RangeFault.TheVariants.{TooWide, RangeTooLong, Memory}
use Rattle.pr_eval.specs.declared.range_calls.asking.RangeAnswer.{RangeAnswer}
use Rattle.pr_eval.specs.private.Answering.{FaultIs, after, answer, answers_of, elements_of, answer_element, relabelled, one_answer, fault_placed}
use Rattle.pr_eval.specs.private.Choosing.{labels_of_series}
use Rattle.pr_eval.specs.private.RangeCallsAsking.{asked_by, presence}
use Rattle.pr_eval.specs.declared.range_calls.call.RangeCall.{RangeCall}
use Rattle.pr_eval.specs.declared.range_calls.call.RangeAt.{RangeAt}
use Rattle.pr_eval.proofs.ToldApart.{told_vector}

-- Whether it is asked inside a subquery changes no answer.
function_outside : (func : RangeFn) (a : Ask) (first : Spot) (rest : List Spot) → function_of func (record a { inside = false }) first rest ≡ function_of func a first rest
unfolding function_of
function_outside Rate a first rest = refl
function_outside Increase a first rest = refl
function_outside Delta a first rest = refl
function_outside Irate a first rest = refl
function_outside Idelta a first rest = refl
function_outside Deriv a first rest = refl
function_outside PredictLinear a first rest = refl
function_outside Changes a first rest = refl
function_outside Resets a first rest = refl
function_outside SumOverTime a first rest = refl
function_outside AvgOverTime a first rest = refl
function_outside MinOverTime a first rest = refl
function_outside MaxOverTime a first rest = refl
function_outside CountOverTime a first rest = refl
function_outside LastOverTime a first rest = refl
function_outside PresentOverTime a first rest = refl
function_outside QuantileOverTime a first rest = refl

over_outside : (a : Ask) (spots : List Spot) → over (record a { inside = false }) spots ≡ over a spots
unfolding over
over_outside a [] = refl
over_outside a (first ∷ rest) =
    ap (λ r. cond (nat_lt longest (length (first ∷ rest))) (Err (fault.RangeTooLong (length (first ∷ rest)))) (with_fault r)) (function_outside a.func a first rest)

pub elements_outside : (a : Ask) (series : List (Item (List Spot))) → elements_of (record a { inside = false }) series ≡ elements_of a series
elements_outside a [] = refl
elements_outside a (s ∷ series) = λ i. one_answer (element s.labels) (over_outside a s.value i) (elements_outside a series i)

-- with the labels that a function leaves
one_named : (p at : Place) (func : RangeFn) (labels : List Pair) (r : Result (Option Num) AskFault) (m : Result (List (Item Num)) AskFault) (n : Result (List (Item Num)) Fault)
    → n ≡ go_on (λ items. Ok (relabelled func items)) (fault_placed p at m)
    → answer_before p at (answered_labels func labels) r n ≡ go_on (λ items. Ok (relabelled func items)) (fault_placed p at (one_answer (element labels) r m))
one_named p at func labels (Err f) m n h = refl
one_named p at func labels (Ok None) m n h = h
one_named p at func labels (Ok (Some v)) (Ok items) n h = ap (answer_before p at (answered_labels func labels) (Ok (Some v))) h
one_named p at func labels (Ok (Some v)) (Err f) n h = ap (answer_before p at (answered_labels func labels) (Ok (Some v))) h

pub answers_named : (p at : Place) (a : Ask) (series : List (Item (List Spot))) → answers_over p at a series ≡ go_on (λ items. Ok (relabelled a.func items)) (fault_placed p at (elements_of a series))
answers_named p at a [] = refl
answers_named p at a (s ∷ series) = one_named p at a.func s.labels (over a s.value) (elements_of a series) (answers_over p at a series) (answers_named p at a series)

both_on : {B : Type 0} (f : List (Item Num) → List (Item Num)) (next : List (Item Num) → Result B Fault) (m : Result (List (Item Num)) Fault) → go_on next (go_on (λ items. Ok (f items)) m) ≡ go_on (λ items. next (f items)) m
both_on f next (Ok items) = refl
both_on f next (Err e) = refl

-- A function of a range, from the answers of its series.
pub over_is : (p : Place) (func : RangeFn) (arg : Option Num) (r : Ranged) → over_ranges p func arg r
    ≡ go_on (λ items. function_at p (told_apart (relabelled func items))) (fault_placed p r.place (elements_of (question func arg r) r.series))
over_is p func arg r =
    ap (go_on (λ items. function_at p (told_apart items))) (answers_named p r.place (question func arg r) r.series)
    ∙ both_on (relabelled func) (λ items. function_at p (told_apart items)) (fault_placed p r.place (elements_of (question func arg r) r.series))

pub after_answers_is : {B : Type 0} (next : List (Item Num) → Result B Fault) (p : Place) (a : Ask) (at : Place) (series : List (Item (List Spot)))
    → go_on next (answers_over p at a series) ≡ go_on (λ items. next (relabelled a.func items)) (fault_placed p at (elements_of a series))
after_answers_is next p a at series = ap (go_on next) (answers_named p at a series) ∙ both_on (relabelled a.func) next (fault_placed p at (elements_of a series))

-- series of a head
abbrev pub in_head : List (List Pair × Stored) → Result (List RangeAnswer) AskFault → Result (List (Item Num)) AskFault
in_head head (Ok xs) = Ok (map (answer_element head) xs)
in_head head (Err e) = Err e

one_in_head : (head : List (List Pair × Stored)) (n : ℕ) (labels : List Pair) (r : Result (Option Num) AskFault) (m : Result (List RangeAnswer) AskFault) → labels ≡ labels_at (sets_of head) n
    → one_answer (element labels) r (in_head head m) ≡ in_head head (one_answer (answer n) r m)
one_in_head head n labels (Err e) m h = refl
one_in_head head n labels (Ok None) m h = refl
one_in_head head n labels (Ok (Some v)) (Ok xs) h = ap (λ l. Ok (element l v ∷ map (answer_element head) xs)) h
one_in_head head n labels (Ok (Some v)) (Err e) h = refl

pub elements_are : (head : List (List Pair × Stored)) (history : List Entry) (a : Ask) (numbers : List ℕ) → sets_of head ≡ arrivals history
    → elements_of a (map (series_within history a.from a.to) (map (labels_at (arrivals history)) numbers)) ≡ in_head head (answers_of (λ n. answer_to history (labels_at (arrivals history) n) a) numbers)
elements_are head history a [] same = refl
elements_are head history a (n ∷ numbers) same =
    ap (one_answer (element (labels_at (arrivals history) n)) (answer_to history (labels_at (arrivals history) n) a)) (elements_are head history a numbers same)
    ∙ one_in_head head n (labels_at (arrivals history) n) (answer_to history (labels_at (arrivals history) n) a) (answers_of (λ m. answer_to history (labels_at (arrivals history) m) a) numbers)
    (ap (λ sets. labels_at sets n) (sym same))

pub fault_in_head : (head : List (List Pair × Stored)) (m : Result (List RangeAnswer) AskFault) (e : RangeFault) → FaultIs m e → FaultIs (in_head head m) e
fault_in_head head m TooWide h = ap (in_head head) h
fault_in_head head m (RangeTooLong have) h = ap (in_head head) h
fault_in_head head m Memory h = tt

-- The answers of numbered series are those of the series of a range.
pub answers_in_head : {V : Type 0} (head : List (List Pair × Stored)) (history : List Entry) (a : Ask) (numbers : List ℕ) (sets : List (List Pair)) (items : V → List RangeAnswer) (r : Result V RangeFault) → sets_of head ≡ arrivals history
    → map (labels_at (arrivals history)) numbers ≡ sets
    → MatchResult r (λ v. answers_of (λ n. answer_to history (labels_at (arrivals history) n) a) numbers ≡ Ok (items v)) (FaultIs (answers_of (λ n. answer_to history (labels_at (arrivals history) n) a) numbers))
    → MatchResult r (λ v. elements_of a (map (series_within history a.from a.to) sets) ≡ Ok (map (answer_element head) (items v))) (FaultIs (elements_of a (map (series_within history a.from a.to) sets)))
answers_in_head head history a numbers sets items (Ok v) same found h =
    ap (λ l. elements_of a (map (series_within history a.from a.to) l)) (sym found) ∙ elements_are head history a numbers same ∙ ap (in_head head) h
answers_in_head head history a numbers sets items (Err e) same found h =
    subst (λ m. FaultIs m e) (sym (ap (λ l. elements_of a (map (series_within history a.from a.to) l)) (sym found) ∙ elements_are head history a numbers same))
    (fault_in_head head (answers_of (λ n. answer_to history (labels_at (arrivals history) n) a) numbers) e h)

-- what a range selector is asked for
pub selector_is : (call : RangeCall) (range : RangeAt) (history : List Entry) → over_ranges call.place call.func call.arg (range_at history range.place range.selector.now range.span range.time)
    ≡ go_on (λ items. function_at call.place (told_apart (relabelled call.func items)))
    (fault_placed call.place range.place (elements_of (asked_by call range) (map (series_within history (asked_by call range).from (asked_by call range).to) (chosen_by range.selector.now history))))
selector_is call range history =
    let r = range_at history range.place range.selector.now range.span range.time in
    over_is call.place call.func call.arg r
    ∙ ap (λ m. go_on (λ items. function_at call.place (told_apart (relabelled call.func items))) (fault_placed call.place range.place m)) (elements_outside (asked_by call range) r.series)

pub absent_is : (labels : List Pair) (p : Place) (range : RangeAt) (history : List Entry) → let r = range_at history range.place range.selector.now range.span range.time in
    go_on (λ items. vector_at (absent_of labels items)) (answers_over p r.place (question PresentOverTime None r) r.series)
    ≡ go_on (λ items. vector_at (absent_of labels (relabelled PresentOverTime items)))
    (fault_placed p range.place (elements_of (asked_by (presence p) range) (map (series_within history (asked_by (presence p) range).from (asked_by (presence p) range).to) (chosen_by range.selector.now history))))
absent_is labels p range history =
    let r = range_at history range.place range.selector.now range.span range.time in
    after_answers_is (λ items. vector_at (absent_of labels items)) p (question PresentOverTime None r) r.place r.series
    ∙ ap (λ m. go_on (λ items. vector_at (absent_of labels (relabelled PresentOverTime items))) (fault_placed p range.place m)) (elements_outside (asked_by (presence p) range) r.series)

-- which labels are left
last_named : (items : List (Item Num)) → relabelled LastOverTime items ≡ items
last_named [] = refl
last_named (e ∷ items) = ap (λ l. e ∷ l) (last_named items)

pub last_is : (p : Place) (items : List (Item Num)) → IsVector items → function_at p (told_apart (relabelled LastOverTime items)) ≡ Ok (Vector items)
last_is p items h = ap (λ l. function_at p (told_apart l)) (last_named items) ∙ ap (function_at p) (told_vector items h)

pub others_named : (func : RangeFn) (items : List (Item Num)) → (func ≡ LastOverTime → ⊥) → map without_metric items ≡ relabelled func items
others_named LastOverTime items h = absurd (h refl)
others_named Rate items h = refl
others_named Increase items h = refl
others_named Delta items h = refl
others_named Irate items h = refl
others_named Idelta items h = refl
others_named Deriv items h = refl
others_named PredictLinear items h = refl
others_named Changes items h = refl
others_named Resets items h = refl
others_named SumOverTime items h = refl
others_named AvgOverTime items h = refl
others_named MinOverTime items h = refl
others_named MaxOverTime items h = refl
others_named CountOverTime items h = refl
others_named PresentOverTime items h = refl
others_named QuantileOverTime items h = refl

-- nothing answered, or something did
pub absent_none : (labels : List Pair) (items : List (Item Num)) (n : ℕ) → length items ≡ n → n ≤ 0 → absent_of labels items ≡ element labels (whole_of (pos 1)) ∷ []
absent_none labels [] n h k = refl
absent_none labels (e ∷ items) n h k = absurd (omega arith)

pub absent_some : (labels : List Pair) (items : List (Item Num)) (n : ℕ) → length items ≡ n → 0 < n → absent_of labels items ≡ []
absent_some labels [] n h k = absurd (omega arith)
absent_some labels (e ∷ items) n h k = refl

-- one more series of a subquery
after_one : {A : Type 0} (f : Num → A) (done : List A) (given : Option Num) (m : Result (List A) AskFault) → after (done ++ map f (option_to_list given)) m ≡ after done (one_answer f (Ok given) m)
after_one f done None m = ap (λ l. after l m) (append-nil done)
after_one f done (Some v) (Ok xs) = ap Ok (append_assoc done (f v ∷ []) xs)
after_one f done (Some v) (Err e) = refl

pub element_step : (a : Ask) (s : Item (List Spot)) (series : List (Item (List Spot))) (done : List (Item Num)) (given : Option Num) (total : Result (List (Item Num)) AskFault) → over a s.value ≡ Ok given
    → after done (elements_of a (s ∷ series)) ≡ total → after (done ++ map (element s.labels) (option_to_list given)) (elements_of a series) ≡ total
element_step a s series done given total is so_far =
    after_one (element s.labels) done given (elements_of a series) ∙ ap (λ r. after done (one_answer (element s.labels) r (elements_of a series))) (sym is) ∙ so_far

pub element_fault : (a : Ask) (s : Item (List Spot)) (series : List (Item (List Spot))) (done : List (Item Num)) (total : Result (List (Item Num)) AskFault) (e : RangeFault) → AnswersAsk (over a s.value) (Err e)
    → after done (elements_of a (s ∷ series)) ≡ total → FaultIs total e
element_fault a s series done total TooWide is so_far = sym so_far ∙ ap (λ r. after done (one_answer (element s.labels) r (elements_of a series))) is
element_fault a s series done total (RangeTooLong have) is so_far = sym so_far ∙ ap (λ r. after done (one_answer (element s.labels) r (elements_of a series))) is
element_fault a s series done total Memory is so_far = tt

items_labels : (head : List (List Pair × Stored)) (xs : List RangeAnswer) → map (λ (x : RangeAnswer). labels_of_series head x.series) xs ≡ label_sets (map (answer_element head) xs)
items_labels head [] = refl
items_labels head (x ∷ xs) = ap (λ l. labels_of_series head x.series ∷ l) (items_labels head xs)

pub answers_vector : {V : Type 0} (head : List (List Pair × Stored)) (items : V → List RangeAnswer) (r : Result V RangeFault) → IfOk r (λ v. IsRising (map (λ (x : RangeAnswer). labels_of_series head x.series) (items v)))
    → IfOk r (λ v. IsVector (map (answer_element head) (items v)))
answers_vector head items (Ok v) h = subst IsRising (items_labels head (items v)) h
answers_vector head items (Err e) h = tt

pub length_named : (func : RangeFn) (items : List (Item Num)) → length (relabelled func items) ≡ length items
length_named func items = length-map items (λ (e : Item Num). element (answered_labels func e.labels) e.value)

pub after_none : {A : Type 0} (m : Result (List A) AskFault) → after [] m ≡ m
after_none (Ok xs) = refl
after_none (Err e) = refl
