-- The lines that tell of a check whose expectation differs.
use Rattle.std.specs.Prelude.{ℕ, ◌-◌, List, [], ◌∷◌, ◌++◌, codes, decimal, flat_map, Option, Some, None, option_and_then}
use Rattle.std.specs.List.{slice_get}
use Rattle.std.specs.Option.{option_map}
use Rattle.pr_num.specs.declared.value.Num.{Num}
use Rattle.pr_num.specs.Shown.{shown}
use Rattle.pr_checks.specs.pr_time.SpanShown.{shown_span}
use Rattle.pr_checks.specs.pr_labels.declared.item.Item.{Item}
use Rattle.pr_checks.specs.pr_labels.SeriesText.{series_text, list_text}
use Rattle.pr_checks.specs.spec_alerts.declared.found.RuleElement.{RuleElement}
use Rattle.pr_text.specs.Printed.{query_fault_text}
use Rattle.pr_testfile.specs.Tests.{PlainTest}
use Rattle.pr_testfile.specs.File.{PlainFile}
use Rattle.pr_unit.specs.spec_tests.declared.failure.Shown.{Shown}
use Rattle.pr_unit.specs.spec_tests.declared.failure.Shown.TheVariants.{Alerts, Samples, Fault}
use Rattle.pr_unit.specs.spec_tests.declared.failure.Failure.{Failure}

unfoldable pub expected_word : List ℕ
expected_word = codes "expected "

unfoldable pub got_word : List ℕ
got_word = codes "got "

abbrev pub line : List ℕ → List ℕ → List ℕ
line word text = word ++ (text ++ codes "\n")

-- an alert by its labels and its annotations, of which empty ones stay
abbrev pub alert_line : List ℕ → RuleElement → List ℕ
alert_line word f = line word (series_text f.labels ++ (codes " " ++ list_text f.notes))

abbrev pub sample_line : List ℕ → Item Num → List ℕ
sample_line word s = line word (series_text s.labels ++ (codes " " ++ shown s.value))

-- a line for each, or one where there is none
abbrev pub lines_or_nothing : {T : Type 0} → List ℕ → (T → List ℕ) → List T → List ℕ
lines_or_nothing word shows [] = line word (codes "nothing")
lines_or_nothing word shows (x ∷ list) = flat_map shows (x ∷ list)

-- a line for each alert or sample, or for a fault
abbrev pub shown_lines : List ℕ → Shown → List ℕ
shown_lines word (Alerts list) = lines_or_nothing word (alert_line word) list
shown_lines word (Samples list) = lines_or_nothing word (sample_line word) list
shown_lines word (Fault place kind) = word ++ query_fault_text place.start kind

-- the kind of a check, and its time
abbrev pub kind_of : Shown → List ℕ
kind_of (Alerts list) = codes " alert "
kind_of (Samples list) = codes " promql "
kind_of (Fault place kind) = codes " promql "

abbrev pub time_by : Shown → ℕ → PlainTest → Option ℕ
time_by (Alerts list) i t = option_map (λ c. c.time) (slice_get t.alerts i)
time_by (Samples list) i t = option_map (λ c. c.time) (slice_get t.exprs i)
time_by (Fault place kind) i t = None

abbrev pub time_of : PlainFile → Failure → Option ℕ
time_of file f = option_and_then (time_by f.expected (f.check - 1)) (slice_get file.tests (f.test - 1))

abbrev pub time_text : Option ℕ → List ℕ
time_text None = []
time_text (Some time) = shown_span time

abbrev pub check_line : PlainFile → Failure → List ℕ
check_line file f =
    codes "test " ++ (decimal f.test ++ (kind_of f.expected ++ (decimal f.check ++ (codes " at " ++ (time_text (time_of file f) ++ codes "\n")))))

-- what is told of a check of this file: which it is and when, what is expected, and what comes
unfoldable pub failure_text : PlainFile → Failure → List ℕ
failure_text file f = check_line file f ++ (shown_lines expected_word f.expected ++ shown_lines got_word f.got)
