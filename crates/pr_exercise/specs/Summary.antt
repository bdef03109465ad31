-- What `exercise N` writes: counts of the lines that a run of its events would write.
use Rattle.std.specs.Prelude.{ℕ, Bool, ◌&&◌, List, [], ◌∷◌, ◌++◌, codes, decimal, length, count_by}
use Rattle.std.specs.Str.{bytes_eq}
use Rattle.pr_outside.specs.pr_words.Fields.{first_field, after_field}
use Rattle.pr_outside.specs.pr_words.Lines.{lines_of}
use Rattle.pr_text.specs.spec_history.declared.entry.Entry.{Entry}
use Rattle.pr_text.specs.Printed.{shown_report}
use Rattle.pr_text.specs.spec_world.declared.event.Event.{Event}
use Rattle.pr_text.specs.spec_world.declared.report.Report.{Report}
use Rattle.pr_text.specs.spec_world.declared.report.Report.TheVariants.{Opened}
use Rattle.pr_text.specs.spec_rules.Settings.{of_a_run}
use Rattle.pr_text.specs.spec_world.Step.{next, rows_of}
use Rattle.pr_text.specs.spec_world.World.{World, start}
use Rattle.pr_exercise.specs.Exercise.{exercise_events}

-- the lines of a report
abbrev pub report_lines : Report → List (List ℕ)
report_lines report = lines_of (shown_report report)

-- the lines of what is answered to events, one after another
abbrev pub lines_after : World → List Event → List (List ℕ)
lines_after w [] = []
lines_after w (e ∷ events) = report_lines (next of_a_run w e).report ++ lines_after (next of_a_run w e).world events

-- the lines of a run that has answered these events
abbrev pub lines_told : List Entry → List Event → List (List ℕ)
lines_told history events = report_lines (Opened (length history)) ++ lines_after (start history) events

unfoldable pub exercise_lines : List Entry → ℕ → List (List ℕ)
exercise_lines history n = lines_told history (exercise_events n)

abbrev pub begins_with : List ℕ → List ℕ → Bool
begins_with word line = bytes_eq (first_field line) word

-- the line of a rule that has a fault
abbrev pub tells_fault : List ℕ → Bool
tells_fault line = begins_with (codes "rule") line && bytes_eq (first_field (after_field (after_field line))) (codes "fault")

abbrev pub number_line : List ℕ → ℕ → List ℕ
number_line word n = word ++ (codes " " ++ (decimal n ++ codes "\n"))

abbrev pub summary_of : ℕ → List (List ℕ) → List ℕ
summary_of n lines =
    number_line (codes "exercise") n
    ++ (number_line (codes "lines") (length lines)
    ++ (number_line (codes "samples") (count_by (begins_with (codes "sample")) lines)
    ++ (number_line (codes "stales") (count_by (begins_with (codes "stale")) lines)
    ++ (number_line (codes "sends") (count_by (begins_with (codes "send")) lines)
    ++ number_line (codes "faults") (count_by tells_fault lines)))))

-- The text of `exercise N` over the history of the kept rows, and the rows that it keeps.
unfoldable pub summary : List Entry → ℕ → List ℕ
summary history n = summary_of n (exercise_lines history n)

abbrev pub exercise_rows : List Entry → ℕ → List Entry
exercise_rows history n = rows_of of_a_run (start history) (exercise_events n)
