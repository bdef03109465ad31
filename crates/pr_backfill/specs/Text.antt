-- What a backfill writes.
use Rattle.std.specs.Prelude.{ℕ, List, ◌++◌, length, codes, decimal, flat_map}
use Rattle.pr_text.specs.Printed.{shown_report}
use Rattle.pr_text.specs.spec_world.declared.report.Report.TheVariants.{Opened, Evaluated}
use Rattle.pr_backfill.specs.Filled.{FillStep, rows_filled}

-- the time of an evaluation, its file and its group
unfoldable pub at_line : ℕ → List ℕ → List ℕ → List ℕ
at_line time file group = codes "at " ++ (decimal time ++ (codes " " ++ (file ++ (codes " " ++ (group ++ codes "\n")))))

-- That line, and then what a run answers to the order of an evaluation.
abbrev pub step_text : FillStep → List ℕ
step_text s = at_line s.time s.step.file s.step.group ++ shown_report (Evaluated s.step.report)

abbrev pub steps_text : List FillStep → List ℕ
steps_text steps = flat_map step_text steps

-- The first line, which tells of how many rows, and the texts of evaluations.
abbrev pub begun_text : ℕ → List FillStep → List ℕ
begun_text rows steps = shown_report (Opened rows) ++ steps_text steps

-- how many rows were kept
unfoldable pub backfilled_line : ℕ → List ℕ
backfilled_line rows = codes "backfilled " ++ (decimal rows ++ codes "\n")

-- the whole text, over so many rows at the start
abbrev pub fill_text : ℕ → List FillStep → List ℕ
fill_text rows steps = begun_text rows steps ++ backfilled_line (length (rows_filled steps))
