-- What a command is to do, piece by piece, by the bytes of its input, by what the files hold, and
-- by the rows at its start.
use Rattle.std.specs.Prelude.{ℕ, Bool, true, false, List, [], ◌∷◌, ◌++◌, length, map, flat_map, Option, Some, None, Result, Ok, Err}
use Rattle.std.specs.List.{list_any}
use Rattle.pr_engine.specs.spec_history.declared.entry.Entry.{Entry}
use Rattle.pr_engine.specs.spec_history.Histories.{history_of}
use Rattle.pr_outside.specs.spec_history.declared.row.Row.{Row}
use Rattle.pr_outside.specs.Checks.{ends}
use Rattle.pr_outside.specs.FileChecks.{Told}
use Rattle.pr_outside.specs.Outside.{Held}
use Rattle.pr_outside.specs.Status.{verdict}
use Rattle.pr_outside.specs.declared.status.status.Status.{Status}
use Rattle.pr_outside.specs.declared.status.status.Status.TheVariants.{Done, Problem, StoreFault, Usage}
use Rattle.pr_backfill.specs.pr_text.BadRows.{bad_row_text}
use Rattle.pr_backfill.specs.pr_text.Printed.{shown_report}
use Rattle.pr_backfill.specs.pr_text.spec_rules.Reloads.{LoadedFile}
use Rattle.pr_backfill.specs.pr_text.spec_rules.Settings.{of_a_run}
use Rattle.pr_run.specs.spec_world.Step.{next}
use Rattle.pr_run.specs.spec_world.World.{World, start}
use Rattle.pr_run.specs.spec_world.declared.event.Event.{Event}
use Rattle.pr_run.specs.spec_world.declared.report.Report.TheVariants.{Opened}
use Rattle.pr_backfill.specs.pr_checks.Metrics.{metrics_told}
use Rattle.pr_backfill.specs.pr_checks.RuleFiles.{rules_told}
use Rattle.pr_backfill.specs.pr_checks.RulesLoaded.{all_rules}
use Rattle.pr_test.specs.TestsTold.{tests_told}
use Rattle.pr_run.specs.Told.{OrderAnswer, answers_to}
use Rattle.pr_exercise.specs.Exercise.{exercise_events}
use Rattle.pr_exercise.specs.Summary.{summary}
use Rattle.pr_backfill.specs.Filled.{FillStep, filled, rows_filled}
use Rattle.pr_backfill.specs.Text.{backfilled_line, step_text}
use Rattle.pr_top.specs.Command.{Command, runs, tests_rules, checks_rules, checks_metrics, exercises, backfills}
use Rattle.pr_top.specs.Usage.{usage_text}

-- A piece of what a command does: the files that it asks for, of which the outside is to tell what
-- they hold; the entries whose rows it keeps; and the text that it writes.
pub record Piece : Type 0 where
  pub asks : List (List ℕ)
  pub rows : List Entry
  pub text : List ℕ

-- all pieces, the status after the last of them, and whether the input is read to its end before
-- that
pub record Plan : Type 0 where
  pub pieces : List Piece
  pub status : Status
  pub reads : Bool

abbrev pub all_asks : List Piece → List (List ℕ)
all_asks pieces = flat_map (λ (p : Piece). p.asks) pieces

abbrev pub all_rows : List Piece → List Entry
all_rows pieces = flat_map (λ (p : Piece). p.rows) pieces

abbrev pub all_text : List Piece → List ℕ
all_text pieces = flat_map (λ (p : Piece). p.text) pieces

-- a piece that only writes, and a plan of such a piece alone
abbrev pub writing : List ℕ → Piece
writing text = record { asks = []; rows = []; text = text }

abbrev pub only : List ℕ → Status → Plan
only text status = record { pieces = writing text ∷ []; status = status; reads = false }

-- Over rows of which one is bad the first such is told, and nothing else.
abbrev pub over : Result (List Entry) ℕ → (List Entry → Plan) → Plan
over (Ok history) plan = plan history
over (Err index) plan = only (bad_row_text index) StoreFault

-- how many rows a command begins with
abbrev pub opening : List Entry → Piece
opening history = writing (shown_report (Opened (length history)))

-- `run`: each order of the script is answered
abbrev pub answering : OrderAnswer → Piece
answering a = record { asks = a.asks; rows = a.rows; text = a.text }

abbrev pub script_plan : List Entry → List OrderAnswer → Plan
script_plan history answers = record { pieces = opening history ∷ map answering answers; status = verdict (list_any (λ (a : OrderAnswer). a.refused) answers); reads = true }

-- `test rules` and `check rules`: each file is told of
abbrev pub checking : Told → Piece
checking t = record { asks = t.asks; rows = []; text = t.text }

abbrev pub files_plan : List Told → Plan
files_plan tolds = record { pieces = map checking tolds; status = verdict (list_any (λ (t : Told). t.refused) tolds); reads = false }

-- `exercise`: each event is answered, of which the rows are kept and nothing is written, and then
-- summed up
abbrev pub stepping : World → List Event → List Piece
stepping w [] = []
stepping w (e ∷ events) = record { asks = []; rows = (next of_a_run w e).rows; text = [] } ∷ stepping (next of_a_run w e).world events

abbrev pub exercise_plan : ℕ → List Entry → Plan
exercise_plan rounds history = record { pieces = stepping (start history) (exercise_events rounds) ++ writing (summary history rounds) ∷ []; status = Done; reads = false }

-- `backfill`: the files are asked for; where nothing is wrong with them, their groups are
-- evaluated
abbrev pub filling : FillStep → Piece
filling s = record { asks = []; rows = s.step.report.admitted; text = step_text s }

abbrev pub fill_plan : List Entry → List FillStep → Plan
fill_plan history steps = record { pieces = opening history ∷ map filling steps ++ writing (backfilled_line (length (rows_filled steps))) ∷ []; status = Done; reads = false }

-- by what is wrong with the files, and by what the rows at the start tell
abbrev pub loaded_plan : List ℕ → List LoadedFile → List ℕ → Result (List Entry) ℕ → Plan
loaded_plan [] files times told = over told (λ history. fill_plan history (filled history files times))
loaded_plan (b ∷ wrong) files times told = only (b ∷ wrong) Problem

-- all files are asked for before anything else is done
abbrev pub asking_first : List (List ℕ) → Plan → Plan
asking_first names p = record { pieces = record { asks = names; rows = []; text = [] } ∷ p.pieces; status = p.status; reads = p.reads }

-- The plan of a command, where `held` is what the files hold, and `rows` are those at the start.
-- Of words that are none of the forms it is to say which there are.
abbrev pub plan_of : Option Command → List ℕ → Held → List Row → Plan
plan_of None input held rows = only usage_text Usage
plan_of (Some (runs path)) input held rows = over (history_of rows) (λ history. script_plan history (answers_to held history input))
plan_of (Some (tests_rules names)) input held rows = files_plan (map (tests_told held) names)
plan_of (Some (checks_rules names)) input held rows = files_plan (map (rules_told held) names)
plan_of (Some checks_metrics) input held rows = record { pieces = writing (metrics_told input).text ∷ []; status = ends (metrics_told input).verdict; reads = true }
plan_of (Some (exercises rounds)) input held rows = over (history_of rows) (exercise_plan rounds)
plan_of (Some (backfills path times names)) input held rows =
    asking_first names (loaded_plan (all_rules held names).wrong (all_rules held names).files times (history_of rows))
