-- One step of the world, and the fold of it.
use Rattle.std.specs.Prelude.{ℕ, Bool, true, false, List, [], ◌∷◌, ◌++◌, length, Some, None, Option}
use Rattle.pr_num.specs.declared.value.Point.{Point}
use Rattle.spec_vectors.specs.spec_history.declared.entry.Entry.{Entry}
use Rattle.spec_vectors.specs.spec_history.declared.append.Append.{Append}
use Rattle.spec_vectors.specs.spec_history.declared.append.Append.TheVariants as append
use Rattle.spec_vectors.specs.spec_history.Admission.{admit}
use Rattle.pr_ast.specs.pr_labels.declared.pair.Pair.{Pair}
use Rattle.spec_world.specs.declared.event.Event.{Event}
use Rattle.spec_world.specs.declared.event.Event.TheVariants.{Add, Query, Scrape, Fail, Gone, Eval, Reload, Restart, Alerts}
use Rattle.spec_world.specs.declared.report.Report.{Report}
use Rattle.spec_world.specs.declared.report.Report.TheVariants as report
use Rattle.spec_world.specs.declared.scraped.BodyFault.{BodyFault}
use Rattle.spec_world.specs.declared.scraped.Scraped.{Scraped}
use Rattle.spec_world.specs.Outcome.{EventOutcome, refuse, accept, nothing_else, targets_become, begins_anew, changed_by, unless_backwards}
use Rattle.spec_world.specs.Query.{query_outcome}
use Rattle.spec_world.specs.Rounds.{alerts_outcome, eval_outcome, reload_outcome}
use Rattle.spec_world.specs.Settings.{Settings}
use Rattle.spec_world.specs.Targets.{TargetStep, scrape_step, fail_step, gone_step}
use Rattle.spec_world.specs.World.{World}

abbrev pub time_of : Event → ℕ
time_of (Add time labels point) = time
time_of (Query time text) = time
time_of (Scrape time target body) = time
time_of (Fail time target) = time
time_of (Gone time target) = time
time_of (Eval time file group) = time
time_of (Reload time files) = time
time_of (Restart time) = time
time_of (Alerts time) = time

-- what is answered to a sample
abbrev pub report_of : Append → Report
report_of append.Added = report.Added
report_of append.Same = report.Same
report_of (append.OutOfOrder last) = report.OutOfOrder last
report_of (append.Conflict kept) = report.Conflict kept

-- an entry is kept where it was added
abbrev pub rows_by : Append → Entry → List Entry
rows_by append.Added e = e ∷ []
rows_by append.Same e = []
rows_by (append.OutOfOrder last) e = []
rows_by (append.Conflict kept) e = []

abbrev pub entry_of : ℕ → List Pair → Point → Entry
entry_of time labels point = record { labels = labels; time = time; point = point }

-- a sample is added as its admission says
abbrev pub outcome_by : Append → Entry → EventOutcome
outcome_by answer e = accept (report_of answer) (rows_by answer e) nothing_else

-- what is answered to a scrape: its counts, or what is wrong with the body
abbrev pub scrape_report : Option BodyFault → Scraped → Report
scrape_report None s = report.Scraped s.added s.dropped s.stale
scrape_report (Some f) s = report.BadScrape f.line f.kind s.stale

-- An order about a target is accepted, whatever becomes of it. What of its entries is admitted
-- comes behind the history.
abbrev pub target_outcome : Report → TargetStep → EventOutcome
target_outcome report step = accept report step.answer.admitted (targets_become step.targets)

abbrev pub scrape_outcome : TargetStep → EventOutcome
scrape_outcome step = target_outcome (scrape_report step.answer.fault step.answer) step

abbrev pub fail_outcome : TargetStep → EventOutcome
fail_outcome step = target_outcome (report.Failed step.answer.stale) step

abbrev pub gone_outcome : TargetStep → EventOutcome
gone_outcome step = target_outcome (report.Gone step.answer.stale) step

-- A restart drops all but the history, which is read again.
abbrev pub restart_outcome : World → EventOutcome
restart_outcome w = accept (report.Restarted (length w.history)) [] begins_anew

-- an event that is not before the last one
abbrev pub outcome_in_time : Settings → World → Event → EventOutcome
outcome_in_time s w (Add time labels point) = outcome_by (admit w.history labels time point) (entry_of time labels point)
outcome_in_time s w (Query time text) = query_outcome s w.history time text
outcome_in_time s w (Scrape time target body) = scrape_outcome (scrape_step w.targets w.history target time body)
outcome_in_time s w (Fail time target) = fail_outcome (fail_step w.targets w.history target time)
outcome_in_time s w (Gone time target) = gone_outcome (gone_step w.targets w.history target time)
outcome_in_time s w (Eval time file group) = eval_outcome s w time file group
outcome_in_time s w (Reload time files) = reload_outcome w time files
outcome_in_time s w (Restart time) = restart_outcome w
outcome_in_time s w (Alerts time) = alerts_outcome w

-- an event before the last one is refused
abbrev pub outcome : Settings → World → Event → EventOutcome
outcome s w e = unless_backwards w.last (time_of e) (outcome_in_time s w e)

-- What an event leads to: the world after it, what is answered, the entries that are kept for it,
-- and whether it was refused.
pub record Step : Type 0 where
  pub world : World
  pub report : Report
  pub rows : List Entry
  pub refused : Bool

-- A refused event changes nothing. Nothing else than an accepted one sets the last time, adds to
-- the history or changes anything.
abbrev pub step_by : World → ℕ → EventOutcome → Step
step_by w time (refuse report) = record { world = w; report = report; rows = []; refused = true }
step_by w time (accept report entries change) = record { world = changed_by change w time entries; report = report; rows = entries; refused = false }

unfoldable pub next : Settings → World → Event → Step
next s w e = step_by w (time_of e) (outcome s w e)

-- the world after events, one after another, and the entries that are kept for them
abbrev pub world_after : Settings → World → List Event → World
world_after s w [] = w
world_after s w (e ∷ events) = world_after s (next s w e).world events

abbrev pub rows_of : Settings → World → List Event → List Entry
rows_of s w [] = []
rows_of s w (e ∷ events) = (next s w e).rows ++ rows_of s (next s w e).world events
