-- What is answered to events, one after another.
use Rattle.std.specs.Prelude.{◌≡◌, ℕ, List, [], ◌∷◌, Ok}
use Rattle.std.specs.List.{AllByRecursion}
use Rattle.pr_outside.specs.spec_history.declared.entry.Entry.{Entry}
use Rattle.pr_outside.specs.spec_history.declared.row.Row.{Row}
use Rattle.pr_outside.specs.spec_history.Histories.{history_of}
use Rattle.pr_outside.specs.Meant.{Store}
use Rattle.pr_outside.specs.Stores.{TellsHistory}
use Rattle.spec_world.specs.Settings.{Settings}
use Rattle.spec_world.specs.Step.{next, world_after}
use Rattle.spec_world.specs.World.{World, start}
use Rattle.spec_world.specs.declared.event.Event.{Event}
use Rattle.spec_world.specs.declared.report.Report.{Report}
use Rattle.spec_world.specs.private.Laws.{HasDistinctFiles}
use Rattle.pr_engine.specs.private.Events.{settings_of}

-- the files of each reload have names of their own
abbrev pub HaveDistinctFiles : List Event → Type 0
HaveDistinctFiles events = AllByRecursion HasDistinctFiles events

-- each event is answered by the report of its step
abbrev pub reports_of : Settings → World → List Event → List Report
reports_of s w [] = []
reports_of s w (e ∷ events) = (next s w e).report ∷ reports_of s (next s w e).world events

-- The store told a history before. What is answered are the reports over it, and the store tells the
-- history after the events.
pub record AreAnswers (step : ℕ) (events : List Event) (before now : Store) (answered : List Report) : Type 0 where
  pub history : List Entry
  pub first : TellsHistory before history
  pub reports : answered ≡ reports_of (settings_of step) (start history) events
  pub kept : TellsHistory now (world_after (settings_of step) (start history) events).history

-- The rows tell a history, and what is answered are the reports over it.
pub record AreAnswersOver (step : ℕ) (rows : List Row) (events : List Event) (answered : List Report) : Type 0 where
  pub history : List Entry
  pub told : history_of rows ≡ Ok history
  pub reports : answered ≡ reports_of (settings_of step) (start history) events
