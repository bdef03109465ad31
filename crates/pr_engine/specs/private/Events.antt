-- Events, and what they may read.
use Rattle.std.specs.Prelude.{ℕ, Bool, true, false, List, IsSome, Result, Ok, Err}
use Rattle.pr_ast.specs.Tree.{Tree}
use Rattle.pr_head.specs.spec_history.declared.entry.Entry.{Entry}
use Rattle.pr_outside.specs.Meant.{Store}
use Rattle.pr_manager.specs.pr_parse.Expressions.{ExpressionFault, expression_of}
use Rattle.pr_manager.specs.private.Rounds.{eval_cost}
use Rattle.pr_manager.specs.spec_meaning.private.Cost.{cost, nothing_passed}
use Rattle.pr_manager.specs.spec_rules.private.Costs.{PassedByRules}
use Rattle.pr_manager.specs.spec_world.Settings.{Settings, of_a_run}
use Rattle.pr_manager.specs.spec_world.Step.{Step, outcome_in_time, step_by, time_of}
use Rattle.pr_manager.specs.spec_world.World.{World}
use Rattle.pr_manager.specs.spec_world.declared.event.Event.{Event}
use Rattle.pr_manager.specs.spec_world.declared.event.Event.TheVariants as event

-- the settings of a run, with this step of subqueries that name none
abbrev pub settings_of : ℕ → Settings
settings_of step = record { subquery_step = step; external = of_a_run.external }

abbrev pub is_restart : Event → Bool
is_restart (event.Add time labels point) = false
is_restart (event.Query time text) = false
is_restart (event.Scrape time target body) = false
is_restart (event.Fail time target) = false
is_restart (event.Gone time target) = false
is_restart (event.Eval time file group) = false
is_restart (event.Reload time files) = false
is_restart (event.Restart time) = true
is_restart (event.Alerts time) = false

-- What an event comes to that is not before the last one.
abbrev pub step_in_time : ℕ → World → Event → Step
step_in_time step w e = step_by w (time_of e) (outcome_in_time (settings_of step) w e)

-- what a restart reads again is known where the store tells its rows
abbrev pub IsKnownAfter : Event → Store → Type 0
IsKnownAfter (event.Add time labels point) store = Unit {0}
IsKnownAfter (event.Query time text) store = Unit {0}
IsKnownAfter (event.Scrape time target body) store = Unit {0}
IsKnownAfter (event.Fail time target) store = Unit {0}
IsKnownAfter (event.Gone time target) store = Unit {0}
IsKnownAfter (event.Eval time file group) store = Unit {0}
IsKnownAfter (event.Reload time files) store = Unit {0}
IsKnownAfter (event.Restart time) store = IsSome store.rows
IsKnownAfter (event.Alerts time) store = Unit {0}

-- How many samples are read for an event at most: for a query those of its expression, where it has a
-- type; for an evaluation those of its group, where there is one, without those that were passed; and
-- for no other.
abbrev pub expression_cost : ℕ → List Entry → ℕ → Result Tree ExpressionFault → ℕ
expression_cost step history time (Ok tree) = cost step history nothing_passed tree 0 time
expression_cost step history time (Err f) = 0

abbrev pub query_cost : ℕ → List Entry → ℕ → List ℕ → ℕ
query_cost step history time text = expression_cost step history time (expression_of text)

-- What was passed of a group is known by its file and its name.
abbrev pub event_cost : ℕ → (List ℕ → List ℕ → PassedByRules) → World → Event → ℕ
event_cost step passed w (event.Add time labels point) = 0
event_cost step passed w (event.Query time text) = query_cost step w.history time text
event_cost step passed w (event.Scrape time target body) = 0
event_cost step passed w (event.Fail time target) = 0
event_cost step passed w (event.Gone time target) = 0
event_cost step passed w (event.Eval time file group) = eval_cost (settings_of step) w time file group (passed file group)
event_cost step passed w (event.Reload time files) = 0
event_cost step passed w (event.Restart time) = 0
event_cost step passed w (event.Alerts time) = 0
