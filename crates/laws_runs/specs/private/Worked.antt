-- Lineages, groups and worlds to try the definitions on.
use Rattle.std.specs.Prelude.{ℕ, Bool, true, false, List, [], ◌∷◌, ◌++◌, codes, None, Some, Result, Ok, Err}
use Rattle.pr_labels.specs.declared.pair.Pair.{Pair}
use Rattle.pr_labels.specs.LabelSet.{named, pair_of}
use Rattle.pr_ast.specs.declared.names.Func.TheVariants as func
use Rattle.pr_ast.specs.private.Examples.{chosen, metric, one}
use Rattle.pr_ast.specs.private.Places.{nowhere}
use Rattle.pr_ast.specs.declared.selector.Selector.{Selector}
use Rattle.pr_ast.specs.Tree.{Tree, call, range}
use Rattle.spec_history.specs.declared.entry.Entry.{Entry}
use Rattle.spec_history.specs.private.Examples.{number, whole}
use Rattle.spec_rules.specs.Definitions.{Group as Definition}
use Rattle.spec_rules.specs.spec_alerts.declared.found.RuleElement.{RuleElement}
use Rattle.spec_rules.specs.spec_alerts.private.Examples.{d, gave}
use Rattle.spec_rules.specs.spec_alerts.Lineage.{EvaluationOutcome, Occurrence, came_to}
use Rattle.spec_rules.specs.declared.fault.RuleFailure.{RuleFailure}
use Rattle.spec_rules.specs.Evaluations.{fault_outcome}
use Rattle.spec_rules.specs.private.Examples.{recording_as}
use Rattle.spec_rules.specs.Groups.{Group, fresh}
use Rattle.spec_world.specs.declared.event.Event.{Event}
use Rattle.spec_world.specs.declared.event.Event.TheVariants.{Add, Query, Scrape, Fail, Gone, Eval, Reload, Restart, Alerts}
use Rattle.spec_world.specs.private.GroupExamples.{alerting, file, is_zero}
use Rattle.spec_world.specs.World.{World}

-- Alerts

-- an element of D with a value and a note
abbrev pub noted : ℕ → List ℕ → RuleElement
noted n text = record { labels = d; notes = pair_of (codes "n") text ∷ []; value = number n }

abbrev pub found_twice : List Occurrence
found_twice = gave 0 0 0 (noted 0 (codes "x") ∷ []) ∷ gave 60000 0 0 (noted 1 (codes "y") ∷ []) ∷ []

-- what a rule came to, as its lineage keeps it
abbrev pub kept_outcome : Result (List RuleElement) RuleFailure → EvaluationOutcome
kept_outcome (Ok founds) = came_to founds
kept_outcome (Err f) = fault_outcome f.kind

-- Costs

-- r is m, and s is how many samples r had in five minutes
abbrev pub count_of_r : Tree
count_of_r = call nowhere func.CountOverTime (one (range nowhere (chosen (codes "r") [] 0) 300000))

abbrev pub two_in_a_row : Group
two_in_a_row = fresh 0 (codes "f") (record {
  name = codes "g";
  interval = None;
  limit = 0;
  rules = recording_as (codes "r") (metric (codes "m")) ∷ recording_as (codes "s") count_of_r ∷ [];
})

-- the selector of m
abbrev pub m_chosen : Selector
m_chosen = chosen (codes "m") [] 0

-- Worlds

-- an event that drops all but the history
abbrev pub is_restart : Event → Bool
is_restart (Add time labels point) = false
is_restart (Query time text) = false
is_restart (Scrape time target body) = false
is_restart (Fail time target) = false
is_restart (Gone time target) = false
is_restart (Eval time file group) = false
is_restart (Reload time files) = false
is_restart (Restart time) = true
is_restart (Alerts time) = false

-- two groups of a file, each with an alert of what is down
abbrev pub alerting_group : List ℕ → List ℕ → Definition
alerting_group name alert = record { name = name; interval = None; limit = 0; rules = alerting alert (is_zero (codes "up")) 0 0 ∷ [] }

abbrev pub two_groups : World
two_groups = record {
  history = record { labels = named (codes "up"); time = 0; point = whole 0 } ∷ [];
  last = Some 0;
  targets = [];
  groups = fresh 0 file (alerting_group (codes "g") (codes "B")) ∷ fresh 0 file (alerting_group (codes "h") (codes "A")) ∷ [];
  reloaded = true;
}
