-- Small groups to try the definitions on, and what they are told.
use Rattle.std.specs.Prelude.{ℕ, ◌^◌, true, false, List, [], ◌∷◌, ◌++◌, codes, map, flat_map, Option, Some, None}
use Rattle.pr_num.specs.declared.value.Num.{Num}
use Rattle.pr_num.specs.declared.value.Point.{Point}
use Rattle.pr_ast.specs.pr_labels.declared.item.Item.{Item}
use Rattle.pr_ast.specs.pr_labels.declared.pair.Pair.{Pair}
use Rattle.pr_ast.specs.pr_labels.LabelSet.{metric_label, named, pair_of}
use Rattle.spec_vectors.specs.spec_history.declared.append.Append.TheVariants.{Added as added}
use Rattle.spec_vectors.specs.spec_history.declared.entry.Entry.{Entry}
use Rattle.spec_vectors.specs.spec_history.private.Examples.{number, whole}
use Rattle.pr_ast.specs.declared.names.AggOp.TheVariants as agg
use Rattle.pr_ast.specs.declared.names.BinOp.TheVariants as op
use Rattle.pr_ast.specs.declared.names.Func.TheVariants as func
use Rattle.pr_ast.specs.private.Examples.{chosen, grouped, metric, one, whole_number}
use Rattle.pr_ast.specs.private.Places.{nowhere}
use Rattle.pr_ast.specs.Tree.{Tree, aggregate, binary, call, range}
use Rattle.spec_rules.specs.Definitions.{Group as Definition, Rule}
use Rattle.spec_rules.specs.spec_meaning.declared.fault.FaultKind.TheVariants.{TooWide}
use Rattle.spec_rules.specs.declared.fault.RuleFault.TheVariants.{Eval as Failed}
use Rattle.spec_rules.specs.spec_alerts.declared.restored.Restored.{Restored}
use Rattle.spec_rules.specs.spec_alerts.declared.sending.Sending.{Sending}
use Rattle.spec_rules.specs.declared.report.GroupReport.{GroupReport}
use Rattle.spec_rules.specs.declared.report.Put.{Put}
use Rattle.spec_rules.specs.declared.report.RuleOutcome.{RuleOutcome}
use Rattle.spec_rules.specs.declared.report.RuleOutcome.TheVariants.{Fine, Fault}
use Rattle.spec_rules.specs.declared.report.RuleReport.{RuleReport}
use Rattle.spec_rules.specs.Groups.{fresh}
use Rattle.spec_rules.specs.Reloads.{reload_step}
use Rattle.spec_world.specs.declared.event.Event.{Event}
use Rattle.spec_world.specs.declared.event.Event.TheVariants.{Add, Eval}
use Rattle.spec_world.specs.declared.report.Report.{Report}
use Rattle.spec_world.specs.declared.report.Report.TheVariants as report
use Rattle.spec_world.specs.Rounds.{reload_accepted}
use Rattle.spec_world.specs.Settings.{of_a_run}
use Rattle.spec_world.specs.Step.{Step, next, step_by, world_after}
use Rattle.spec_world.specs.World.{World}

-- Expressions: a metric that is 0, a hundred times a metric, its sum, and how many samples it had
-- in five minutes

abbrev pub is_zero : List ℕ → Tree
is_zero name = binary nowhere op.Equal false None (metric name) (whole_number 0)

abbrev pub hundredfold : List ℕ → Tree
hundredfold name = binary nowhere op.Mul false None (metric name) (whole_number 100)

abbrev pub sum_of : List ℕ → Tree
sum_of name = aggregate nowhere agg.Sum (grouped []) (one (metric name))

abbrev pub count_of : List ℕ → Tree
count_of name = call nowhere func.CountOverTime (one (range nowhere (chosen name [] 0) 300000))

-- Rules and groups

abbrev pub recording : List ℕ → Tree → List Pair → Rule
recording name expr labels = record { name = name; alert = false; expr = expr; labels = labels; hold = 0; keep = 0; notes = [] }

abbrev pub alerting : List ℕ → Tree → ℕ → ℕ → Rule
alerting name expr hold keep = record { name = name; alert = true; expr = expr; labels = []; hold = hold; keep = keep; notes = [] }

abbrev pub file : List ℕ
file = codes "r"

abbrev pub g : List ℕ
g = codes "g"

abbrev pub group : Option ℕ → ℕ → List Rule → Definition
group interval limit rules = record { name = g; interval = interval; limit = limit; rules = rules }

-- the world of these samples in which one group was loaded, by the first reload
abbrev pub loaded : List Entry → Definition → World
loaded history d = record { history = history; last = Some 0; targets = []; groups = fresh 2 file d ∷ []; reloaded = true }

-- the same world, where the group waits for no restoration
abbrev pub unwaiting : List Entry → Definition → World
unwaiting history d = record { history = history; last = Some 0; targets = []; groups = fresh 0 file d ∷ []; reloaded = true }

-- a reload by which the file has these groups
abbrev pub reload : World → ℕ → List Definition → Step
reload w time definitions = step_by w time (reload_accepted w (reload_step w.reloaded w.groups time (record { name = file; groups = definitions } ∷ [])))

-- Samples and evaluations

abbrev pub sample : ℕ → List Pair → ℕ → Entry
sample time labels n = record { labels = labels; time = time; point = whole n }

abbrev pub series : List ℕ → List ℕ → List ℕ → List Pair
series name label value = pair_of metric_label name ∷ pair_of label value ∷ []

abbrev pub added_at : ℕ → List Pair → ℕ → Event
added_at time labels n = Add time labels (whole n)

abbrev pub eval_at : ℕ → Event
eval_at time = Eval time file g

-- what is told of an event after others
abbrev pub told : World → List Event → Event → Report
told w events e = (next of_a_run (world_after of_a_run w events) e).report

-- Reports

abbrev pub group_of : Report → Option GroupReport
group_of (report.Evaluated r) = Some r
group_of _ = None

abbrev pub rules_of : Option GroupReport → List RuleReport
rules_of (Some r) = r.rules
rules_of None = []

abbrev pub restored_of : Option GroupReport → List Restored
restored_of (Some r) = r.restored
restored_of None = []

abbrev pub leftovers_of : Option GroupReport → List (List Pair)
leftovers_of (Some r) = r.leftovers
leftovers_of None = []

-- what is told of the rules, what is sent, what was left over, and what is restored
abbrev pub told_rules : World → List Event → Event → List RuleReport
told_rules w events e = rules_of (group_of (told w events e))

abbrev pub told_sent : World → List Event → Event → List Sending
told_sent w events e = flat_map (λ r. r.sent) (told_rules w events e)

abbrev pub told_leftovers : World → List Event → Event → List (List Pair)
told_leftovers w events e = leftovers_of (group_of (told w events e))

abbrev pub told_restored : World → List Event → Event → List Restored
told_restored w events e = restored_of (group_of (told w events e))

abbrev pub put : List Pair → Num → Put
put labels v = record { labels = labels; value = v; append = added }

abbrev pub fine : List Put → List (List Pair) → List Sending → RuleReport
fine samples stale sent = record { outcome = Fine; samples = samples; stale = stale; sent = sent }

abbrev pub failed : RuleOutcome → RuleReport
failed outcome = record { outcome = outcome; samples = []; stale = []; sent = [] }

-- the label of an instance
abbrev pub instance : List ℕ → List Pair
instance i = pair_of (codes "i") i ∷ []

-- the series of an alert
abbrev pub of_alert : List ℕ → List Pair
of_alert name = pair_of (codes "alertname") name ∷ []

abbrev pub alerts_series : List ℕ → List ℕ → List Pair
alerts_series name state = pair_of metric_label (codes "ALERTS") ∷ pair_of (codes "alertname") name ∷ pair_of (codes "alertstate") state ∷ []

abbrev pub for_state_series : List ℕ → List Pair
for_state_series name = pair_of metric_label (codes "ALERTS_FOR_STATE") ∷ pair_of (codes "alertname") name ∷ []

abbrev pub firing : List ℕ → ℕ → ℕ → Sending
firing name starts ends = record { labels = of_alert name; firing = true; value = number 0; starts = starts; ends = ends; notes = [] }

abbrev pub over : List ℕ → ℕ → ℕ → Sending
over name starts ends = record { labels = of_alert name; firing = false; value = number 0; starts = starts; ends = ends; notes = [] }

abbrev pub moved_to : List ℕ → ℕ → Restored
moved_to name active = record { labels = of_alert name; active = active }

-- Worlds of the worked rows

abbrev pub up : List Pair
up = named (codes "up")

abbrev pub up_of : List ℕ → List Pair
up_of i = series (codes "up") (codes "i") i

-- a is a hundred times big, which is 10^19, and b is big
abbrev pub big : World
big = loaded (sample 0 (named (codes "big")) (10 ^ 19) ∷ []) (group None 0 (recording (codes "a") (hundredfold (codes "big")) [] ∷ recording (codes "b") (metric (codes "big")) [] ∷ []))

abbrev pub big_is : ℕ → ℕ → Event
big_is time n = added_at time (named (codes "big")) n

abbrev pub big_fails : List RuleReport
big_fails = failed (Fault 0 (Failed TooWide)) ∷ fine (put (named (codes "b")) (number (10 ^ 19)) ∷ []) [] [] ∷ []

-- an alert that one series may have, of instances that are down
abbrev pub limited : World
limited = loaded (sample 0 (up_of (codes "a")) 0 ∷ []) (group None 1 (alerting (codes "Down") (is_zero (codes "up")) 60000 0 ∷ []))

abbrev pub limit_is_met : List Event
limit_is_met = eval_at 0 ∷ added_at 30000 (up_of (codes "b")) 0 ∷ []

abbrev pub after_the_limit : List Event
after_the_limit = eval_at 0 ∷ added_at 30000 (up_of (codes "b")) 0 ∷ eval_at 30000 ∷ added_at 60000 (up_of (codes "b")) 1 ∷ []

-- the alert D of what is down, evaluated every 30 seconds; for three minutes; and kept firing for two
abbrev pub every_30s : World
every_30s = loaded (sample 0 up 0 ∷ []) (group (Some 30000) 0 (alerting (codes "D") (is_zero (codes "up")) 0 0 ∷ []))

abbrev pub for_3m : World
for_3m = loaded (sample 0 up 0 ∷ []) (group None 0 (alerting (codes "D") (is_zero (codes "up")) 180000 0 ∷ []))

abbrev pub keeps_for_2m : World
keeps_for_2m = loaded (sample 0 up 0 ∷ []) (group None 0 (alerting (codes "D") (is_zero (codes "up")) 0 120000 ∷ []))

abbrev pub went_up : List Event
went_up = eval_at 0 ∷ eval_at 60000 ∷ added_at 120000 up 1 ∷ []

abbrev pub still_fires : List Sending → List RuleReport
still_fires sent = fine (put (alerts_series (codes "D") (codes "firing")) (number 1) ∷ put (for_state_series (codes "D")) (number 0) ∷ []) [] sent ∷ []

-- s is m, with a label k
abbrev pub labelled : List ℕ → Definition
labelled v = group None 0 (recording (codes "s") (metric (codes "m")) (pair_of (codes "k") v ∷ []) ∷ [])

abbrev pub s_of : List ℕ → List Pair
s_of v = series (codes "s") (codes "k") v

abbrev pub evaluated_once : World
evaluated_once = world_after of_a_run (loaded (sample 0 (named (codes "m")) 1 ∷ []) (labelled (codes "one"))) (eval_at 0 ∷ [])

-- an alert for an hour, whose expression a reload changes
abbrev pub for_1h : Tree → Definition
for_1h expr = group None 0 (alerting (codes "D") expr 3600000 0 ∷ [])

abbrev pub pending_for_1h : World
pending_for_1h = world_after of_a_run (loaded (sample 0 (named (codes "m")) 0 ∷ []) (for_1h (is_zero (codes "m")))) (eval_at 0 ∷ [])

-- the alert H for half an hour, of which it was written at a time that it is active since 0
abbrev pub written_at : ℕ → List Entry
written_at time = sample time (for_state_series (codes "H")) 0 ∷ []

abbrev pub restoring : List Entry → ℕ → World
restoring written time = loaded (written ++ sample time up 0 ∷ []) (group None 0 (alerting (codes "H") (is_zero (codes "up")) 1800000 0 ∷ []))

-- two rules that record r: the sum of a, and the sum of b
abbrev pub two_sums : World
two_sums = loaded (sample 0 (named (codes "a")) 1 ∷ sample 0 (named (codes "b")) 2 ∷ [])
    (group None 0 (recording (codes "r") (sum_of (codes "a")) [] ∷ recording (codes "r") (sum_of (codes "b")) [] ∷ []))

-- how many samples m had in five minutes
abbrev pub counting : World
counting = loaded (sample 0 (series (codes "m") (codes "j") (codes "1")) 1 ∷ []) (group None 0 (recording (codes "c") (count_of (codes "m")) [] ∷ []))

-- the same, where a sample of a minute ago comes in
abbrev pub with_sample : World → Entry → World
with_sample w e = record { history = w.history ++ e ∷ []; last = w.last; targets = w.targets; groups = w.groups; reloaded = w.reloaded }

abbrev pub after_a_late_one : World
after_a_late_one = with_sample (world_after of_a_run counting (eval_at 60000 ∷ [])) (sample 30000 (series (codes "m") (codes "j") (codes "1")) 5)

-- x is m, which has two series, whose label i is set to one value
abbrev pub two_series : List Entry
two_series = sample 0 (series (codes "m") (codes "i") (codes "a")) 1 ∷ sample 0 (series (codes "m") (codes "i") (codes "b")) 2 ∷ []

abbrev pub colliding : World
colliding = loaded two_series (group None 0 (recording (codes "x") (metric (codes "m")) (pair_of (codes "i") (codes "c") ∷ []) ∷ []))

abbrev pub too_many : World
too_many = loaded two_series (group None 1 (recording (codes "x") (metric (codes "m")) [] ∷ []))
