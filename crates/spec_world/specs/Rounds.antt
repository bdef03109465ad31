-- What becomes of the events of groups: an evaluation, a reload, and the order for alerts.
use Rattle.std.specs.Prelude.{ℕ, Bool, true, false, cond, nat_lt, List, [], ◌∷◌, map, filter, flat_map, find, length, Option, Some, None, Result, Ok, Err}
use Rattle.spec_vectors.specs.spec_history.declared.entry.Entry.{Entry}
use Rattle.spec_vectors.specs.spec_history.Puts.{added_count, admitted}
use Rattle.spec_rules.specs.spec_meaning.Answers.{go_on}
use Rattle.pr_rulefile.specs.declared.fields.problem.Problem.{Problem}
use Rattle.pr_rulefile.specs.File.{RuleReading, gives_file, gives_problems, rule_file_of}
use Rattle.spec_rules.specs.Definitions.{Group as Definition}
use Rattle.spec_rules.specs.spec_alerts.declared.record.Record.{Record}
use Rattle.spec_rules.specs.spec_alerts.Records.{is_living, records}
use Rattle.spec_rules.specs.Evaluations.{GroupStep, group_step}
use Rattle.spec_rules.specs.Groups.{Group, RuleState, is_group_named}
use Rattle.spec_rules.specs.Reloads.{LoadedFile, ReloadStep, reload_step, rules_in}
use Rattle.spec_rules.specs.Settings.{Settings}
use Rattle.spec_world.specs.declared.event.NamedFile.{NamedFile}
use Rattle.spec_world.specs.declared.report.AlertLine.{AlertLine}
use Rattle.spec_world.specs.declared.report.Report.{Report}
use Rattle.spec_world.specs.declared.report.Report.TheVariants as report
use Rattle.spec_world.specs.Outcome.{EventOutcome, refuse, accept, nothing_else, groups_become, reloads}
use Rattle.spec_world.specs.World.{World}

-- Evaluations

-- the groups, with one in the place of the first of its file and name
abbrev pub with_group : List Group → Group → List Group
with_group [] new = []
with_group (g ∷ groups) new = cond (is_group_named new.file new.name g) (new ∷ groups) (g ∷ with_group groups new)

-- What of the entries of an evaluation is admitted comes behind the history.
abbrev pub evaluation_outcome : World → GroupStep → EventOutcome
evaluation_outcome w step = accept (report.Evaluated step.report) step.report.admitted (groups_become (with_group w.groups step.group))

-- a group is evaluated at rising times
abbrev pub eval_after : Option ℕ → Settings → World → Group → ℕ → EventOutcome
eval_after None s w g time = evaluation_outcome w (group_step s g w.history time)
eval_after (Some last) s w g time = cond (nat_lt last time) (evaluation_outcome w (group_step s g w.history time)) (refuse (report.NotLater last))

abbrev pub eval_by : Settings → World → ℕ → List ℕ → List ℕ → Option Group → EventOutcome
eval_by s w time file name None = refuse (report.NoGroup file name)
eval_by s w time file name (Some g) = eval_after g.last s w g time

abbrev pub eval_outcome : Settings → World → ℕ → List ℕ → List ℕ → EventOutcome
eval_outcome s w time file name = eval_by s w time file name (find (is_group_named file name) w.groups)

-- Reloads

-- A file that is refused is told by its first problem. That it has one is a law of rule files
-- (`a_refused_file_has_a_problem` of pr_rulefile).
abbrev pub first_problem : List ℕ → List Problem → Result (List Definition) Report
first_problem name [] = Ok []
first_problem name (p ∷ ps) = Err (report.Refused name p.line p.kind)

abbrev pub groups_by : List ℕ → RuleReading → Result (List Definition) Report
groups_by name (gives_file groups) = Ok groups
groups_by name (gives_problems list) = first_problem name list

abbrev pub with_groups : NamedFile → List Definition → LoadedFile
with_groups f groups = record { name = f.name; groups = groups }

-- the files in order, up to the first that is no rule file
abbrev pub all_loaded : List NamedFile → Result (List LoadedFile) Report
all_loaded [] = Ok []
all_loaded (f ∷ files) =
    go_on (λ groups. go_on (λ rest. Ok (with_groups f groups ∷ rest)) (all_loaded files)) (groups_by f.name (rule_file_of f.bytes))

-- a reload whose files are all rule files
abbrev pub reload_accepted : World → ReloadStep → EventOutcome
reload_accepted w step =
    accept (report.Reloaded (length step.groups) (rules_in step.groups) (added_count w.history step.entries))
    (admitted w.history step.entries) (reloads step.groups)

abbrev pub reload_outcome_by : World → ℕ → Result (List LoadedFile) Report → EventOutcome
reload_outcome_by w time (Ok files) = reload_accepted w (reload_step w.reloaded w.groups time files)
reload_outcome_by w time (Err refusal) = refuse refusal

unfoldable pub reload_outcome : World → ℕ → List NamedFile → EventOutcome
reload_outcome w time files = reload_outcome_by w time (all_loaded files)

-- Alerts

abbrev pub alert_line : Record → AlertLine
alert_line r = record { state = r.state; labels = r.labels; active = r.active; value = r.value }

-- the alerts of a rule that are pending or fire; a recording rule has none
abbrev pub alerts_by : Bool → RuleState → List Record
alerts_by true r = filter is_living (records r.lineage)
alerts_by false r = []

abbrev pub rule_alerts : RuleState → List Record
rule_alerts r = alerts_by r.rule.alert r

abbrev pub group_alerts : Group → List Record
group_alerts g = flat_map rule_alerts g.rules

abbrev pub alerts_of : List Group → List AlertLine
alerts_of groups = map alert_line (flat_map group_alerts groups)

abbrev pub alerts_outcome : World → EventOutcome
alerts_outcome w = accept (report.Alerts (alerts_of w.groups)) [] nothing_else
