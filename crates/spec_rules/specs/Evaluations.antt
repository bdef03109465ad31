-- One evaluation of a group: its rules in order, each over the history as it then stands; then the
-- markers that a reload left over; then the restoration of a group that has waited for it.
use Rattle.std.specs.Prelude.{ℕ, pred, Bool, true, false, cond, ◌==◌, nat_lt, List, [], ◌∷◌, ◌++◌, map, flat_map, fold, Option, Some, None, Result, Ok, Err}
use Rattle.std.specs.List.{zip}
use Rattle.pr_num.specs.declared.value.Num.{Num}
use Rattle.pr_num.specs.declared.value.Point.TheVariants.{Value}
use Rattle.pr_ast.specs.pr_labels.declared.item.Item.{Item}
use Rattle.pr_ast.specs.pr_labels.declared.pair.Pair.{Pair}
use Rattle.spec_alerts.specs.spec_history.declared.append.Append.{Append}
use Rattle.spec_alerts.specs.spec_history.declared.entry.Entry.{Entry}
use Rattle.spec_alerts.specs.spec_history.Admission.{put_all}
use Rattle.spec_alerts.specs.spec_history.Puts.{admitted, admissions, shown_entries, marker, markers, label_sets_of}
use Rattle.spec_meaning.specs.spec_vectors.Vectors.{element}
use Rattle.spec_meaning.specs.Answers.{go_on}
use Rattle.spec_rules.specs.Definitions.{Rule}
use Rattle.spec_alerts.specs.declared.found.RuleElement.{RuleElement}
use Rattle.spec_alerts.specs.declared.record.Record.{Record}
use Rattle.spec_alerts.specs.declared.restored.Restored.{Restored}
use Rattle.spec_alerts.specs.declared.sending.Sending.{Sending}
use Rattle.spec_alerts.specs.Lineage.{EvaluationOutcome, came_to, exceeded, failed, Occurrence, moved, previous}
use Rattle.spec_alerts.specs.Records.{evaluation, exceeding, records_after, samples, sendings}
use Rattle.spec_alerts.specs.Restoring.{restored}
use Rattle.spec_rules.specs.declared.fault.RuleFailure.{RuleFailure}
use Rattle.spec_rules.specs.declared.fault.RuleFault.{RuleFault}
use Rattle.spec_rules.specs.declared.fault.RuleFault.TheVariants.{Eval, SameAfterRule, LimitExceeded}
use Rattle.spec_rules.specs.declared.report.GroupReport.{GroupReport}
use Rattle.spec_rules.specs.declared.report.Put.{Put}
use Rattle.spec_rules.specs.declared.report.RuleOutcome.TheVariants.{Fine, Fault}
use Rattle.spec_rules.specs.declared.report.RuleReport.{RuleReport}
use Rattle.spec_rules.specs.Groups.{Group, RuleState, interval_of}
use Rattle.spec_rules.specs.Results.{without_place, rule_result, unless_beyond}
use Rattle.spec_rules.specs.Settings.{Settings}

-- One rule

-- What a rule comes to, with the limit on its alerts, which are those of its lineage with this
-- evaluation.
abbrev pub within_alerts : Bool → ℕ → RuleState → ℕ → Result (List RuleElement) RuleFailure → Result (List RuleElement) RuleFailure
within_alerts false limit r now result = result
within_alerts true limit r now result =
    go_on (λ founds. without_place (unless_beyond limit (exceeding limit r.lineage now r.rule.hold r.rule.keep founds) founds)) result

unfoldable pub rule_outcome : Settings → Group → RuleState → List Entry → ℕ → Result (List RuleElement) RuleFailure
rule_outcome s g r history now = within_alerts r.rule.alert g.limit r now (rule_result s g.limit r.rule history now)

-- the lineage with this evaluation
abbrev pub fault_outcome : RuleFault → EvaluationOutcome
fault_outcome (Eval kind) = failed
fault_outcome (SameAfterRule labels) = failed
fault_outcome (LimitExceeded limit have) = exceeded

abbrev pub evaluated : RuleState → ℕ → EvaluationOutcome → List (List Pair) → List Occurrence
evaluated r now outcome wrote = r.lineage ++ evaluation now r.rule.hold r.rule.keep outcome wrote ∷ []

-- What it puts: what is recorded, or what is told of its alerts, which is nothing while its group
-- waits.
abbrev pub recorded : List RuleElement → List (Item Num)
recorded founds = map (λ f. element f.labels f.value) founds

abbrev pub rule_samples_by : Bool → Bool → List RuleElement → List Record → List (Item Num)
rule_samples_by false waits founds alerts = recorded founds
rule_samples_by true true founds alerts = []
rule_samples_by true false founds alerts = samples alerts

abbrev pub rule_samples : Group → RuleState → ℕ → List RuleElement → List (Item Num)
rule_samples g r now founds =
    rule_samples_by r.rule.alert (nat_lt 0 g.waits) founds (records_after r.lineage now r.rule.hold r.rule.keep founds)

abbrev pub sample_entry : ℕ → Item Num → Entry
sample_entry now e = record { labels = e.labels; time = now; point = Value e.value }

abbrev pub put_of : Item Num × Append → Put
put_of p = record { labels = p.0.labels; value = p.0.value; append = p.1 }

-- what a recording rule comes to is not sent
abbrev pub sent_by : Bool → ℕ → List Occurrence → List Sending
sent_by false interval lineage = []
sent_by true interval lineage = sendings interval lineage

-- what the evaluation of a rule comes to: the entries that it puts, in order, what is told of it,
-- and its lineage after it
pub record RuleStep : Type 0 where
  pub entries : List Entry
  pub report : RuleReport
  pub lineage : List Occurrence

-- The samples come first. Those that the series then show are written; a marker follows for each
-- series that was written last time, and now is not.
abbrev pub fine_step : Group → RuleState → ℕ → List RuleElement → List Entry → List (Item Num) → RuleStep
fine_step g r now founds history items =
    let puts = map (sample_entry now) items in
    let wrote = label_sets_of (shown_entries history puts) in
    let gone = markers now (previous r.lineage) wrote in
    let lineage = evaluated r now (came_to founds) wrote in
    record {
      entries = puts ++ gone;
      report = record {
        outcome = Fine;
        samples = map put_of (zip items (admissions history puts));
        stale = label_sets_of (admitted (put_all history puts) gone);
        sent = sent_by r.rule.alert (interval_of g) lineage;
      };
      lineage = lineage;
    }

-- A fault puts nothing, marks nothing and sends nothing, and keeps what was written before.
abbrev pub failed_step : RuleState → ℕ → RuleFailure → RuleStep
failed_step r now f = record {
  entries = [];
  report = record { outcome = Fault f.place f.kind; samples = []; stale = []; sent = [] };
  lineage = evaluated r now (fault_outcome f.kind) [];
}

abbrev pub rule_step_by : Group → RuleState → List Entry → ℕ → Result (List RuleElement) RuleFailure → RuleStep
rule_step_by g r history now (Ok founds) = fine_step g r now founds history (rule_samples g r now founds)
rule_step_by g r history now (Err f) = failed_step r now f

unfoldable pub rule_step : Settings → Group → RuleState → List Entry → ℕ → RuleStep
rule_step s g r history now = rule_step_by g r history now (rule_outcome s g r history now)

-- All rules

-- How far the evaluation has come: the history as it then stands, what was put, what was told, and
-- the rules that were evaluated.
pub record RulesProgress : Type 0 where
  pub history : List Entry
  pub entries : List Entry
  pub reports : List RuleReport
  pub rules : List RuleState

abbrev pub begun : List Entry → RulesProgress
begun history = record { history = history; entries = []; reports = []; rules = [] }

abbrev pub with_lineage : RuleState → List Occurrence → RuleState
with_lineage r lineage = record { rule = r.rule; lineage = lineage }

abbrev pub after_rule : RulesProgress → RuleState → RuleStep → RulesProgress
after_rule p r step = record {
  history = put_all p.history step.entries;
  entries = p.entries ++ step.entries;
  reports = p.reports ++ step.report ∷ [];
  rules = p.rules ++ with_lineage r step.lineage ∷ [];
}

abbrev pub one_rule : Settings → Group → ℕ → RulesProgress → RuleState → RulesProgress
one_rule s g now p r = after_rule p r (rule_step s g r p.history now)

abbrev pub all_rules : Settings → Group → List Entry → ℕ → RulesProgress
all_rules s g history now = fold (one_rule s g now) (begun history) g.rules

-- The end of an evaluation

-- the alerts of a rule that are restored at a time, over the history as it then stands
abbrev pub restored_by : Bool → List Entry → ℕ → RuleState → List Restored
restored_by false history now r = []
restored_by true history now r = restored history r.rule.hold now r.lineage

abbrev pub restores : List Entry → ℕ → RuleState → List Restored
restores history now r = restored_by r.rule.alert history now r

abbrev pub with_restored : List Entry → ℕ → RuleState → RuleState
with_restored history now r = with_lineage r (r.lineage ++ moved (restores history now r) ∷ [])

-- what an evaluation of a group comes to: the group after it, the entries that it puts, in order,
-- and what is told of it
pub record GroupStep : Type 0 where
  pub group : Group
  pub entries : List Entry
  pub report : GroupReport

abbrev pub group_after : Group → ℕ → List RuleState → Group
group_after g now rules = record {
  file = g.file;
  name = g.name;
  interval = g.interval;
  limit = g.limit;
  rules = rules;
  last = Some now;
  waits = pred g.waits;
  leftovers = [];
}

abbrev pub group_ended : Group → List Entry → ℕ → RulesProgress → List Entry → List RuleState → List Restored → GroupStep
group_ended g history now p gone rules alerts = record {
  group = group_after g now rules;
  entries = p.entries ++ gone;
  report = record {
    rules = p.reports;
    leftovers = label_sets_of (admitted p.history gone);
    restored = alerts;
    admitted = admitted history (p.entries ++ gone);
  };
}

-- The restoration follows where the group has no more evaluation to wait for.
abbrev pub restoring : Bool → Group → List Entry → ℕ → RulesProgress → List Entry → GroupStep
restoring false g history now p gone = group_ended g history now p gone p.rules []
restoring true g history now p gone =
    group_ended g history now p gone (map (with_restored (put_all p.history gone) now) p.rules) (flat_map (restores (put_all p.history gone) now) p.rules)

abbrev pub after_rules : Group → List Entry → ℕ → RulesProgress → GroupStep
after_rules g history now p = restoring (g.waits == 1) g history now p (map (marker now) g.leftovers)

-- the evaluation of a group over a history at a time
unfoldable pub group_step : Settings → Group → List Entry → ℕ → GroupStep
group_step s g history now = after_rules g history now (all_rules s g history now)
