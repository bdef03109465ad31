-- Checks of alerts, and the alerts that are expected.
use Rattle.std.specs.Prelude.{ℕ, Bool, false, List, ◌++◌, codes, Option, unwrap_or}
use Rattle.std.specs.List.{filter_map}
use Rattle.std.specs.Option.{option_map}
use Rattle.std.specs.Ordering.{is_lt, ordering_then}
use Rattle.pr_num.specs.declared.value.Num.TheVariants.{NaN}
use Rattle.pr_ast.specs.pr_labels.Edits.{set_label}
use Rattle.pr_ast.specs.pr_labels.Order.{labels_cmp}
use Rattle.pr_yaml.specs.Tree.{Tree, EntryTree}
use Rattle.pr_rulefile.specs.declared.fields.problem.Problem.{Problem}
use Rattle.pr_rulefile.specs.Nodes.{fields_of, field, text_or_empty, items_under, fields_under}
use Rattle.pr_rulefile.specs.Scalars.{text_problems, span_problems, span_under}
use Rattle.pr_rulefile.specs.Labels.{labels_problems}
use Rattle.pr_rulefile.specs.Maps.{required, none_missing, map_problems, list_problems}
use Rattle.pr_rulefile.specs.Order.{ordered}
use Rattle.pr_rulefile.specs.spec_alerts.declared.found.RuleElement.{RuleElement}
use Rattle.pr_testfile.specs.declared.fields.ExpectedField.{ExpectedField}
use Rattle.pr_testfile.specs.declared.fields.ExpectedField.TheVariants.{ExpLabels, ExpAnnotations}
use Rattle.pr_testfile.specs.declared.fields.AlertField.{AlertField}
use Rattle.pr_testfile.specs.declared.fields.AlertField.TheVariants.{EvalTime, AlertName, ExpAlerts}
use Rattle.pr_testfile.specs.declared.tests.AlertCheck.{AlertCheck}
use Rattle.pr_testfile.specs.Words.{exp_annotations}
use Rattle.pr_testfile.specs.Fields.{expected_field, alert_field}
use Rattle.pr_testfile.specs.Labels.{label_set, notes_of}

-- what is wrong with an alert that is expected
abbrev pub expected_value_problems : ExpectedField → Tree → List Problem
expected_value_problems ExpLabels t = labels_problems false t
expected_value_problems ExpAnnotations t = labels_problems false t

abbrev pub expected_fields : List ℕ → Option (Tree → List Problem)
expected_fields key = option_map expected_value_problems (expected_field key)

abbrev pub expected_problems : Tree → List Problem
expected_problems = map_problems none_missing expected_fields

-- What is wrong with a check: its time and the name of the alerts have to be there.
abbrev pub alert_missing : ℕ → List EntryTree → List Problem
alert_missing line es = required line (codes "eval_time") (field (codes "eval_time") es) ++ required line (codes "alertname") (field (codes "alertname") es)

abbrev pub alert_value_problems : AlertField → Tree → List Problem
alert_value_problems EvalTime t = span_problems t
alert_value_problems AlertName t = text_problems t
alert_value_problems ExpAlerts t = list_problems expected_problems t

abbrev pub alert_fields : List ℕ → Option (Tree → List Problem)
alert_fields key = option_map alert_value_problems (alert_field key)

abbrev pub alert_problems : Tree → List Problem
alert_problems = map_problems alert_missing alert_fields

-- An alert that is expected. Its name is that of the check.
unfoldable pub found_in : List ℕ → List EntryTree → RuleElement
found_in name es = record {
  labels = set_label (label_set (fields_under (field (codes "exp_labels") es))) (codes "alertname") name;
  notes = notes_of (fields_under (field exp_annotations es));
  value = NaN;
}

abbrev pub found_of : List ℕ → Tree → Option RuleElement
found_of name t = option_map (found_in name) (fields_of t)

-- alerts in label order, and those of equal labels in order of their annotations
abbrev pub is_found_before : RuleElement → RuleElement → Bool
is_found_before a b = is_lt (ordering_then (labels_cmp a.labels b.labels) (labels_cmp a.notes b.notes))

unfoldable pub founds_of : List ℕ → List Tree → List RuleElement
founds_of name ts = ordered is_found_before (filter_map (found_of name) ts)

-- when a check is made
abbrev pub time_under : List EntryTree → ℕ
time_under es = unwrap_or (span_under (field (codes "eval_time") es)) 0

unfoldable pub alert_in : List EntryTree → AlertCheck
alert_in es = record {
  time = time_under es;
  name = text_or_empty (field (codes "alertname") es);
  expected = founds_of (text_or_empty (field (codes "alertname") es)) (items_under (field (codes "exp_alerts") es));
}

abbrev pub alert_of : Tree → Option AlertCheck
alert_of t = option_map alert_in (fields_of t)
