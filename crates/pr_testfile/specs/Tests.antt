-- Tests.
use Rattle.std.specs.Prelude.{ℕ, false, List, codes, map, Option, Some, unwrap_or}
use Rattle.std.specs.List.{filter_map}
use Rattle.std.specs.Option.{option_map}
use Rattle.pr_ast.specs.pr_labels.declared.pair.Pair.{Pair}
use Rattle.pr_yaml.specs.Tree.{Tree, EntryTree}
use Rattle.pr_rulefile.specs.declared.fields.problem.Problem.{Problem}
use Rattle.pr_rulefile.specs.Nodes.{fields_of, fields_in, field, text_or_empty, items_under, fields_under}
use Rattle.pr_rulefile.specs.Scalars.{text_problems}
use Rattle.pr_rulefile.specs.Labels.{labels_problems}
use Rattle.pr_rulefile.specs.Maps.{none_missing, map_problems, list_problems}
use Rattle.pr_rulefile.specs.spec_history.declared.entry.Entry.{Entry}
use Rattle.pr_testfile.specs.declared.fields.TestField.{TestField}
use Rattle.pr_testfile.specs.declared.fields.TestField.TheVariants.{Interval, Name, InputSeries, AlertRuleTest, PromqlExprTest, ExternalLabels, ExternalUrl}
use Rattle.pr_testfile.specs.declared.tests.AlertCheck.{AlertCheck}
use Rattle.pr_testfile.specs.declared.tests.Test.{Test}
use Rattle.pr_testfile.specs.Words.{input_series, alert_rule_test, promql_expr_test, external_labels, external_url}
use Rattle.pr_testfile.specs.Fields.{test_field}
use Rattle.pr_testfile.specs.Scalars.{interval_problems, interval_or}
use Rattle.pr_testfile.specs.Labels.{label_set}
use Rattle.pr_testfile.specs.Alerts.{alert_problems, alert_of}
use Rattle.pr_testfile.specs.Checks.{check_problems, PlainCheck, plain_check, check_of}
use Rattle.pr_testfile.specs.Series.{inputs_problems, input_at, entries_of}

-- what is wrong with a test, the values of whose series stand at the multiples of an interval where
-- one is told
abbrev pub test_value_problems : Option ℕ → TestField → Tree → List Problem
test_value_problems interval Interval t = interval_problems t
test_value_problems interval Name t = text_problems t
test_value_problems interval InputSeries t = inputs_problems interval t
test_value_problems interval AlertRuleTest t = list_problems alert_problems t
test_value_problems interval PromqlExprTest t = list_problems check_problems t
test_value_problems interval ExternalLabels t = labels_problems false t
test_value_problems interval ExternalUrl t = text_problems t

abbrev pub test_fields : Option ℕ → List ℕ → Option (Tree → List Problem)
test_fields interval key = option_map (test_value_problems interval) (test_field key)

-- The interval of a test is its own, or else that of its file.
abbrev pub test_interval : Option ℕ → List EntryTree → Option ℕ
test_interval default es = interval_or default (field (codes "interval") es)

unfoldable pub test_problems : Option ℕ → Tree → List Problem
test_problems default t = map_problems none_missing (test_fields (test_interval default (fields_in t))) t

-- A test: its samples, what is checked, and what templates see.
pub record PlainTest : Type 0 where
  pub input : List Entry
  pub alerts : List AlertCheck
  pub exprs : List PlainCheck
  pub external_labels : List Pair
  pub external_url : List ℕ

abbrev pub plain_test : Test → PlainTest
plain_test t = record {
  input = entries_of t.input;
  alerts = t.alerts;
  exprs = map plain_check t.exprs;
  external_labels = t.external.labels;
  external_url = t.external.url;
}

unfoldable pub test_in : ℕ → List EntryTree → PlainTest
test_in default es = record {
  input = entries_of (input_at (unwrap_or (test_interval (Some default) es) default) (items_under (field input_series es)));
  alerts = filter_map alert_of (items_under (field alert_rule_test es));
  exprs = filter_map check_of (items_under (field promql_expr_test es));
  external_labels = label_set (fields_under (field external_labels es));
  external_url = text_or_empty (field external_url es);
}

abbrev pub test_of : ℕ → Tree → Option PlainTest
test_of default t = option_map (test_in default) (fields_of t)
