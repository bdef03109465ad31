-- The names of the fields of each map.
use Rattle.std.specs.Prelude.{ℕ, List, codes, Option, Some, None, if◌then◌else◌}
use Rattle.std.specs.Str.{bytes_eq}
use Rattle.pr_testfile.specs.declared.fields.FileField.{FileField}
use Rattle.pr_testfile.specs.declared.fields.FileField.TheVariants as file
use Rattle.pr_testfile.specs.declared.fields.TestField.{TestField}
use Rattle.pr_testfile.specs.declared.fields.TestField.TheVariants as test
use Rattle.pr_testfile.specs.declared.fields.SeriesField.{SeriesField}
use Rattle.pr_testfile.specs.declared.fields.SeriesField.TheVariants as series
use Rattle.pr_testfile.specs.declared.fields.AlertField.{AlertField}
use Rattle.pr_testfile.specs.declared.fields.AlertField.TheVariants as alert
use Rattle.pr_testfile.specs.declared.fields.ExpectedField.{ExpectedField}
use Rattle.pr_testfile.specs.declared.fields.ExpectedField.TheVariants as expected
use Rattle.pr_testfile.specs.declared.fields.CheckField.{CheckField}
use Rattle.pr_testfile.specs.declared.fields.CheckField.TheVariants as check
use Rattle.pr_testfile.specs.declared.fields.SampleField.{SampleField}
use Rattle.pr_testfile.specs.declared.fields.SampleField.TheVariants as sample
use Rattle.pr_testfile.specs.Words.{evaluation_interval, group_eval_order, fuzzy_compare, input_series, alert_rule_test, promql_expr_test, external_labels, external_url, exp_annotations}

abbrev pub file_field : List ℕ → Option FileField
file_field key =
    if bytes_eq key (codes "rule_files") then Some file.RuleFiles else
    (if bytes_eq key evaluation_interval then Some file.EvaluationInterval else
    (if bytes_eq key group_eval_order then Some file.GroupEvalOrder else
    (if bytes_eq key fuzzy_compare then Some file.FuzzyCompare else
    (if bytes_eq key (codes "tests") then Some file.Tests else None))))

abbrev pub test_field : List ℕ → Option TestField
test_field key =
    if bytes_eq key (codes "interval") then Some test.Interval else
    (if bytes_eq key (codes "name") then Some test.Name else
    (if bytes_eq key input_series then Some test.InputSeries else
    (if bytes_eq key alert_rule_test then Some test.AlertRuleTest else
    (if bytes_eq key promql_expr_test then Some test.PromqlExprTest else
    (if bytes_eq key external_labels then Some test.ExternalLabels else
    (if bytes_eq key external_url then Some test.ExternalUrl else None))))))

abbrev pub series_field : List ℕ → Option SeriesField
series_field key =
    if bytes_eq key (codes "series") then Some series.Series else
    (if bytes_eq key (codes "values") then Some series.Values else None)

abbrev pub alert_field : List ℕ → Option AlertField
alert_field key =
    if bytes_eq key (codes "eval_time") then Some alert.EvalTime else
    (if bytes_eq key (codes "alertname") then Some alert.AlertName else
    (if bytes_eq key (codes "exp_alerts") then Some alert.ExpAlerts else None))

abbrev pub expected_field : List ℕ → Option ExpectedField
expected_field key =
    if bytes_eq key (codes "exp_labels") then Some expected.ExpLabels else
    (if bytes_eq key exp_annotations then Some expected.ExpAnnotations else None)

abbrev pub check_field : List ℕ → Option CheckField
check_field key =
    if bytes_eq key (codes "expr") then Some check.Expr else
    (if bytes_eq key (codes "eval_time") then Some check.EvalTime else
    (if bytes_eq key (codes "exp_samples") then Some check.ExpSamples else None))

abbrev pub sample_field : List ℕ → Option SampleField
sample_field key =
    if bytes_eq key (codes "labels") then Some sample.Labels else
    (if bytes_eq key (codes "value") then Some sample.Value else None)
