-- The checks of a test file whose expectation differs.
use Rattle.std.specs.Prelude.{ℕ, Bool, true, false, ◌&&◌, cond, List, [], ◌∷◌, ◌++◌, map, filter, flat_map, Result, Ok, Err}
use Rattle.std.specs.List.{enumerate_from}
use Rattle.std.specs.Str.{bytes_eq}
use Rattle.std.specs.Cmp.Lexicographic.{pointwise}
use Rattle.pr_num.specs.declared.value.Num.{Num}
use Rattle.pr_num.specs.Same.{same_num}
use Rattle.pr_ast.specs.pr_labels.declared.item.Item.{Item}
use Rattle.pr_ast.specs.pr_labels.Order.{labels_eq}
use Rattle.pr_testfile.specs.pr_rulefile.Order.{ordered}
use Rattle.spec_world.specs.spec_meaning.declared.fault.Fault.{Fault}
use Rattle.spec_world.specs.spec_meaning.declared.value.Value.{Value}
use Rattle.spec_world.specs.spec_meaning.Meaning.{meaning}
use Rattle.spec_world.specs.spec_alerts.declared.found.RuleElement.{RuleElement}
use Rattle.spec_world.specs.spec_alerts.declared.record.Record.{Record}
use Rattle.spec_world.specs.spec_alerts.Records.{is_firing, records}
use Rattle.spec_world.specs.spec_rules.Groups.{Group, RuleState}
use Rattle.spec_world.specs.spec_rules.Reloads.{LoadedFile}
use Rattle.spec_world.specs.spec_rules.Replays.{unwaiting_groups}
use Rattle.spec_world.specs.spec_rules.Results.{value_elements}
use Rattle.spec_world.specs.World.{World}
use Rattle.pr_testfile.specs.declared.tests.AlertCheck.{AlertCheck}
use Rattle.pr_testfile.specs.Alerts.{is_found_before}
use Rattle.pr_testfile.specs.Checks.{PlainCheck}
use Rattle.pr_testfile.specs.Tests.{PlainTest}
use Rattle.pr_testfile.specs.File.{PlainFile}
use Rattle.spec_tests.specs.declared.failure.Shown.{Shown}
use Rattle.spec_tests.specs.declared.failure.Shown.TheVariants as shown
use Rattle.spec_tests.specs.declared.failure.Failure.{Failure}
use Rattle.spec_tests.specs.Events.{by_names, world_at}

-- Alerts

abbrev pub found_of : Record → RuleElement
found_of r = record { labels = r.labels; notes = r.notes; value = r.value }

-- the alerts of a rule that fire, where it is an alerting rule of that name
abbrev pub firing_by : Bool → RuleState → List RuleElement
firing_by true r = map found_of (filter (λ a. is_firing a.state) (records r.lineage))
firing_by false r = []

abbrev pub firing_of : List ℕ → RuleState → List RuleElement
firing_of name r = firing_by (r.rule.alert && bytes_eq r.rule.name name) r

-- those of all rules of that name, in the order of expectations
abbrev pub firing : List ℕ → World → List RuleElement
firing name w = ordered is_found_before (flat_map (λ g. flat_map (firing_of name) g.rules) w.groups)

-- Alerts are alike by their labels and annotations, whatever their values.
abbrev pub same_found : RuleElement → RuleElement → Bool
same_found a b = labels_eq a.labels b.labels && labels_eq a.notes b.notes

-- Expressions

abbrev pub same_item : Item Num → Item Num → Bool
same_item a b = labels_eq a.labels b.labels && same_num a.value b.value

-- a number is one sample without labels
abbrev pub given_by : Result Value Fault → Shown
given_by (Ok v) = shown.Samples (value_elements v)
given_by (Err f) = shown.Fault f.place f.kind

-- A fault differs from all that can be expected.
abbrev pub meets : List (Item Num) → Shown → Bool
meets expected (shown.Samples list) = pointwise same_item expected list
meets expected (shown.Alerts list) = false
meets expected (shown.Fault place kind) = false

-- Checks

abbrev pub failure : ℕ → ℕ → Shown → Shown → Failure
failure test check expected got = record { test = test; check = check; expected = expected; got = got }

abbrev pub alert_failure : ℕ → ℕ → List RuleElement → List RuleElement → List Failure
alert_failure test check expected got =
    cond (pointwise same_found expected got) [] (failure test check (shown.Alerts expected) (shown.Alerts got) ∷ [])

abbrev pub expr_failure : ℕ → ℕ → List (Item Num) → Shown → List Failure
expr_failure test check expected got = cond (meets expected got) [] (failure test check (shown.Samples expected) got ∷ [])

abbrev pub alert_check : ℕ → List Group → ℕ → PlainTest → ℕ × AlertCheck → List Failure
alert_check interval groups test t c =
    alert_failure test c.0 c.1.expected (firing c.1.name (world_at interval groups t c.1.time))

abbrev pub expr_check : ℕ → List Group → ℕ → PlainTest → ℕ × PlainCheck → List Failure
expr_check interval groups test t c =
    expr_failure test c.0 c.1.expected (given_by (meaning interval (world_at interval groups t c.1.time).history c.1.expr c.1.time))

-- Tests: first the checks of alerts and then those of expressions, each counted from 1.
unfoldable pub test_verdict : ℕ → List Group → ℕ × PlainTest → List Failure
test_verdict interval groups t =
    flat_map (alert_check interval groups t.0 t.1) (enumerate_from 1 t.1.alerts)
    ++ flat_map (expr_check interval groups t.0 t.1) (enumerate_from 1 t.1.exprs)

-- The checks of a file whose expectation differs from what happens, test by test, over the groups
-- of its rule files. Each test begins with nothing.
unfoldable pub verdict : PlainFile → List LoadedFile → List Failure
verdict f files = flat_map (test_verdict f.interval (by_names f.order (unwaiting_groups files))) (enumerate_from 1 f.tests)
