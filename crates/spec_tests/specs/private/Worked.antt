-- Small test files, as their texts give them, to try the definitions on.
use Rattle.std.specs.Prelude.{ℕ, true, false, List, [], ◌∷◌, codes, map, None}
use Rattle.pr_num.specs.declared.value.Num.{Num}
use Rattle.pr_num.specs.declared.value.Point.TheVariants.{Value}
use Rattle.pr_ast.specs.pr_labels.declared.item.Item.{Item}
use Rattle.pr_ast.specs.pr_labels.declared.pair.Pair.{Pair}
use Rattle.pr_ast.specs.pr_labels.LabelSet.{metric_label, named, pair_of}
use Rattle.spec_world.specs.spec_history.declared.entry.Entry.{Entry}
use Rattle.spec_world.specs.spec_history.private.Examples.{number, whole}
use Rattle.pr_ast.specs.declared.names.BinOp.TheVariants as op
use Rattle.pr_ast.specs.private.Examples.{metric, whole_number}
use Rattle.pr_ast.specs.private.Places.{nowhere}
use Rattle.pr_ast.specs.Tree.{binary}
use Rattle.spec_world.specs.spec_rules.Definitions.{Group as Definition, Rule}
use Rattle.spec_world.specs.spec_alerts.declared.found.RuleElement.{RuleElement}
use Rattle.pr_num.specs.declared.value.Num.TheVariants.{NaN}
use Rattle.spec_world.specs.spec_rules.Groups.{Group}
use Rattle.spec_world.specs.spec_rules.Reloads.{LoadedFile}
use Rattle.pr_testfile.specs.declared.inputs.stretch.Stretch.{Stretch}
use Rattle.pr_testfile.specs.declared.inputs.stretch.Stretch.TheVariants.{Steps}
use Rattle.pr_testfile.specs.Checks.{PlainCheck}
use Rattle.pr_testfile.specs.Series.{entries_of}
use Rattle.pr_testfile.specs.Tests.{PlainTest}
use Rattle.pr_testfile.specs.File.{PlainFile}
use Rattle.spec_tests.specs.declared.failure.Shown.TheVariants.{Alerts, Samples}
use Rattle.spec_tests.specs.declared.failure.Failure.{Failure}

-- x has a value, and is expected to have a value

abbrev pub x_item : Num → Item Num
x_item v = record { labels = named (codes "x"); value = v }

abbrev pub x_entry : Num → Entry
x_entry v = record { labels = named (codes "x"); time = 0; point = Value v }

abbrev pub x_check : Num → PlainCheck
x_check expected = record { time = 0; text = codes "x"; expr = metric (codes "x"); expected = x_item expected ∷ [] }

abbrev pub x_test : Num → Num → PlainTest
x_test v expected = record {
  input = x_entry v ∷ [];
  alerts = [];
  exprs = x_check expected ∷ [];
  external_labels = pair_of (codes "cluster") (codes "c1") ∷ [];
  external_url = codes "http://x";
}

abbrev pub x_file : Num → Num → PlainFile
x_file v expected = record { rule_files = []; interval = 60000; order = []; tests = x_test v expected ∷ [] }

-- the check that fails where x has another value
abbrev pub x_failure : Num → Num → Failure
x_failure v expected = record { test = 1; check = 1; expected = Samples (x_item expected ∷ []); got = Samples (x_item v ∷ []) }

-- Instances that are down for five minutes

abbrev pub down_rule : Rule
down_rule = record {
  name = codes "InstanceDown";
  alert = true;
  expr = binary nowhere op.Equal false None (metric (codes "up")) (whole_number 0);
  labels = pair_of (codes "severity") (codes "page") ∷ [];
  hold = 300000;
  keep = 0;
  notes = pair_of (codes "summary") (codes "Instance {{ $labels.instance }} down") ∷ [];
}

abbrev pub down_file : LoadedFile
down_file = record { name = codes "alerts.yml"; groups = record { name = codes "example"; interval = None; limit = 0; rules = down_rule ∷ [] } ∷ [] }

abbrev pub at_of : List ℕ → List ℕ → List Pair
at_of instance job = pair_of (codes "instance") instance ∷ pair_of (codes "job") job ∷ []

abbrev pub up_of : List ℕ → List ℕ → List Pair
up_of instance job = pair_of metric_label (codes "up") ∷ at_of instance job

abbrev pub same_for : ℕ → ℕ → Stretch
same_for v more = Steps (number v) (number 0) more

-- one is down for fourteen minutes, and the other one from the seventh minute on
abbrev pub up_input : List Entry
up_input = entries_of (record {
  interval = 60000;
  series =
      record { labels = up_of (codes "localhost:9090") (codes "prometheus"); values = same_for 0 14 ∷ [] }
      ∷ record { labels = up_of (codes "localhost:9100") (codes "node_exporter"); values = same_for 1 6 ∷ same_for 0 7 ∷ [] } ∷ [];
})

-- the alert that is expected
abbrev pub down_found : RuleElement
down_found = record {
  labels = pair_of (codes "alertname") (codes "InstanceDown") ∷ pair_of (codes "instance") (codes "localhost:9090") ∷ pair_of (codes "job") (codes "prometheus") ∷ pair_of (codes "severity") (codes "page") ∷ [];
  notes = pair_of (codes "summary") (codes "Instance localhost:9090 down") ∷ [];
  value = NaN;
}

abbrev pub up_check : PlainCheck
up_check = record {
  time = 240000;
  text = codes "up > 0";
  expr = binary nowhere op.Greater false None (metric (codes "up")) (whole_number 0);
  expected = record { labels = up_of (codes "localhost:9100") (codes "node_exporter"); value = number 1 } ∷ [];
}

abbrev pub down_test : ℕ → PlainTest
down_test time = record {
  input = up_input;
  alerts = record { time = time; name = codes "InstanceDown"; expected = down_found ∷ [] } ∷ [];
  exprs = up_check ∷ [];
  external_labels = [];
  external_url = [];
}

-- the tests of that rule, where the alert is expected at a time
abbrev pub down_tests : ℕ → PlainFile
down_tests time = record { rule_files = codes "alerts.yml" ∷ []; interval = 60000; order = []; tests = down_test time ∷ [] }

-- the check that fails where the alert is pending or not there
abbrev pub down_failure : Failure
down_failure = record { test = 1; check = 1; expected = Alerts (down_found ∷ []); got = Alerts [] }

-- Groups of a file, by their names

abbrev pub group_named : List ℕ → Definition
group_named name = record { name = name; interval = None; limit = 0; rules = [] }

abbrev pub three_groups : LoadedFile
three_groups = record { name = codes "r.yml"; groups = group_named (codes "a") ∷ group_named (codes "b") ∷ group_named (codes "c") ∷ [] }

abbrev pub names_of : List Group → List (List ℕ)
names_of groups = map (λ g. g.name) groups

-- x has two values, and is checked at these times

abbrev pub checked_at : ℕ → PlainCheck
checked_at time = record { time = time; text = codes "x"; expr = metric (codes "x"); expected = [] }

abbrev pub bare_test : List ℕ → PlainTest
bare_test times = record {
  input = record { labels = named (codes "x"); time = 0; point = whole 1 } ∷ record { labels = named (codes "x"); time = 60000; point = whole 2 } ∷ [];
  alerts = [];
  exprs = map checked_at times;
  external_labels = [];
  external_url = [];
}

-- An alert with an annotation, and the same with another one

abbrev pub noted : List ℕ → RuleElement
noted summary = record { labels = pair_of (codes "alertname") (codes "A") ∷ []; notes = pair_of (codes "summary") summary ∷ []; value = NaN }

-- Alerts of two rules of one name, of which the first one has a label more

abbrev pub worse : List Pair
worse = pair_of (codes "severity") (codes "worse") ∷ []

abbrev pub now_rule : List Pair → Rule
now_rule labels = record { name = codes "Now"; alert = true; expr = metric (codes "x"); labels = labels; hold = 0; keep = 0; notes = [] }

abbrev pub now_file : LoadedFile
now_file = record { name = codes "now.yml"; groups = record { name = codes "g"; interval = None; limit = 0; rules = now_rule worse ∷ now_rule [] ∷ [] } ∷ [] }

abbrev pub now_found : List Pair → RuleElement
now_found more = record { labels = pair_of (codes "alertname") (codes "Now") ∷ more; notes = []; value = NaN }

abbrev pub now_test : PlainTest
now_test = record {
  input = x_entry (number 1) ∷ [];
  alerts = record { time = 0; name = codes "Now"; expected = now_found [] ∷ now_found worse ∷ [] } ∷ [];
  exprs = [];
  external_labels = [];
  external_url = [];
}

abbrev pub now_tests : PlainFile
now_tests = record { rule_files = codes "now.yml" ∷ []; interval = 60000; order = []; tests = now_test ∷ [] }
