-- Small rules to try the definitions on.
use Rattle.std.specs.Prelude.{ℕ, ◌==◌, cond, true, false, List, [], ◌∷◌, codes, map, None, Some}
use Rattle.pr_num.specs.declared.value.Num.{Num}
use Rattle.pr_ast.specs.pr_labels.declared.item.Item.{Item}
use Rattle.pr_ast.specs.pr_labels.declared.pair.Pair.{Pair}
use Rattle.pr_ast.specs.pr_labels.LabelSet.{metric_label, named, pair_of}
use Rattle.pr_ast.specs.declared.names.BinOp.TheVariants as op
use Rattle.pr_ast.specs.declared.names.Func.{Func}
use Rattle.pr_ast.specs.declared.names.Func.TheVariants as func
use Rattle.pr_ast.specs.private.Examples.{chosen, metric, one, whole_number}
use Rattle.pr_ast.specs.private.Places.{nowhere}
use Rattle.pr_ast.specs.Tree.{Tree, binary, call, range, sub}
use Rattle.spec_alerts.specs.spec_history.declared.entry.Entry.{Entry}
use Rattle.spec_alerts.specs.spec_history.private.Examples.{number, whole}
use Rattle.spec_meaning.specs.spec_vectors.Vectors.{element}
use Rattle.spec_rules.specs.Definitions.{Rule}
use Rattle.spec_alerts.specs.Lineage.{came_to}
use Rattle.spec_alerts.specs.Records.{evaluation}
use Rattle.spec_meaning.specs.private.Cost.{PassedFor}
use Rattle.spec_rules.specs.declared.fault.RuleFault.{RuleFault}
use Rattle.spec_rules.specs.declared.report.RuleOutcome.TheVariants.{Fault}
use Rattle.spec_rules.specs.declared.report.RuleReport.{RuleReport}
use Rattle.spec_rules.specs.private.Costs.{PassedByRules}
use Rattle.spec_rules.specs.Evaluations.{group_step}
use Rattle.spec_rules.specs.Groups.{Group, RuleState, fresh, fresh_rule}
use Rattle.spec_rules.specs.Settings.{Settings}

-- a{i="x"} 1, and an alert whose labels are templates
abbrev pub a_1 : Item Num
a_1 = element (pair_of metric_label (codes "a") ∷ pair_of (codes "i") (codes "x") ∷ []) (number 1)

abbrev pub alert : Rule
alert = record {
  name = codes "D";
  alert = true;
  expr = metric (codes "a");
  labels = pair_of (codes "i") (codes "{{ $labels.none }}") ∷ pair_of (codes "m") (codes "{{ $labels.__name__ }}-{{ $labels.i }}") ∷ pair_of (codes "v") (codes "{{ $value }}") ∷ [];
  hold = 0;
  keep = 0;
  notes = [];
}

abbrev pub labels_of_alert : List Pair
labels_of_alert = pair_of (codes "alertname") (codes "D") ∷ pair_of (codes "m") (codes "a-x") ∷ pair_of (codes "v") (codes "1") ∷ []

-- a rule that records r, with labels, and one that was evaluated at a time
abbrev pub recording : List Pair → Rule
recording labels = record { name = codes "r"; alert = false; expr = metric (codes "a"); labels = labels; hold = 0; keep = 0; notes = [] }

abbrev pub rules_apart : List Pair → List Rule
rules_apart labels = recording labels ∷ []

abbrev pub rule_state : ℕ → RuleState
rule_state time = record { rule = recording []; lineage = evaluation time 0 0 (came_to []) (named (codes "r") ∷ []) ∷ [] }

-- calls over ranges of m, their product, and one inside a subquery
abbrev pub over : Func → ℕ → Tree
over f span = call nowhere f (one (range nowhere (chosen (codes "m") [] 0) span))

abbrev pub sum_of : ℕ → Tree
sum_of span = over func.SumOverTime span

abbrev pub rate_of : ℕ → Tree
rate_of span = over func.Rate span

abbrev pub times : Tree → Tree → Tree
times l r = binary nowhere op.Mul false None l r

abbrev pub inside : Tree → Tree
inside t = call nowhere func.MaxOverTime (one (sub nowhere t 3600000 None 0))

-- ten samples of each series were passed for the first range selector
abbrev pub ten_passed : PassedFor
ten_passed k labels = cond (k == 0) 10 0

-- two rules that differ by the name, the second of which records over a range
abbrev pub recording_as : List ℕ → Tree → Rule
recording_as name expr = record { name = name; alert = false; expr = expr; labels = []; hold = 0; keep = 0; notes = [] }

abbrev pub ranges_apart : List RuleState
ranges_apart = map fresh_rule (recording_as (codes "r") (metric (codes "a")) ∷ recording_as (codes "s") (rate_of 60000) ∷ [])

abbrev pub the_second : PassedByRules
the_second i k labels = cond (i == 1) (ten_passed k labels) 0

-- A group of one rule that records s as m, with a label; it wrote another series before, and a
-- reload left one over.
abbrev pub s_of : List ℕ → List Pair
s_of v = pair_of metric_label (codes "s") ∷ pair_of (codes "k") v ∷ []

abbrev pub wrote_before : List (List Pair) → List (List Pair) → Group
wrote_before previous leftovers = record {
  file = codes "r";
  name = codes "g";
  interval = None;
  limit = 0;
  rules = (record {
    rule = record { name = codes "s"; alert = false; expr = metric (codes "m"); labels = pair_of (codes "k") (codes "two") ∷ []; hold = 0; keep = 0; notes = [] };
    lineage = evaluation 0 0 0 (came_to []) previous ∷ [];
  }) ∷ [];
  last = Some 0;
  waits = 0;
  leftovers = leftovers;
}

-- a group of one rule, whose limit is 1, and two series of m
abbrev pub of_limit_1 : List (List Pair) → Group
of_limit_1 previous = record {
  file = codes "r";
  name = codes "g";
  interval = None;
  limit = 1;
  rules = (record { rule = recording_as (codes "s") (metric (codes "m")); lineage = evaluation 0 0 0 (came_to []) previous ∷ [] }) ∷ [];
  last = Some 0;
  waits = 0;
  leftovers = [];
}

abbrev pub two_of_m : List Entry
two_of_m =
    record { labels = pair_of metric_label (codes "m") ∷ pair_of (codes "i") (codes "a") ∷ []; time = 0; point = whole 1 }
    ∷ record { labels = pair_of metric_label (codes "m") ∷ pair_of (codes "i") (codes "b") ∷ []; time = 0; point = whole 1 } ∷ []

abbrev pub failed_report : RuleFault → RuleReport
failed_report kind = record { outcome = Fault 0 kind; samples = []; stale = []; sent = [] }

abbrev pub m_is_1 : List Entry
m_is_1 = record { labels = named (codes "m"); time = 0; point = whole 1 } ∷ []

abbrev pub s_is_1 : Entry
s_is_1 = record { labels = s_of (codes "two"); time = 60000; point = whole 1 }

-- An alert of what is down, for half an hour, in a group that waits for so many evaluations. It was
-- written that the alert is active since 0.
abbrev pub half_an_hour : Rule
half_an_hour = record {
  name = codes "H";
  alert = true;
  expr = binary nowhere op.Equal false None (metric (codes "up")) (whole_number 0);
  labels = [];
  hold = 1800000;
  keep = 0;
  notes = [];
}

abbrev pub waiting : ℕ → Group
waiting waits = fresh waits (codes "r") (record { name = codes "g"; interval = None; limit = 0; rules = half_an_hour ∷ [] })

abbrev pub of_h : List Pair
of_h = pair_of (codes "alertname") (codes "H") ∷ []

abbrev pub down_and_written : List Entry
down_and_written =
    record { labels = pair_of metric_label (codes "ALERTS_FOR_STATE") ∷ of_h; time = 600000; point = whole 0 }
    ∷ record { labels = named (codes "up"); time = 1800000; point = whole 0 } ∷ []

-- what is told of the group that stands after an evaluation
abbrev pub after_one : Settings → Group → List Entry → ℕ → Group
after_one s g history now = (group_step s g history now).group
