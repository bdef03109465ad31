-- What is wrong with a rule, and the rule that a map is.
use Rattle.std.specs.Prelude.{ℕ, Bool, true, false, is_some, List, [], ◌∷◌, ◌++◌, codes, Option, Some, None, unwrap_or, if◌then◌else◌}
use Rattle.std.specs.List.{flat_map}
use Rattle.std.specs.Option.{option_map}
use Rattle.pr_ast.specs.Tree.{Tree as Expression}
use Rattle.pr_labels.specs.declared.pair.Pair.{Pair}
use Rattle.pr_labels.specs.Names.{is_metric_name}
use Rattle.pr_yaml.specs.Tree.{Tree, EntryTree}
use Rattle.pr_rulefile.specs.declared.fields.problem.Problem.{Problem}
use Rattle.pr_rulefile.specs.declared.fields.problem.ProblemKind.TheVariants.{UnknownField, NoName, TwoNames, BadName, NotForRecording}
use Rattle.pr_rulefile.specs.Nodes.{line_of, text_of, fields_of, field, written, text_or_empty, fields_under}
use Rattle.pr_rulefile.specs.Problems.{problem, by_text, by_fields, unless_absent}
use Rattle.pr_rulefile.specs.Scalars.{text_problems, span_problems, span_under}
use Rattle.pr_rulefile.specs.Labels.{labels_problems, put_labels, pairs_of}
use Rattle.pr_rulefile.specs.declared.keys.RuleField.{RuleField}
use Rattle.pr_rulefile.specs.declared.keys.RuleField.TheVariants as kind
use Rattle.pr_rulefile.specs.declared.keys.Naming.{Naming}
use Rattle.pr_rulefile.specs.declared.keys.Naming.TheVariants.{Neither, Record, Alert, Both}
use Rattle.pr_rulefile.specs.Fields.{rule_field}
use Rattle.pr_rulefile.specs.Expressions.{expression_under, expression_problems, tree_found}
use Rattle.spec_rules.specs.Definitions.{Rule, name_key}

-- which of `record` and `alert` a rule has; an empty one is none
abbrev pub naming_by : Bool → Bool → Naming
naming_by false false = Neither
naming_by true false = Record
naming_by false true = Alert
naming_by true true = Both

unfoldable pub naming_of : List EntryTree → Naming
naming_of es = naming_by (is_some (written (codes "record") es)) (is_some (written (codes "alert") es))

abbrev pub is_alert : Naming → Bool
is_alert Alert = true
is_alert Both = true
is_alert _ = false

abbrev pub records_only : Naming → Bool
records_only Record = true
records_only _ = false

abbrev pub naming_problems : ℕ → Naming → List Problem
naming_problems line Neither = problem line NoName ∷ []
naming_problems line Both = problem line TwoNames ∷ []
naming_problems line _ = []

-- What a rule records is a name of a metric. An empty one is none at all.
abbrev pub recorded_problems : ℕ → List ℕ → List Problem
recorded_problems line [] = []
recorded_problems line (b ∷ bs) = if is_metric_name (b ∷ bs) then [] else problem line BadName ∷ []

-- a field of alerts, whose value is not looked at in a rule that records
abbrev pub for_alerts : Naming → EntryTree → List Problem → List Problem
for_alerts naming e wrong = if records_only naming then problem e.line (NotForRecording e.key) ∷ [] else wrong

-- what is wrong with the value of a field that is there; the expression is told with the rule
unfoldable pub rule_value_problems : Naming → EntryTree → RuleField → List Problem
rule_value_problems naming e kind.Record = by_text recorded_problems (line_of e.value) (text_of e.value)
rule_value_problems naming e kind.Alert = text_problems e.value
rule_value_problems naming e kind.Expr = []
rule_value_problems naming e kind.Labels = labels_problems (is_alert naming) e.value
rule_value_problems naming e kind.For = for_alerts naming e (span_problems e.value)
rule_value_problems naming e kind.KeepFiringFor = for_alerts naming e (span_problems e.value)
rule_value_problems naming e kind.Annotations = for_alerts naming e (labels_problems (is_alert naming) e.value)

abbrev pub by_rule_field : Naming → EntryTree → Option RuleField → List Problem
by_rule_field naming e None = problem e.line (UnknownField e.key) ∷ []
by_rule_field naming e (Some f) = unless_absent e.value (rule_value_problems naming e f)

unfoldable pub rule_field_problems : Naming → EntryTree → List Problem
rule_field_problems naming e = by_rule_field naming e (rule_field e.key)

-- What is wrong with a rule that has these fields: with its names, with its expression, and with
-- its fields one after the other.
unfoldable pub rule_in_problems : ℕ → List EntryTree → List Problem
rule_in_problems line es =
    naming_problems line (naming_of es) ++ (expression_problems (expression_under line (written (codes "expr") es)) ++ flat_map (rule_field_problems (naming_of es)) es)

unfoldable pub rule_problems : Tree → List Problem
rule_problems t = by_fields (rule_in_problems (line_of t)) (line_of t) (fields_of t)

-- The labels of the group come first, so those of the rule win.
unfoldable pub rule_labels : List EntryTree → List EntryTree → List Pair
rule_labels group es = pairs_of (put_labels (put_labels [] (fields_under (field (codes "labels") group))) (fields_under (field (codes "labels") es)))

unfoldable pub rule_notes : List EntryTree → List Pair
rule_notes es = pairs_of (put_labels [] (fields_under (field (codes "annotations") es)))

unfoldable pub rule_with : List EntryTree → List EntryTree → Expression → Rule
rule_with group es expr = record {
  name = text_or_empty (written (name_key (is_alert (naming_of es))) es);
  alert = is_alert (naming_of es);
  expr = expr;
  labels = rule_labels group es;
  hold = unwrap_or (span_under (field (codes "for") es)) 0;
  keep = unwrap_or (span_under (field (codes "keep_firing_for") es)) 0;
  notes = rule_notes es;
}

-- The rule that a map of a group with these fields is. A node is none without an expression.
unfoldable pub rule_in : List EntryTree → ℕ → List EntryTree → Option Rule
rule_in group line es = option_map (rule_with group es) (tree_found (expression_under line (written (codes "expr") es)))

abbrev pub rule_by : List EntryTree → ℕ → Option (List EntryTree) → Option Rule
rule_by group line (Some es) = rule_in group line es
rule_by group line None = None

unfoldable pub rule_of : List EntryTree → Tree → Option Rule
rule_of group t = rule_by group (line_of t) (fields_of t)
