-- What a rule comes to at a moment: labels, annotations and values in label order, or a fault.
use Rattle.std.specs.Prelude.{ℕ, Bool, true, false, List, [], ◌∷◌, codes, map, fold, length, Option, Some, None, Result, Ok, Err}
use Rattle.std.specs.declared.cmp.Ordering.{Ordering}
use Rattle.std.specs.declared.cmp.Ordering.TheVariants.{Less, Equal, Greater}
use Rattle.pr_num.specs.declared.value.Num.{Num}
use Rattle.pr_ast.specs.pr_labels.declared.item.Item.{Item}
use Rattle.pr_ast.specs.pr_labels.declared.pair.Pair.{Pair}
use Rattle.pr_ast.specs.pr_labels.Edits.{set_label, union_labels, without_name}
use Rattle.pr_ast.specs.pr_labels.LabelSet.{metric_label, pair_of}
use Rattle.pr_ast.specs.pr_labels.Order.{labels_cmp}
use Rattle.spec_alerts.specs.spec_history.declared.entry.Entry.{Entry}
use Rattle.spec_meaning.specs.spec_vectors.Functions.{least_twice}
use Rattle.spec_meaning.specs.spec_vectors.Vectors.{element}
use Rattle.spec_meaning.specs.declared.fault.Fault.{Fault}
use Rattle.spec_meaning.specs.declared.value.Value.{Value}
use Rattle.spec_meaning.specs.declared.value.Value.TheVariants.{Scalar, Vector}
use Rattle.spec_meaning.specs.Answers.{go_on}
use Rattle.spec_meaning.specs.Meaning.{meaning}
use Rattle.pr_tmpl.specs.declared.template.External.{External}
use Rattle.pr_tmpl.specs.declared.template.Part.{Part}
use Rattle.pr_tmpl.specs.Expansion.{expansion}
use Rattle.pr_tmpl.specs.TemplateReading.{template_parts}
use Rattle.spec_rules.specs.Definitions.{Rule}
use Rattle.spec_alerts.specs.declared.found.RuleElement.{RuleElement}
use Rattle.spec_alerts.specs.Records.{beyond}
use Rattle.spec_rules.specs.declared.fault.RuleFailure.{RuleFailure}
use Rattle.spec_rules.specs.declared.fault.RuleFault.{RuleFault}
use Rattle.spec_rules.specs.declared.fault.RuleFault.TheVariants.{Eval, SameAfterRule, LimitExceeded}
use Rattle.spec_rules.specs.Settings.{Settings}

-- a number is one element without labels
abbrev pub value_elements : Value → List (Item Num)
value_elements (Scalar v) = element [] v ∷ []
value_elements (Vector items) = items

-- Labels

-- What a text comes to as a template, which sees the element as its expression gives it. A text
-- that is none comes to nothing; alerts have none such.
abbrev pub expanded_by : External → Item Num → Option (List Part) → List ℕ
expanded_by external e (Some parts) = expansion e.labels e.value external parts
expanded_by external e None = []

abbrev pub expanded_pair : External → Item Num → Pair → Pair
expanded_pair external e p = pair_of p.name (expanded_by external e (template_parts p.value))

abbrev pub all_expanded : External → Item Num → List Pair → List Pair
all_expanded external e pairs = map (expanded_pair external e) pairs

-- What a rule of this name and with these labels makes of the labels of an element: they get the
-- metric's name, and then the labels of the rule.
abbrev pub made_labels : List ℕ → List Pair → List Pair → List Pair
made_labels name labels from = union_labels (set_label from metric_label name) labels

abbrev pub recorded_labels : Rule → Item Num → List Pair
recorded_labels rule e = made_labels rule.name rule.labels e.labels

-- An alert loses the metric's name, gets the labels of the rule, expanded, and then its own name.
abbrev pub alerting_labels : External → Rule → Item Num → List Pair
alerting_labels external rule e =
    set_label (union_labels (without_name e.labels metric_label) (all_expanded external e rule.labels)) (codes "alertname") rule.name

abbrev pub found_by : External → Rule → Bool → Item Num → RuleElement
found_by external rule false e = record { labels = recorded_labels rule e; notes = []; value = e.value }
found_by external rule true e = record { labels = alerting_labels external rule e; notes = all_expanded external e rule.notes; value = e.value }

abbrev pub found_of : External → Rule → Item Num → RuleElement
found_of external rule e = found_by external rule rule.alert e

-- Order

abbrev pub found_placed : Ordering → RuleElement → RuleElement → List RuleElement → List RuleElement → List RuleElement
found_placed Less f first rest more = f ∷ first ∷ rest
found_placed Equal f first rest more = f ∷ rest
found_placed Greater f first rest more = first ∷ more

abbrev pub with_found : List RuleElement → RuleElement → List RuleElement
with_found [] f = f ∷ []
with_found (first ∷ rest) f = found_placed (labels_cmp f.labels first.labels) f first rest (with_found rest f)

abbrev pub in_found_order : List RuleElement → List RuleElement
in_found_order founds = fold with_found [] founds

abbrev pub sets_in : List RuleElement → List (List Pair)
sets_in founds = map (λ f. f.labels) founds

-- Faults

abbrev pub failure : ℕ → RuleFault → RuleFailure
failure place kind = record { place = place; kind = kind }

-- A fault of the expression has the place of its part; one of the rule has none, which is told as 0.
abbrev pub failed_by : Result Value Fault → Result Value RuleFailure
failed_by (Ok v) = Ok v
failed_by (Err f) = Err (failure f.place.start (Eval f.kind))

abbrev pub without_place : {A : Type 0} → Result A RuleFault → Result A RuleFailure
without_place (Ok a) = Ok a
without_place (Err kind) = Err (failure 0 kind)

-- two elements that have the same labels afterwards, the least such
abbrev pub unless_twice : Option (List Pair) → List RuleElement → Result (List RuleElement) RuleFault
unless_twice None founds = Ok (in_found_order founds)
unless_twice (Some labels) founds = Err (SameAfterRule labels)

abbrev pub founds_apart : List RuleElement → Result (List RuleElement) RuleFault
founds_apart founds = unless_twice (least_twice (sets_in founds)) founds

-- More series, or alerts, than the limit.
abbrev pub unless_beyond : ℕ → Option ℕ → List RuleElement → Result (List RuleElement) RuleFault
unless_beyond limit None founds = Ok founds
unless_beyond limit (Some have) founds = Err (LimitExceeded limit have)

-- What is recorded has no more elements than the limit. Of an alert not the elements are counted,
-- but the alerts that are pending or fire.
abbrev pub within_limit : Bool → ℕ → List RuleElement → Result (List RuleElement) RuleFault
within_limit true limit founds = Ok founds
within_limit false limit founds = unless_beyond limit (beyond limit (length founds)) founds

abbrev pub ruled : External → ℕ → Rule → List (Item Num) → Result (List RuleElement) RuleFault
ruled external limit rule items = go_on (within_limit rule.alert limit) (founds_apart (map (found_of external rule) items))

-- The result of a rule over a history at a moment, in a group with this limit.
abbrev pub rule_result_by : External → ℕ → Rule → Result Value RuleFailure → Result (List RuleElement) RuleFailure
rule_result_by external limit rule given = go_on (λ v. without_place (ruled external limit rule (value_elements v))) given

unfoldable pub rule_result : Settings → ℕ → Rule → List Entry → ℕ → Result (List RuleElement) RuleFailure
rule_result s limit rule history time = rule_result_by s.external limit rule (failed_by (meaning s.subquery_step history rule.expr time))
