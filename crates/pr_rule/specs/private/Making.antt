-- What is remembered of the labels that a rule made of those of the elements of its last result.
use Rattle.std.specs.Prelude.{◌≡◌, ℕ, Bool, true, false, List, [], All, codes, map}
use Rattle.pr_ast.specs.pr_num.declared.value.Num.{Num}
use Rattle.pr_labels.specs.declared.item.Item.{Item}
use Rattle.pr_labels.specs.declared.pair.Pair.{Pair}
use Rattle.pr_labels.specs.Edits.{set_label, union_labels, without_name}
use Rattle.pr_labels.specs.LabelSet.{metric_label}
use Rattle.pr_labels.specs.Rising.{IsRising}
use Rattle.spec_rules.specs.spec_alerts.declared.found.RuleElement.{RuleElement}
use Rattle.spec_rules.specs.Definitions.{Rule}
use Rattle.spec_rules.specs.private.Laws.{FoundsRise}
use Rattle.spec_rules.specs.Results.{made_labels}
use Rattle.pr_rule.specs.declared.rule_result.made.Made.{Made}

-- each was recorded under what a rule of this name and with these labels makes of its labels
abbrev pub AreMade : List ℕ → List Pair → List Made → Type 0
AreMade name labels made = All (λ m. m.to ≡ made_labels name labels m.from) made

-- the label sets that were made, in the order of their places
abbrev pub sets_made : List Made → List (List Pair)
sets_made made = map (λ m. m.to) made

-- All was made by a rule of this name and with these labels. Where that is noted, it rises.
pub record IsRemembered (name : List ℕ) (labels : List Pair) (all : List Made) (rises : Bool) : Type 0 where
  pub made : AreMade name labels all
  pub rise : rises ≡ true → IsRising (sets_made all)

-- What is remembered is of this rule, where it is one that records. Of an alert nothing is said: its
-- labels stand with all that they were made of.
abbrev pub IsOfRule : List ℕ × List Pair → Rule → Type 0
IsOfRule made rule = rule.alert ≡ false → made ≡ (rule.name, rule.labels)

-- The labels of an alert of a rule of this name: what the templates of its labels come to wins over
-- the labels of the element.
abbrev pub alert_made : List ℕ → List Pair → List Pair → List Pair
alert_made name over from = set_label (union_labels (without_name from metric_label) over) (codes "alertname") name

-- what a rule of this name and with these labels records of an element
abbrev pub recorded_under : List ℕ → List Pair → Item Num → RuleElement
recorded_under name labels e = record { labels = made_labels name labels e.labels; notes = []; value = e.value }

-- That is recorded of all elements, and it is in label order.
pub record AreRecorded (name : List ℕ) (labels : List Pair) (items : List (Item Num)) (founds : List RuleElement) : Type 0 where
  pub all : founds ≡ map (recorded_under name labels) items
  pub rise : FoundsRise founds
