-- What is remembered of a rule holds of one that is the same.
use Rattle.std.proofs.Common.{◌≡◌, ℕ, ◌<◌, true, List, length, get_or, sym, ap, ◌∙◌, subst}
use Rattle.std.specs.Str.{bytes_eq}
use Rattle.std.specs.Cmp.Lexicographic.{bytes_decides}
use Rattle.std.proofs.lemmas.List.Elements.{All-get_or}
use Rattle.pr_ast.specs.pr_num.declared.value.Num.{Num}
use Rattle.pr_labels.specs.declared.item.Item.{Item}
use Rattle.pr_labels.specs.declared.pair.Pair.{Pair}
use Rattle.pr_labels.specs.Order.{labels_eq}
use Rattle.pr_labels.proofs.LabelOrder.{labels_decide}
use Rattle.spec_rules.specs.Definitions.{Rule}
use Rattle.spec_rules.specs.Results.{made_labels, recorded_labels}
use Rattle.pr_rule.specs.declared.rule_result.made.Made.{Made}
use Rattle.pr_rule.specs.private.Making.{AreMade, alert_made}

-- what was made of labels that are the same
pub known_made : (name : List ℕ) (labels : List Pair) (made : List Made) (place : ℕ) (one : Made) (from : List Pair) → AreMade name labels made → place < length made → one ≡ get_or made place one
    → labels_eq one.from from ≡ true → one.to ≡ made_labels name labels from
known_made name labels made place one from h within is same =
    subst (λ (m : Made). m.to ≡ made_labels name labels m.from) (sym is) (All-get_or (λ (m : Made). m.to ≡ made_labels name labels m.from) made place one within h)
    ∙ ap (made_labels name labels) ((labels_decide one.from from).0 same)

-- a rule of the same name and with the same labels
pub same_rule : (name other : List ℕ) (labels others left right : List Pair) → bytes_eq name other ≡ true → left ≡ labels → right ≡ others → labels_eq left right ≡ true
    → ◌≡◌ {A = List ℕ × List Pair} (name, labels) (other, others)
same_rule name other labels others left right named from to same = λ i. ((bytes_decides name other).0 named i, (sym from ∙ (labels_decide left right).0 same ∙ to) i)

-- what is made for a rule is what it records
pub recorded_so : (rule : Rule) (e : Item Num) (made : List ℕ × List Pair) (to : List Pair) → to ≡ made_labels made.0 made.1 e.labels → made ≡ (rule.name, rule.labels)
    → to ≡ recorded_labels rule e
recorded_so rule e made to is h = is ∙ ap (λ (s : List ℕ × List Pair). made_labels s.0 s.1 e.labels) h

-- the labels of an alert of the same name, made of the same
pub same_alert : (name other : List ℕ) (over others from origin to : List Pair) → bytes_eq name other ≡ true → labels_eq over others ≡ true → labels_eq from origin ≡ true → to ≡ alert_made name over from
    → to ≡ alert_made other others origin
same_alert name other over others from origin to named pairs labels is =
    is ∙ (λ i. alert_made ((bytes_decides name other).0 named i) ((labels_decide over others).0 pairs i) ((labels_decide from origin).0 labels i))
