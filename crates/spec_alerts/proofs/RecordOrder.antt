-- The records of a lineage are in label order.
use Rattle.std.proofs.Common.{◌≡◌, ◌∙◌, ℕ, List, [], ◌∷◌, map, fold, Option, Some, None, refl, sym, ap, subst}
use Rattle.std.specs.List.{cons_option, filter_map}
use Rattle.std.specs.declared.cmp.Ordering.TheVariants.{Less}
use Rattle.spec_history.specs.pr_labels.declared.pair.Pair.{Pair}
use Rattle.spec_history.specs.pr_labels.Order.{labels_cmp}
use Rattle.spec_history.specs.pr_labels.Rising.{IsBelowFirstSet, IsRising}
use Rattle.spec_history.proofs.LabelsLabelOrder.{below_next, rising_fold}
use Rattle.spec_alerts.specs.declared.found.RuleElement.{RuleElement}
use Rattle.spec_alerts.specs.declared.record.Record.{Record}
use Rattle.spec_alerts.specs.declared.record.State.{State}
use Rattle.spec_alerts.specs.Episodes.{Course, course, newest_found, fired_at}
use Rattle.spec_alerts.specs.Lineage.{Occurrence, counted, seen, moved}
use Rattle.spec_alerts.specs.Records.{alert, alert_by, alert_of, records, sent_at, sent_before, state_by, unsent_alert, unsent_records}
use Rattle.spec_alerts.specs.Sights.{Sight, elements, sets_found, sights}

abbrev labels_in : List Record → List (List Pair)
labels_in rs = map (λ r. r.labels) rs

-- an alert has the labels that it is of
abbrev labels_or : List Pair → Option Record → List Pair
labels_or labels None = labels
labels_or labels (Some r) = r.labels

kept_by : (labels : List Pair) (c : Course) (sent : Option ℕ) (f : Option RuleElement) (state : Option State) → labels_or labels (alert_by labels c sent f state) ≡ labels
kept_by labels c sent (Some f) (Some state) = refl
kept_by labels c sent (Some f) None = refl
kept_by labels c sent None state = refl

abbrev KeepsLabels : (List Pair → Option Record) → Type 0
KeepsLabels f = (labels : List Pair) → labels_or labels (f labels) ≡ labels

has_labels : (f : List Pair → Option Record) → KeepsLabels f → (labels : List Pair) (r : Record) → f labels ≡ Some r → r.labels ≡ labels
has_labels f k labels r e = sym (ap (labels_or labels) e) ∙ k labels

-- Of label sets that rise those that have an alert rise.
below : (f : List Pair → Option Record) → KeepsLabels f → (l : List Pair) (sets : List (List Pair)) → IsBelowFirstSet l sets → IsRising sets
    → IsBelowFirstSet l (labels_in (filter_map f sets))
below f k l [] b rising = tt
below f k l (first ∷ rest) b rising = by (f first) refl (below f k l rest (below_next l first rest b rising.0) rising.1) where
  by : (o : Option Record) → f first ≡ o → IsBelowFirstSet l (labels_in (filter_map f rest)) → IsBelowFirstSet l (labels_in (cons_option o (filter_map f rest)))
  by None e h = h
  by (Some r) e h = subst (λ x. labels_cmp l x ≡ Less) (sym (has_labels f k first r e)) b

rise : (f : List Pair → Option Record) → KeepsLabels f → (sets : List (List Pair)) → IsRising sets → IsRising (labels_in (filter_map f sets))
rise f k [] rising = tt
rise f k (first ∷ rest) rising = by (f first) refl (rise f k rest rising.1) where
  by : (o : Option Record) → f first ≡ o → IsRising (labels_in (filter_map f rest)) → IsRising (labels_in (cons_option o (filter_map f rest)))
  by None e h = h
  by (Some r) e h =
      (subst (λ x. IsBelowFirstSet x (labels_in (filter_map f rest))) (sym (has_labels f k first r e)) (below f k first rest rising.0 rising.1), h)

found_rise : (steps : List Occurrence) → IsRising (sets_found steps)
found_rise [] = tt
found_rise (seen e ∷ earlier) = rising_fold (sets_found earlier) (map (λ f. f.labels) (elements e.outcome)) (found_rise earlier)
found_rise (moved alerts ∷ earlier) = found_rise earlier

pub records_rise : (lineage : List Occurrence) → IsRising (map (λ r. r.labels) (records lineage))
records_rise lineage =
    let steps = counted lineage in
    rise (λ labels. alert labels (sights labels steps))
    (λ labels. let c = course (sights labels steps) in kept_by labels c (sent_at (sights labels steps)) (newest_found c.last) (state_by (fired_at c.last) c.after))
    (sets_found steps) (found_rise steps)

pub unsent_rise : (lineage : List Occurrence) → IsRising (map (λ r. r.labels) (unsent_records lineage))
unsent_rise lineage =
    let steps = counted lineage in
    rise (λ labels. unsent_alert labels (sights labels steps))
    (λ labels. let c = course (sights labels steps) in kept_by labels c (sent_before (sights labels steps)) (newest_found c.last) (state_by (fired_at c.last) c.after))
    (sets_found steps) (found_rise steps)
