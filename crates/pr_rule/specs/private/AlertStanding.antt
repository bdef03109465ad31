-- What records stand for.
use Rattle.std.specs.Prelude.{◌≡◌, ℕ, false, ◌||◌, ◌==◌, cond, nat_le, List, [], map, find, Option, Some}
use Rattle.pr_labels.specs.declared.pair.Pair.{Pair}
use Rattle.pr_labels.specs.Order.{labels_eq}
use Rattle.pr_labels.specs.Rising.{IsRising}
use Rattle.pr_rule.specs.declared.alert.fault.AlertFault.{AlertFault}
use Rattle.pr_rule.specs.declared.alert.fault.AlertFault.TheVariants.{LimitExceeded, Memory}
use Rattle.spec_rules.specs.spec_alerts.declared.found.RuleElement.{RuleElement}
use Rattle.spec_rules.specs.spec_alerts.declared.record.Record.{Record}
use Rattle.spec_rules.specs.spec_alerts.Lineage.{Occurrence, counted}
use Rattle.spec_rules.specs.spec_alerts.Records.{alert, is_due, living_count, unsent_alert}
use Rattle.spec_rules.specs.spec_alerts.Sights.{sights}

abbrev pub record_at : List Pair → List Record → Option Record
record_at labels rs = find (λ r. labels_eq labels r.labels) rs

abbrev pub sets_of : List Record → List (List Pair)
sets_of rs = map (λ r. r.labels) rs

abbrev pub sets_in : List RuleElement → List (List Pair)
sets_in fs = map (λ f. f.labels) fs

-- The records are in label order, and the record of each label set is its alert by the lineage.
pub record StandsFor (rs : List Record) (lineage : List Occurrence) : Type 0 where
  pub rising : IsRising (sets_of rs)
  pub each : (labels : List Pair) → record_at labels rs ≡ alert labels (sights labels (counted lineage))

-- The same before anything is sent at the last evaluation.
pub record StandsUnsent (rs : List Record) (lineage : List Occurrence) : Type 0 where
  pub rising : IsRising (sets_of rs)
  pub each : (labels : List Pair) → record_at labels rs ≡ unsent_alert labels (sights labels (counted lineage))

-- a record whose alert was sent
abbrev pub marked : ℕ → Record → Record
marked now r = record {
  labels = r.labels;
  notes = r.notes;
  state = r.state;
  active = r.active;
  fired = r.fired;
  resolved = r.resolved;
  sent = Some now;
  held = r.held;
  value = r.value;
}

-- why an evaluation is refused that would leave these records, and what stands then
abbrev pub Refuses : AlertFault → ℕ → List Record → List Record → List Record → Type 0
Refuses (LimitExceeded allowed have) limit after old new =
    (allowed ≡ limit) × (have ≡ living_count after) × ((limit == 0 || nat_le have limit) ≡ false) × (new ≡ [])
Refuses Memory limit after old new = new ≡ old

abbrev pub marked_if : ℕ → Record → Record
marked_if now r = cond (is_due now r) (marked now r) r

-- the same, by how many alerts there would be by the lineage, where they are more than the limit
abbrev pub Exceeds : AlertFault → ℕ → Option ℕ → List Record → Type 0
Exceeds (LimitExceeded allowed have) limit more new = (allowed ≡ limit) × (more ≡ Some have) × (new ≡ [])
Exceeds Memory limit more new = Unit {0}
