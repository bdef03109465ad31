-- Words of laws and examples, which nothing of the promise names.
use Rattle.std.specs.Prelude.{◌≡◌, ℕ, ◌+◌, ◌≤◌, false, List, [], ◌∷◌, length, Option, Some, None}
use Rattle.std.specs.List.{AllByRecursion}
use Rattle.spec_alerts.specs.Receivers.{Receiver, most_waiting, most_receivers, is_known}
use Rattle.spec_alerts.specs.declared.found.RuleElement.{RuleElement}
use Rattle.spec_alerts.specs.Lineage.{EvaluationOutcome, came_to, exceeded, Occurrence, moved}
use Rattle.spec_alerts.specs.Records.{exceeding}
use Rattle.spec_history.specs.declared.entry.Entry.{Entry}
use Rattle.spec_alerts.specs.Restoring.{restored}

-- the place lies in the stream, and not too many notices wait behind it
pub record IsInStream (r : Receiver) : Type 0 where
  pub within : r.next ≤ length r.stream
  pub waiting : length r.stream ≤ r.next + most_waiting

-- no name stands twice
abbrev pub NamesDiffer : List Receiver → Type 0
NamesDiffer [] = Unit {0}
NamesDiffer (r ∷ rs) = (is_known r.name rs ≡ false) × NamesDiffer rs

pub record AreReceivers (rs : List Receiver) : Type 0 where
  pub places : AllByRecursion IsInStream rs
  pub differ : NamesDiffer rs
  pub few : length rs ≤ most_receivers

abbrev pub outcome_by : Option ℕ → List RuleElement → EvaluationOutcome
outcome_by None found = came_to found
outcome_by (Some have) found = exceeded

-- what an alerting rule comes to whose expression gives these elements
abbrev pub alerting_outcome : ℕ → List Occurrence → ℕ → ℕ → ℕ → List RuleElement → EvaluationOutcome
alerting_outcome limit lineage time hold keep found = outcome_by (exceeding limit lineage time hold keep found) found

-- the lineage after that
abbrev pub restored_entry : List Entry → ℕ → ℕ → List Occurrence → Occurrence
restored_entry history hold now lineage = moved (restored history hold now lineage)
