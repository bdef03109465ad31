-- Small lineages to try the definitions on.
use Rattle.std.specs.Prelude.{ℕ, true, false, List, [], ◌∷◌, ◌++◌, codes, Option, Some, None}
use Rattle.pr_num.specs.declared.value.Point.{Point}
use Rattle.spec_history.specs.pr_labels.declared.pair.Pair.{Pair}
use Rattle.spec_history.specs.pr_labels.Edits.{set_label}
use Rattle.spec_history.specs.pr_labels.LabelSet.{metric_label, pair_of}
use Rattle.spec_history.specs.declared.entry.Entry.{Entry}
use Rattle.spec_history.specs.private.Examples.{number}
use Rattle.spec_alerts.specs.declared.found.RuleElement.{RuleElement}
use Rattle.spec_alerts.specs.declared.record.Record.{Record}
use Rattle.spec_alerts.specs.declared.record.State.TheVariants.{Pending, Firing, Resolved}
use Rattle.spec_alerts.specs.declared.sending.Sending.{Sending}
use Rattle.spec_alerts.specs.Lineage.{Occurrence, came_to, failed}
use Rattle.spec_alerts.specs.private.Laws.{alerting_outcome}
use Rattle.spec_alerts.specs.Records.{evaluation, for_state_labels}

-- the alert D, and the alerts D of two instances
abbrev pub d : List Pair
d = pair_of (codes "alertname") (codes "D") ∷ []

abbrev pub d_of : List ℕ → List Pair
d_of instance = pair_of (codes "alertname") (codes "D") ∷ pair_of (codes "i") instance ∷ []

-- an element with the value 0
abbrev pub found_of : List Pair → RuleElement
found_of labels = record { labels = labels; notes = []; value = number 0 }

-- an evaluation that came to these elements, and wrote nothing
abbrev pub gave : ℕ → ℕ → ℕ → List RuleElement → Occurrence
gave time hold keep found = evaluation time hold keep (came_to found) []

abbrev pub down : ℕ → ℕ → ℕ → Occurrence
down time hold keep = gave time hold keep (found_of d ∷ [])

abbrev pub up : ℕ → ℕ → ℕ → Occurrence
up time hold keep = gave time hold keep []

abbrev pub failed_at : ℕ → Occurrence
failed_at time = evaluation time 0 0 failed []

abbrev pub pending : List Pair → ℕ → Record
pending labels active = record {
  labels = labels;
  notes = [];
  state = Pending;
  active = active;
  fired = None;
  resolved = None;
  sent = None;
  held = None;
  value = number 0;
}

abbrev pub firing : List Pair → ℕ → ℕ → Option ℕ → Option ℕ → Record
firing labels active since sent held = record {
  labels = labels;
  notes = [];
  state = Firing;
  active = active;
  fired = Some since;
  resolved = None;
  sent = sent;
  held = held;
  value = number 0;
}

abbrev pub over : List Pair → ℕ → ℕ → ℕ → Option ℕ → Option ℕ → Record
over labels active since until sent held = record {
  labels = labels;
  notes = [];
  state = Resolved;
  active = active;
  fired = Some since;
  resolved = Some until;
  sent = sent;
  held = held;
  value = number 0;
}

abbrev pub firing_sent : List Pair → ℕ → ℕ → Sending
firing_sent labels starts ends = record {
  labels = labels;
  firing = true;
  value = number 0;
  starts = starts;
  ends = ends;
  notes = [];
}

abbrev pub over_sent : List Pair → ℕ → ℕ → Sending
over_sent labels starts ends = record {
  labels = labels;
  firing = false;
  value = number 0;
  starts = starts;
  ends = ends;
  notes = [];
}

-- D holds for three minutes, and is found four times, a minute after one another
abbrev pub held_out : List Occurrence
held_out = down 0 180000 0 ∷ down 60000 180000 0 ∷ down 120000 180000 0 ∷ down 180000 180000 0 ∷ []

-- D is sent at once, and found four times, half a minute after one another
abbrev pub twice_sent : List Occurrence
twice_sent = down 0 0 0 ∷ down 30000 0 0 ∷ down 60000 0 0 ∷ []

-- D is kept firing for two minutes; it is found at 0 and a minute later, and then no more
abbrev pub kept : List Occurrence
kept = down 0 0 120000 ∷ down 60000 0 120000 ∷ up 120000 0 120000 ∷ []

-- D of two instances, of which the group allows one; a is found at 0, and both half a minute later
abbrev pub a : List Pair
a = d_of (codes "a")

abbrev pub b : List Pair
b = d_of (codes "b")

abbrev pub first_of_two : List Occurrence
first_of_two = gave 0 60000 0 (found_of a ∷ []) ∷ []

abbrev pub two_found : List RuleElement
two_found = found_of a ∷ found_of b ∷ []

abbrev pub after_two : List Occurrence
after_two = first_of_two ++ evaluation 30000 60000 0 (alerting_outcome 1 first_of_two 30000 60000 0 two_found) [] ∷ []

-- a history in which the active time of D is written
abbrev pub written : ℕ → Point → List Entry
written time point = record { labels = for_state_labels d; time = time; point = point } ∷ []

-- the labels with a metric's name and a state
abbrev pub with_state : List Pair → List ℕ → List ℕ → List Pair
with_state labels name state = set_label (set_label labels metric_label name) (codes "alertstate") state
