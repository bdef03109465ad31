-- The alerts that a lineage comes to, and what is sent of them.
use Rattle.std.specs.Prelude.{ℕ, pos, ◌+◌, ◌*◌, ◌/◌, max, Bool, true, false, ◌||◌, cond, ◌==◌, nat_lt, nat_le, List, [], ◌∷◌, ◌++◌, length, filter, fold, reverse, codes, Option, Some, None, unwrap_or}
use Rattle.std.specs.List.{filter_map, list_all}
use Rattle.std.specs.Option.{option_or}
use Rattle.std.specs.declared.cmp.Ordering.{Ordering}
use Rattle.std.specs.declared.cmp.Ordering.TheVariants.{Less, Equal, Greater}
use Rattle.pr_num.specs.declared.value.Num.{Num}
use Rattle.pr_num.specs.Arithmetic.{whole_of}
use Rattle.spec_history.specs.pr_labels.declared.item.Item.{Item}
use Rattle.spec_history.specs.pr_labels.declared.pair.Pair.{Pair}
use Rattle.spec_history.specs.pr_labels.Edits.{set_label}
use Rattle.spec_history.specs.pr_labels.LabelSet.{metric_label}
use Rattle.spec_history.specs.pr_labels.Order.{labels_cmp}
use Rattle.spec_history.specs.Series.{element}
use Rattle.spec_alerts.specs.declared.found.RuleElement.{RuleElement}
use Rattle.spec_alerts.specs.declared.record.Record.{Record}
use Rattle.spec_alerts.specs.declared.record.State.{State}
use Rattle.spec_alerts.specs.declared.record.State.TheVariants.{Pending, Firing, Resolved}
use Rattle.spec_alerts.specs.declared.sending.Sending.{Sending}
use Rattle.spec_alerts.specs.Episodes.{Course, course, episode, fired_at, first_sight, first_time, is_found, last_moved, missing_since, newest_found}
use Rattle.spec_alerts.specs.Lineage.{EvaluationOutcome, came_to, exceeded, failed, Occurrence, counted, seen, moved}
use Rattle.spec_alerts.specs.Sights.{Sight, sets_found, sights}

-- An alert

-- fifteen minutes, for which an alert that is over is known, and a minute, after which one is sent
-- again, in milliseconds
abbrev pub resolved_retention : ℕ
resolved_retention = 900000

abbrev pub resend_delay : ℕ
resend_delay = 60000

-- The last episode resolves, where it fired, at the first sight after it.
abbrev pub resolved_by : Option ℕ → List Sight → Option ℕ
resolved_by None after = None
resolved_by (Some fired) after = first_time after

-- no sight is after the resolving by more than an alert that is over is known for
abbrev pub is_recent : Option ℕ → List Sight → Bool
is_recent None after = true
is_recent (Some resolved) after = list_all (λ s. nat_le s.time (resolved + resolved_retention)) after

-- how far the alert of the last episode has come, where there is one still
abbrev pub state_by : Option ℕ → List Sight → Option State
state_by None [] = Some Pending
state_by None (s ∷ after) = None
state_by (Some fired) [] = Some Firing
state_by (Some fired) (s ∷ after) = cond (is_recent (first_time (s ∷ after)) (s ∷ after)) (Some Resolved) None

-- the sights up to the one at which the episode resolved, or the newest
abbrev pub with_end : Option Sight → List Sight → List Sight
with_end None last = last
with_end (Some s) last = s ∷ last

-- since when the alert is missing: in the gap of the newest sight, or that in which it resolved
abbrev pub held_since : Course → Option ℕ
held_since c = missing_since (with_end (first_sight c.after) c.last)

-- since when the alert is active, at the end
abbrev pub active_since : Course → ℕ
active_since c = unwrap_or (option_or (last_moved (c.after ++ c.last)) (first_time c.last)) 0

-- by its last element and its state; there is no alert that has neither
abbrev pub alert_by : List Pair → Course → Option ℕ → Option RuleElement → Option State → Option Record
alert_by labels c sent (Some f) (Some state) = Some (record {
  labels = labels;
  notes = f.notes;
  state = state;
  active = active_since c;
  fired = fired_at c.last;
  resolved = resolved_by (fired_at c.last) c.after;
  sent = sent;
  held = held_since c;
  value = f.value;
})
alert_by labels c sent (Some f) None = None
alert_by labels c sent None state = None

-- the alert of a label set, by its last episode and its last sending
abbrev pub alert_of : List Pair → Course → Option ℕ → Option Record
alert_of labels c sent = alert_by labels c sent (newest_found c.last) (state_by (fired_at c.last) c.after)

-- Sending

-- whether an alert that fires or is over is sent: it was never sent, or was last sent before it was
-- over, or so long ago
abbrev pub is_due_since : Option ℕ → Option ℕ → ℕ → Bool
is_due_since resolved None now = true
is_due_since None (Some sent) now = nat_lt (sent + resend_delay) now
is_due_since (Some resolved) (Some sent) now = nat_lt sent resolved || nat_lt (sent + resend_delay) now

abbrev pub needs_sending : State → Option ℕ → Option ℕ → ℕ → Bool
needs_sending Pending resolved sent now = false
needs_sending Firing resolved sent now = is_due_since resolved sent now
needs_sending Resolved resolved sent now = is_due_since resolved sent now

abbrev pub is_due : ℕ → Record → Bool
is_due now r = needs_sending r.state r.resolved r.sent now

abbrev pub is_due_alert : ℕ → Option Record → Bool
is_due_alert now None = false
is_due_alert now (Some r) = is_due now r

-- a new episode has not been sent
abbrev pub sent_earlier : Sight → List Sight → Option ℕ → Option ℕ
sent_earlier s [] sent = cond (is_found s) None sent
sent_earlier s (e ∷ es) sent = sent

-- When the last episode was last sent, up to the newest sight, and before that sight. Whether an
-- alert is due does not depend on its labels, so that none stand here.
abbrev pub sent_at : List Sight → Option ℕ
sent_at [] = None
sent_at (s ∷ earlier) =
    cond (is_due_alert s.time (alert_of [] (course (s ∷ earlier)) (sent_earlier s (episode earlier) (sent_at earlier))))
    (Some s.time) (sent_earlier s (episode earlier) (sent_at earlier))

abbrev pub sent_before : List Sight → Option ℕ
sent_before [] = None
sent_before (s ∷ earlier) = sent_earlier s (episode earlier) (sent_at earlier)

-- Records

-- the alert at the end, and at the newest sight before anything was sent there
abbrev pub alert : List Pair → List Sight → Option Record
alert labels ss = alert_of labels (course ss) (sent_at ss)

abbrev pub unsent_alert : List Pair → List Sight → Option Record
unsent_alert labels ss = alert_of labels (course ss) (sent_before ss)

abbrev pub records_by : (List Pair → List Sight → Option Record) → List Occurrence → List Record
records_by alert_at steps = filter_map (λ labels. alert_at labels (sights labels steps)) (sets_found steps)

-- the records of a lineage, in label order
abbrev pub records : List Occurrence → List Record
records lineage = records_by alert (counted lineage)

-- the same before anything was sent at the last evaluation
abbrev pub unsent_records : List Occurrence → List Record
unsent_records lineage = records_by unsent_alert (counted lineage)

-- Limits

-- a pending or firing alert is living; a resolved one is not
abbrev pub is_living_state : State → Bool
is_living_state Pending = true
is_living_state Firing = true
is_living_state Resolved = false

abbrev pub is_living : Record → Bool
is_living r = is_living_state r.state

abbrev pub living_count : List Record → ℕ
living_count rs = length (filter is_living rs)

-- an evaluation as what happened to a rule
abbrev pub evaluation : ℕ → ℕ → ℕ → EvaluationOutcome → List (List Pair) → Occurrence
evaluation time hold keep outcome wrote =
    seen (record { time = time; hold = hold; keep = keep; outcome = outcome; wrote = wrote })

-- how many of these there are, where they are more than the limit; a limit of 0 is none
abbrev pub beyond : ℕ → ℕ → Option ℕ
beyond limit have = cond (limit == 0 || nat_le have limit) None (Some have)

-- the records that an evaluation leaves which comes to these elements, after a lineage
abbrev pub records_after : List Occurrence → ℕ → ℕ → ℕ → List RuleElement → List Record
records_after lineage time hold keep found = records (lineage ++ evaluation time hold keep (came_to found) [] ∷ [])

-- how many pending and firing alerts an evaluation would leave that comes to these elements, where
-- they are more than the limit
abbrev pub exceeding : ℕ → List Occurrence → ℕ → ℕ → ℕ → List RuleElement → Option ℕ
exceeding limit lineage time hold keep found = beyond limit (living_count (records_after lineage time hold keep found))

-- Samples

-- the labels of the two series of an alert: what it is, with its state, and since when it is active
abbrev pub state_text : State → List ℕ
state_text Pending = codes "pending"
state_text Firing = codes "firing"
state_text Resolved = codes "resolved"

abbrev pub alert_labels : Record → List Pair
alert_labels r = set_label (set_label r.labels metric_label (codes "ALERTS")) (codes "alertstate") (state_text r.state)

abbrev pub for_state_labels : List Pair → List Pair
for_state_labels labels = set_label labels metric_label (codes "ALERTS_FOR_STATE")

-- an element put in label order among others; one with its labels takes its value
abbrev pub placed_item : Ordering → Item Num → Item Num → List (Item Num) → List (Item Num) → List (Item Num)
placed_item Less i first rest more = i ∷ first ∷ rest
placed_item Equal i first rest more = element first.labels i.value ∷ rest
placed_item Greater i first rest more = first ∷ more

abbrev pub with_item : List (Item Num) → Item Num → List (Item Num)
with_item [] i = i ∷ []
with_item (first ∷ rest) i = placed_item (labels_cmp i.labels first.labels) i first rest (with_item rest i)

-- what is written of an alert that is pending or fires: that it is, and since when, in whole seconds
abbrev pub samples_of : Record → List (Item Num)
samples_of r = cond (is_living r)
    (element (alert_labels r) (whole_of (pos 1)) ∷ element (for_state_labels r.labels) (whole_of (pos (r.active / 1000))) ∷ []) []

-- what is written of these records, in label order, each label set once
abbrev pub with_samples : List (Item Num) → Record → List (Item Num)
with_samples items r = fold with_item items (samples_of r)

abbrev pub samples : List Record → List (Item Num)
samples rs = fold with_samples [] rs

-- Notifications

-- A notification of an alert that fires ends four intervals later, or four resend delays; one of an
-- alert that is over ends where the alert ended.
abbrev pub ends_at : Option ℕ → ℕ → ℕ → ℕ
ends_at None interval now = now + 4 * max resend_delay interval
ends_at (Some resolved) interval now = resolved

abbrev pub is_firing : State → Bool
is_firing Pending = false
is_firing Firing = true
is_firing Resolved = false

abbrev pub sending_of : ℕ → ℕ → Record → Sending
sending_of interval now r = record {
  labels = r.labels;
  firing = is_firing r.state;
  value = r.value;
  starts = unwrap_or r.fired 0;
  ends = ends_at r.resolved interval now;
  notes = r.notes;
}

abbrev pub sending_if : Bool → Sending → Option Sending
sending_if true s = Some s
sending_if false s = None

-- what is sent at a time of these records, in their order
abbrev pub sendings_at : ℕ → ℕ → List Record → List Sending
sendings_at interval now rs = filter_map (λ r. sending_if (is_due now r) (sending_of interval now r)) rs

abbrev pub sendings_by : ℕ → EvaluationOutcome → ℕ → List Record → List Sending
sendings_by interval (came_to found) now rs = sendings_at interval now rs
sendings_by interval exceeded now rs = []
sendings_by interval failed now rs = []

abbrev pub sendings_from : ℕ → List Occurrence → List Record → List Sending
sendings_from interval [] rs = []
sendings_from interval (seen e ∷ earlier) rs = sendings_by interval e.outcome e.time rs
sendings_from interval (moved alerts ∷ earlier) rs = []

-- what is sent at the last entry of a lineage, by the interval of the group
abbrev pub sendings : ℕ → List Occurrence → List Sending
sendings interval lineage = sendings_from interval (reverse lineage) (unsent_records lineage)
