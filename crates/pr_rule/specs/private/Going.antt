-- How a record goes on at one evaluation.
use Rattle.std.specs.Prelude.{ℕ, ◌+◌, cond, nat_lt, nat_le, Option, Some, None, unwrap_or}
use Rattle.spec_rules.specs.spec_alerts.declared.found.RuleElement.{RuleElement}
use Rattle.spec_rules.specs.spec_alerts.declared.record.Record.{Record}
use Rattle.spec_rules.specs.spec_alerts.declared.record.State.{State}
use Rattle.spec_rules.specs.spec_alerts.declared.record.State.TheVariants.{Pending, Firing, Resolved}
use Rattle.spec_rules.specs.spec_alerts.Records.{resolved_retention}

-- a new record
abbrev pub begun : RuleElement → ℕ → Record
begun f now = record {
  labels = f.labels;
  notes = f.notes;
  state = Pending;
  active = now;
  fired = None;
  resolved = None;
  sent = None;
  held = None;
  value = f.value;
}

-- the record of an alert that is found again
abbrev pub refreshed : Record → RuleElement → Record
refreshed r f = record {
  labels = r.labels;
  notes = f.notes;
  state = r.state;
  active = r.active;
  fired = r.fired;
  resolved = r.resolved;
  sent = r.sent;
  held = None;
  value = f.value;
}

abbrev pub found_again : State → Record → RuleElement → ℕ → Record
found_again Pending r f now = refreshed r f
found_again Firing r f now = refreshed r f
found_again Resolved r f now = begun f now

abbrev pub found_or_begun : Option Record → RuleElement → ℕ → Record
found_or_begun None f now = begun f now
found_or_begun (Some r) f now = found_again r.state r f now

-- a pending record that has been active for long enough fires
abbrev pub firing_since : Record → ℕ → Record
firing_since r now = record {
  labels = r.labels;
  notes = r.notes;
  state = Firing;
  active = r.active;
  fired = Some now;
  resolved = r.resolved;
  sent = r.sent;
  held = r.held;
  value = r.value;
}

abbrev pub fired_by : State → Record → ℕ → ℕ → Record
fired_by Pending r now hold = cond (nat_le (r.active + hold) now) (firing_since r now) r
fired_by Firing r now hold = r
fired_by Resolved r now hold = r

abbrev pub with_firing : Record → ℕ → ℕ → Record
with_firing r now hold = fired_by r.state r now hold

-- the record of an alert that is found
abbrev pub found_record : Option Record → RuleElement → ℕ → ℕ → Record
found_record before f now hold = with_firing (found_or_begun before f now) now hold

-- the record of an alert that fires and is missing since a time: it is kept firing for a while, and
-- then it is over
abbrev pub held_record : Record → ℕ → Record
held_record r since = record {
  labels = r.labels;
  notes = r.notes;
  state = r.state;
  active = r.active;
  fired = r.fired;
  resolved = r.resolved;
  sent = r.sent;
  held = Some since;
  value = r.value;
}

abbrev pub over_record : Record → ℕ → ℕ → Record
over_record r since now = record {
  labels = r.labels;
  notes = r.notes;
  state = Resolved;
  active = r.active;
  fired = r.fired;
  resolved = Some now;
  sent = r.sent;
  held = Some since;
  value = r.value;
}

abbrev pub kept_firing : Record → ℕ → ℕ → ℕ → Record
kept_firing r since now keep = cond (nat_lt now (since + keep)) (held_record r since) (over_record r since now)

-- whether an alert that is over is known still
abbrev pub kept_over : Option ℕ → Record → ℕ → Option Record
kept_over None r now = None
kept_over (Some resolved) r now = cond (nat_le now (resolved + resolved_retention)) (Some r) None

abbrev pub missing_by : State → Record → ℕ → ℕ → Option Record
missing_by Pending r now keep = None
missing_by Firing r now keep = Some (kept_firing r (unwrap_or r.held now) now keep)
missing_by Resolved r now keep = kept_over r.resolved r now

-- the record of an alert that is missing
abbrev pub missing_record : Record → ℕ → ℕ → Option Record
missing_record r now keep = missing_by r.state r now keep

-- how the record of a label set goes on
abbrev pub gone_on : Option Record → Option RuleElement → ℕ → ℕ → ℕ → Option Record
gone_on before (Some f) now hold keep = Some (found_record before f now hold)
gone_on None None now hold keep = None
gone_on (Some r) None now hold keep = missing_record r now keep
