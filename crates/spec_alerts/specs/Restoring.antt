-- What a restart restores: the active times of alerts, from what was written of them.
use Rattle.std.specs.Prelude.{ℕ, ℤ, pos, negsuc, suc, ◌+◌, ◌-◌, ◌*◌, ◌/◌, ◌^◌, ◌&&◌, cond, nat_lt, nat_le, List, [], Option, Some, None, option_and_then}
use Rattle.std.specs.List.{filter_map}
use Rattle.std.specs.Option.{option_map}
use Rattle.pr_num.specs.declared.value.Num.TheVariants.{Finite, NaN, PosInf, NegInf}
use Rattle.pr_num.specs.declared.value.Point.{Point}
use Rattle.pr_num.specs.declared.value.Point.TheVariants.{Value, Stale}
use Rattle.spec_history.specs.pr_labels.declared.pair.Pair.{Pair}
use Rattle.spec_history.specs.declared.entry.Entry.{Entry}
use Rattle.spec_history.specs.Admission.{is_of, last_entry}
use Rattle.spec_alerts.specs.declared.record.Record.{Record}
use Rattle.spec_alerts.specs.declared.restored.Restored.{Restored}
use Rattle.spec_alerts.specs.Lineage.{Occurrence}
use Rattle.spec_alerts.specs.Records.{for_state_labels, is_living, records}

-- an hour, beyond which nothing is restored, and ten minutes, in which a restored alert does not
-- come to fire, in milliseconds
abbrev pub outage_tolerance : ℕ
outage_tolerance = 3600000

abbrev pub grace_period : ℕ
grace_period = 600000

-- the newest sample of the series in which the active time of an alert is written, of those of the
-- last hour
abbrev pub for_state_entry : List Entry → ℕ → List Pair → Option Entry
for_state_entry history now labels =
    last_entry (λ e. is_of (for_state_labels labels) e && (nat_le e.time now && nat_le now (e.time + outage_tolerance))) history

-- A number of seconds in units of 10^-9, cut to whole seconds, in milliseconds; none below zero.
abbrev pub cut_to_seconds : ℤ → Option ℕ
cut_to_seconds (pos units) = Some (units / 10 ^ 9 * 1000)
cut_to_seconds (negsuc below) = cond (nat_lt (suc below) (10 ^ 9)) (Some 0) None

abbrev pub written_time : Point → Option ℕ
written_time (Value (Finite units)) = cut_to_seconds units
written_time (Value NaN) = None
written_time (Value PosInf) = None
written_time (Value NegInf) = None
written_time Stale = None

-- The active time that follows from the one that was written. What remained of the time to hold is
-- the time to hold less what had passed of it when the sample was written; if nothing remained, the
-- written time stays; if less than the grace period, the alert fires after the grace period; else
-- the time in which nothing was written does not count.
abbrev pub moved_from : ℕ → ℕ → ℕ → ℕ → ℕ
moved_from hold down now old =
    cond (nat_le (hold + old) down) old
    (cond (nat_lt (hold + old) (down + grace_period)) (now + grace_period - hold) (old + (now - down)))

abbrev pub moved_if : ℕ → ℕ → ℕ → ℕ → Option ℕ
moved_if hold down now old = cond (nat_le old down) (Some (moved_from hold down now old)) None

-- the active time that follows from a sample, its point and its time
abbrev pub restored_time : ℕ → Point → ℕ → ℕ → Option ℕ
restored_time hold point down now = option_and_then (moved_if hold down now) (written_time point)

-- the active time to which an alert is moved
abbrev pub moved_time : List Entry → ℕ → ℕ → List Pair → Option ℕ
moved_time history hold now labels =
    option_and_then (λ e. restored_time hold e.point e.time now) (for_state_entry history now labels)

abbrev pub restored_of : List Pair → ℕ → Restored
restored_of labels active = record { labels = labels; active = active }

abbrev pub restored_alert : List Entry → ℕ → ℕ → Record → Option Restored
restored_alert history hold now r =
    cond (is_living r) (option_map (restored_of r.labels) (moved_time history hold now r.labels)) None

-- The alerts of a rule that are restored at a time, in label order. A rule whose time to hold is below
-- the grace period keeps its own.
abbrev pub restored : List Entry → ℕ → ℕ → List Occurrence → List Restored
restored history hold now lineage =
    cond (nat_lt hold grace_period) [] (filter_map (restored_alert history hold now) (records lineage))
