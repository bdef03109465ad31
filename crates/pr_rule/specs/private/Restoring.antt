-- What becomes of records when the active time of one of them is restored.
use Rattle.std.specs.Prelude.{ℕ, List, [], ◌∷◌, slice_set, Option, Some, None}
use Rattle.spec_rules.specs.spec_alerts.declared.record.Record.{Record}
use Rattle.spec_rules.specs.spec_alerts.declared.restored.Restored.{Restored}
use Rattle.spec_rules.specs.spec_alerts.Restoring.{restored_of}

-- a record with another active time
abbrev pub with_active : ℕ → Record → Record
with_active active r = record {
  labels = r.labels;
  notes = r.notes;
  state = r.state;
  active = active;
  fired = r.fired;
  resolved = r.resolved;
  sent = r.sent;
  held = r.held;
  value = r.value;
}

-- the records after one of them was moved, or was not
abbrev pub moved_at : List Record → ℕ → Record → Option ℕ → List Record
moved_at rs index r None = rs
moved_at rs index r (Some active) = slice_set rs index (with_active active r)

-- the alerts that this moves: the one of the record, or none
abbrev pub moves_of : Record → Option ℕ → List Restored
moves_of r None = []
moves_of r (Some active) = restored_of r.labels active ∷ []
