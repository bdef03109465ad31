-- What is sent is sent of the alerts that are due, none of which is pending.
use Rattle.std.proofs.Common.{◌≡◌, ℕ, Bool, true, false, cond, List, [], ◌∷◌, map, filter, Option, Some, None, refl, ap}
use Rattle.std.specs.List.{cons_option, filter_map}
use Rattle.spec_alerts.specs.declared.record.Record.{Record}
use Rattle.spec_alerts.specs.declared.record.State.{State}
use Rattle.spec_alerts.specs.declared.record.State.TheVariants.{Pending}
use Rattle.spec_alerts.specs.declared.sending.Sending.{Sending}
use Rattle.spec_alerts.specs.Records.{is_due, needs_sending, sending_if, sending_of, sendings_at}

pub sent_of_due : (interval now : ℕ) (rs : List Record) → sendings_at interval now rs ≡ map (sending_of interval now) (filter (is_due now) rs)
sent_of_due interval now [] = refl
sent_of_due interval now (r ∷ rs) = by (is_due now r) (sent_of_due interval now rs) where
  by : (b : Bool) → sendings_at interval now rs ≡ map (sending_of interval now) (filter (is_due now) rs)
      → cons_option (sending_if b (sending_of interval now r)) (sendings_at interval now rs)
      ≡ map (sending_of interval now) (cond b (r ∷ filter (is_due now) rs) (filter (is_due now) rs))
  by true h = ap (λ (l : List Sending). sending_of interval now r ∷ l) h
  by false h = h

pub pending_stays : (now : ℕ) (r : Record) → r.state ≡ Pending → is_due now r ≡ false
pending_stays now r h = ap (λ (s : State). needs_sending s r.resolved r.sent now) h
