-- When all that is due is marked as sent, the records stand for the lineage.
use Rattle.std.specs.Prelude.{◌≡◌, ℕ, Bool, true, false, cond, List, [], ◌∷◌, ◌++◌, map, Option, Some, None}
use Rattle.std.specs.Option.{option_map}
use Rattle.std.proofs.Common.{refl, sym, ◌∙◌, ap, subst}
use Rattle.pr_labels.specs.declared.pair.Pair.{Pair}
use Rattle.pr_labels.specs.Order.{labels_eq}
use Rattle.pr_labels.specs.Rising.{IsRising}
use Rattle.spec_rules.specs.spec_alerts.declared.found.RuleElement.{RuleElement}
use Rattle.spec_rules.specs.spec_alerts.declared.record.Record.{Record}
use Rattle.spec_rules.specs.spec_alerts.declared.record.State.{State}
use Rattle.spec_rules.specs.spec_alerts.Episodes.{Course, course, fired_at, newest_found}
use Rattle.spec_rules.specs.spec_alerts.Lineage.{Occurrence, came_to, counted}
use Rattle.spec_rules.specs.spec_alerts.Records.{alert, alert_by, evaluation, is_due, is_due_alert, needs_sending, resolved_by, sent_before, state_by, unsent_alert}
use Rattle.spec_rules.specs.spec_alerts.Sights.{Sight, found_with, sights}
use Rattle.pr_rule.specs.private.AlertStanding.{StandsFor, StandsUnsent, marked_if, record_at, sets_of}
use Rattle.pr_rule.proofs.FoundAlerts.{sight}
use Rattle.pr_rule.proofs.Merged.{counted_more}

due_by : (labels : List Pair) (c : Course) (sent : Option ℕ) (now : ℕ) (f : RuleElement) (s : State) (b : Bool)
    → needs_sending s (resolved_by (fired_at c.last) c.after) sent now ≡ b
    → alert_by labels c (cond b (Some now) sent) (Some f) (Some s) ≡ option_map (marked_if now) (alert_by labels c sent (Some f) (Some s))
due_by labels c sent now f s true h = simp h
due_by labels c sent now f s false h = simp h

sent_by : (labels : List Pair) (c : Course) (sent : Option ℕ) (now : ℕ) (n : Option RuleElement) (s : Option State)
    → alert_by labels c (cond (is_due_alert now (alert_by [] c sent n s)) (Some now) sent) n s ≡ option_map (marked_if now) (alert_by labels c sent n s)
sent_by labels c sent now None s = refl
sent_by labels c sent now (Some f) None = refl
sent_by labels c sent now (Some f) (Some s) =
    due_by labels c sent now f s (needs_sending s (resolved_by (fired_at c.last) c.after) sent now) refl

-- at the newest sight what is due is marked
pub alert_marked : (labels : List Pair) (s : Sight) (ss : List Sight)
    → alert labels (s ∷ ss) ≡ option_map (marked_if s.time) (unsent_alert labels (s ∷ ss))
alert_marked labels s ss =
    sent_by labels (course (s ∷ ss)) (sent_before (s ∷ ss)) s.time (newest_found (course (s ∷ ss)).last)
    (state_by (fired_at (course (s ∷ ss)).last) (course (s ∷ ss)).after)

same_by : (now : ℕ) (r : Record) (b : Bool) → is_due now r ≡ b → (marked_if now r).labels ≡ r.labels
same_by now r true h = simp h
same_by now r false h = simp h

marked_same : (now : ℕ) (r : Record) → (marked_if now r).labels ≡ r.labels
marked_same now r = same_by now r (is_due now r) refl

sets_marked : (now : ℕ) (rs : List Record) → sets_of (map (marked_if now) rs) ≡ sets_of rs
sets_marked now [] = refl
sets_marked now (r ∷ rs) = λ i. marked_same now r i ∷ sets_marked now rs i

found_by : (now : ℕ) (x : List Pair) (r : Record) (rest : Option Record) (b : Bool)
    → cond b (Some (marked_if now r)) (option_map (marked_if now) rest) ≡ option_map (marked_if now) (cond b (Some r) rest)
found_by now x r rest true = refl
found_by now x r rest false = refl

pub record_at_marked : (now : ℕ) (x : List Pair) (rs : List Record) → record_at x (map (marked_if now) rs) ≡ option_map (marked_if now) (record_at x rs)
record_at_marked now x [] = refl
record_at_marked now x (r ∷ rs) =
    (λ i. cond (labels_eq x (marked_same now r i)) (Some (marked_if now r)) (record_at_marked now x rs i))
    ∙ found_by now x r (record_at x rs) (labels_eq x r.labels)

pub marked_stand : (lineage : List Occurrence) (rs : List Record) (fs : List RuleElement) (now hold keep : ℕ) (wrote : List (List Pair))
    → StandsUnsent rs (lineage ++ evaluation now hold keep (came_to fs) wrote ∷ [])
    → StandsFor (map (marked_if now) rs) (lineage ++ evaluation now hold keep (came_to fs) wrote ∷ [])
marked_stand lineage rs fs now hold keep wrote s =
    let e : counted (lineage ++ evaluation now hold keep (came_to fs) wrote ∷ []) ≡ evaluation now hold keep (came_to fs) wrote ∷ counted lineage
    = counted_more lineage now hold keep fs wrote in
    record {
      rising = subst IsRising (sym (sets_marked now rs)) s.rising;
      each = λ x.
          record_at_marked now x rs
          ∙ (ap (option_map (marked_if now)) (s.each x)
          ∙ (ap (λ steps. option_map (marked_if now) (unsent_alert x (sights x steps))) e
          ∙ (sym (alert_marked x (sight now hold keep (found_with x fs)) (sights x (counted lineage)))
          ∙ sym (ap (λ steps. alert x (sights x steps)) e))));
    }
