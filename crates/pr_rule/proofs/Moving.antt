-- An alert that is moved has the active time that it was moved to, and nothing else changes.
use Rattle.std.specs.Prelude.{◌≡◌, ℕ, ◌+◌, Bool, true, false, ◌&&◌, ◌||◌, cond, nat_lt, nat_le, List, [], ◌∷◌, ◌++◌, reverse, Option, Some, None, is_some, unwrap_or}
use Rattle.std.specs.Option.{option_map, option_or}
use Rattle.std.proofs.Common.{refl, sym, ◌∙◌, ap, subst}
use Rattle.pr_labels.specs.declared.pair.Pair.{Pair}
use Rattle.pr_labels.specs.Order.{labels_eq}
use Rattle.pr_labels.proofs.LabelOrder.{labels_decide}
use Rattle.spec_rules.specs.spec_alerts.declared.found.RuleElement.{RuleElement}
use Rattle.spec_rules.specs.spec_alerts.declared.record.Record.{Record}
use Rattle.spec_rules.specs.spec_alerts.declared.record.State.{State}
use Rattle.spec_rules.specs.spec_alerts.declared.record.State.TheVariants.{Pending, Firing, Resolved}
use Rattle.spec_rules.specs.spec_alerts.declared.restored.Restored.{Restored}
use Rattle.spec_rules.specs.spec_alerts.Sights.{Sight, elements, found_with, moved_to, sights, sights_from}
use Rattle.spec_rules.specs.spec_alerts.Episodes.{Course, course, episode, fired_at, first_sight, first_time, gap, is_found, is_kept, is_within, last_moved, missing_since, newest_found}
use Rattle.spec_rules.specs.spec_alerts.Lineage.{Occurrence, counted, counted_from, seen, moved}
use Rattle.spec_rules.specs.spec_alerts.Records.{alert, alert_by, alert_of, is_due_alert, is_living, is_recent, sent_at, sent_earlier, state_by}
use Rattle.spec_rules.specs.spec_alerts.Restoring.{restored_of}
use Rattle.pr_rule.specs.private.Restoring.{with_active}
use Rattle.pr_rule.proofs.Courses.{course_in, course_out, first_some, found_some}
use Rattle.pr_rule.proofs.FoundAlerts.{going}

-- the newest sight was moved
abbrev pub moved_sight : ℕ → Sight → Sight
moved_sight a s = record { time = s.time; hold = s.hold; keep = s.keep; found = s.found; moved = Some a }

abbrev pub with_moved : ℕ → List Sight → List Sight
with_moved a [] = []
with_moved a (s ∷ earlier) = moved_sight a s ∷ earlier

pub sights_moved : (x : List Pair) (a : ℕ) (later : Option ℕ) (steps : List Occurrence)
    → sights_from x (Some a) steps ≡ with_moved a (sights_from x later steps)
sights_moved x a later [] = refl
sights_moved x a later (seen e ∷ earlier) = refl
sights_moved x a later (moved alerts ∷ earlier) = sights_moved x a (option_or later (moved_to x alerts)) earlier

since_by : (a : ℕ) (s : Sight) (o : Option Sight) → option_map (λ (z : Sight). z.time) (option_or o (Some (moved_sight a s))) ≡ option_map (λ (z : Sight). z.time) (option_or o (Some s))
since_by a s None = refl
since_by a s (Some z) = refl

missing_by : (a : ℕ) (s : Sight) (earlier : List Sight) (b : Bool) → is_found s ≡ b → missing_since (moved_sight a s ∷ earlier) ≡ missing_since (s ∷ earlier)
missing_by a s earlier true h = simp h
missing_by a s earlier false h = simp h (since_by a s (first_sight (gap earlier)))

pub missing_moved : (a : ℕ) (s : Sight) (earlier : List Sight) → missing_since (moved_sight a s ∷ earlier) ≡ missing_since (s ∷ earlier)
missing_moved a s earlier = missing_by a s earlier (is_found s) refl

kept_moved : (a : ℕ) (s : Sight) (earlier ep : List Sight) → is_kept (moved_sight a s) earlier ep ≡ is_kept s earlier ep
kept_moved a s earlier ep = ap (λ o. is_some (fired_at ep) && is_within s o) (missing_moved a s earlier)

-- an alert that is pending or fires has its newest sight in its episode
abbrev pub IsLiving : Option Record → Type 0
IsLiving None = ⊥
IsLiving (Some r) = is_living r ≡ true

not_living : (labels : List Pair) (last : List Sight) (s : Sight) (more : List Sight) (sent : Option ℕ) (n : Option RuleElement) (fired : Option ℕ) (b : Bool)
    → newest_found last ≡ n → fired_at last ≡ fired → is_recent (first_time (s ∷ more)) (s ∷ more) ≡ b
    → IsLiving (alert_of labels (record { last = last; after = s ∷ more }) sent) → ⊥
not_living labels last s more sent None fired b n i r h = simp n at h
not_living labels last s more sent (Some g) None b n i r h = simp (n, i) at h
not_living labels last s more sent (Some g) (Some y) true n i r h = let k : false ≡ true = simp (n, i, r) at h in cc
not_living labels last s more sent (Some g) (Some y) false n i r h = simp (n, i, r) at h

in_by : (labels : List Pair) (s : Sight) (earlier ep : List Sight) → episode (s ∷ earlier) ≡ ep → IsLiving (alert labels (s ∷ earlier))
    → (b : Bool) → (is_found s || is_kept s earlier (episode earlier)) ≡ b → b ≡ true
in_by labels s earlier ep e h true k = refl
in_by labels s earlier ep e h false k =
    let p : episode (s ∷ earlier) ≡ [] = (λ i. cond (k i) (s ∷ episode earlier) []) in
    absurd (not_living labels (course earlier).last s (course earlier).after (sent_at (s ∷ earlier))
    (newest_found (course earlier).last) (fired_at (course earlier).last)
    (is_recent (first_time (s ∷ (course earlier).after)) (s ∷ (course earlier).after)) refl refl refl
    (subst (λ (c : Course). IsLiving (alert_of labels c (sent_at (s ∷ earlier)))) (course_out s earlier p) h))

-- the alert of an episode whose newest sight was moved
abbrev pub moved_alert : ℕ → Option Record → Option Record
moved_alert a o = option_map (with_active a) o

alert_moved_by : (labels : List Pair) (a : ℕ) (s : Sight) (ep : List Sight) (sent : Option ℕ) (g : RuleElement) (fired : Option ℕ)
    → newest_found (s ∷ ep) ≡ Some g → fired_at (s ∷ ep) ≡ fired → missing_since (moved_sight a s ∷ ep) ≡ missing_since (s ∷ ep)
    → alert_of labels (going (moved_sight a s ∷ ep)) sent ≡ moved_alert a (alert_of labels (going (s ∷ ep)) sent)
alert_moved_by labels a s ep sent g None n i m = simp (n, i, m)
alert_moved_by labels a s ep sent g (Some y) n i m = simp (n, i, m)

due_moved : (a now : ℕ) (o : Option Record) → is_due_alert now (moved_alert a o) ≡ is_due_alert now o
due_moved a now None = refl
due_moved a now (Some r) = refl

alert_moved_in : (labels : List Pair) (a : ℕ) (s : Sight) (earlier : List Sight) → (is_found s || is_kept s earlier (episode earlier)) ≡ true
    → alert labels (moved_sight a s ∷ earlier) ≡ moved_alert a (alert labels (s ∷ earlier))
alert_moved_in labels a s earlier k =
    let ep : List Sight = episode earlier in
    let here : episode (s ∷ earlier) ≡ s ∷ ep = (λ i. cond (k i) (s ∷ episode earlier) []) in
    let l : (is_found s || is_kept (moved_sight a s) earlier (episode earlier)) ≡ true = ap (λ q. is_found s || q) (kept_moved a s earlier (episode earlier)) ∙ k in
    let there : episode (moved_sight a s ∷ earlier) ≡ moved_sight a s ∷ ep = (λ i. cond (l i) (moved_sight a s ∷ episode earlier) []) in
    let c : course (s ∷ earlier) ≡ going (s ∷ ep) = course_in (s ∷ earlier) s ep here in
    let d : course (moved_sight a s ∷ earlier) ≡ going (moved_sight a s ∷ ep) = course_in (moved_sight a s ∷ earlier) (moved_sight a s) ep there in
    let n = found_some (s ∷ earlier) s ep here in
    let both : (x : List Pair) (sent : Option ℕ) → alert_of x (course (moved_sight a s ∷ earlier)) sent ≡ moved_alert a (alert_of x (course (s ∷ earlier)) sent)
    = λ x sent. ap (λ e. alert_of x e sent) d
    ∙ (alert_moved_by x a s ep sent n.0 (fired_at (s ∷ ep)) n.1 refl (missing_moved a s ep)
    ∙ sym (ap (λ e. moved_alert a (alert_of x e sent)) c)) in
    let before : Option ℕ = sent_earlier s (episode earlier) (sent_at earlier) in
    let due : is_due_alert s.time (alert_of [] (course (moved_sight a s ∷ earlier)) before) ≡ is_due_alert s.time (alert_of [] (course (s ∷ earlier)) before)
    = ap (is_due_alert s.time) (both [] before) ∙ due_moved a s.time (alert_of [] (course (s ∷ earlier)) before) in
    let sent : sent_at (moved_sight a s ∷ earlier) ≡ sent_at (s ∷ earlier) = (λ i. cond (due i) (Some s.time) before) in
    both labels (sent_at (moved_sight a s ∷ earlier)) ∙ ap (λ q. moved_alert a (alert_of labels (course (s ∷ earlier)) q)) sent

pub alert_moved : (labels : List Pair) (a : ℕ) (ss : List Sight) → IsLiving (alert labels ss)
    → alert labels (with_moved a ss) ≡ moved_alert a (alert labels ss)
alert_moved labels a [] h = absurd h
alert_moved labels a (s ∷ earlier) h =
    alert_moved_in labels a s earlier
    (in_by labels s earlier (episode (s ∷ earlier)) refl h (is_found s || is_kept s earlier (episode earlier)) refl)
