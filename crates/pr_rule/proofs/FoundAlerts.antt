-- The alert of a label set goes on as its record does.
use Rattle.std.specs.Prelude.{◌≡◌, ℕ, ◌+◌, Bool, true, false, nat_lt, nat_le, List, [], ◌∷◌, Option, Some, None, unwrap_or}
use Rattle.std.specs.Option.{option_map}
use Rattle.std.proofs.Common.{refl, sym, ◌∙◌, ap}
use Rattle.pr_labels.specs.declared.pair.Pair.{Pair}
use Rattle.spec_rules.specs.spec_alerts.declared.found.RuleElement.{RuleElement}
use Rattle.spec_rules.specs.spec_alerts.Sights.{Sight}
use Rattle.spec_rules.specs.spec_alerts.Episodes.{Course, course, episode, fired_at, first_sight, gap, is_kept, last_moved, newest_found, first_time}
use Rattle.spec_rules.specs.spec_alerts.Records.{alert, alert_of, is_recent, sent_at, sent_earlier, unsent_alert}
use Rattle.pr_rule.specs.private.Going.{begun, found_or_begun, found_record, gone_on, with_firing}
use Rattle.pr_rule.proofs.Courses.{course_in, course_out, first_some, found_some}

abbrev pub sight : ℕ → ℕ → ℕ → Option RuleElement → Sight
sight now hold keep found = record { time = now; hold = hold; keep = keep; found = found; moved = None }

abbrev pub going : List Sight → Course
going last = record { last = last; after = [] }

-- an alert is found that is pending or fires
found_in : (ep : List Sight) (sent : Option ℕ) (now hold keep : ℕ) (f g : RuleElement) (x : Sight) (fired active : Option ℕ) (b : Bool)
    → newest_found ep ≡ Some g → first_sight ep ≡ Some x → fired_at ep ≡ fired → last_moved ep ≡ active → nat_le (unwrap_or active x.time + hold) now ≡ b
    → alert_of f.labels (going (sight now hold keep (Some f) ∷ ep)) sent ≡ Some (found_record (alert_of f.labels (going ep) sent) f now hold)
found_in ep sent now hold keep f g x None None true n e i a t = simp (n, e, i, a, t)
found_in ep sent now hold keep f g x None None false n e i a t = simp (n, e, i, a, t)
found_in ep sent now hold keep f g x None (Some m) true n e i a t = simp (n, e, i, a, t)
found_in ep sent now hold keep f g x None (Some m) false n e i a t = simp (n, e, i, a, t)
found_in ep sent now hold keep f g x (Some y) None b n e i a t = simp (n, e, i, a, t)
found_in ep sent now hold keep f g x (Some y) (Some m) b n e i a t = simp (n, e, i, a, t)

-- an alert is found that is neither
begun_alert : (now hold keep : ℕ) (f : RuleElement) (b : Bool) → nat_le (now + hold) now ≡ b
    → alert_of f.labels (going (sight now hold keep (Some f) ∷ [])) None ≡ Some (with_firing (begun f now) now hold)
begun_alert now hold keep f true t = simp t
begun_alert now hold keep f false t = simp t

over_begun : (labels : List Pair) (last : List Sight) (a : Sight) (more : List Sight) (sent : Option ℕ) (f : RuleElement) (now : ℕ)
    (n : Option RuleElement) (fired : Option ℕ) (b : Bool)
    → newest_found last ≡ n → fired_at last ≡ fired → is_recent (first_time (a ∷ more)) (a ∷ more) ≡ b
    → found_or_begun (alert_of labels (record { last = last; after = a ∷ more }) sent) f now ≡ begun f now
over_begun labels last a more sent f now None fired b n i r = simp n
over_begun labels last a more sent f now (Some g) None b n i r = simp (n, i)
over_begun labels last a more sent f now (Some g) (Some y) true n i r = simp (n, i, r)
over_begun labels last a more sent f now (Some g) (Some y) false n i r = simp (n, i, r)

out_begun : (ss : List Sight) (f : RuleElement) (now : ℕ) → episode ss ≡ [] → found_or_begun (alert f.labels ss) f now ≡ begun f now
out_begun [] f now h = refl
out_begun (s ∷ earlier) f now h =
    ap (λ c. found_or_begun (alert_of f.labels c (sent_at (s ∷ earlier))) f now) (course_out s earlier h)
    ∙ over_begun f.labels (course earlier).last s (course earlier).after (sent_at (s ∷ earlier)) f now
    (newest_found (course earlier).last) (fired_at (course earlier).last)
    (is_recent (first_time (s ∷ (course earlier).after)) (s ∷ (course earlier).after)) refl refl refl

found_by : (ss : List Sight) (now hold keep : ℕ) (f : RuleElement) (ep : List Sight) → episode ss ≡ ep
    → unsent_alert f.labels (sight now hold keep (Some f) ∷ ss) ≡ Some (found_record (alert f.labels ss) f now hold)
found_by ss now hold keep f [] h =
    let s : Sight = sight now hold keep (Some f) in
    let c : course (s ∷ ss) ≡ going (s ∷ []) = course_in (s ∷ ss) s [] (ap (λ p. s ∷ p) h) in
    let q : sent_earlier s (episode ss) (sent_at ss) ≡ None = ap (λ p. sent_earlier s p (sent_at ss)) h in
    (λ i. alert_of f.labels (c i) (q i))
    ∙ (begun_alert now hold keep f (nat_le (now + hold) now) refl
    ∙ sym (ap (λ r. Some (with_firing r now hold)) (out_begun ss f now h)))
found_by ss now hold keep f (e ∷ es) h =
    let s : Sight = sight now hold keep (Some f) in
    let c : course (s ∷ ss) ≡ going (s ∷ e ∷ es) = course_in (s ∷ ss) s (e ∷ es) (ap (λ p. s ∷ p) h) in
    let q : sent_earlier s (episode ss) (sent_at ss) ≡ sent_at ss = ap (λ p. sent_earlier s p (sent_at ss)) h in
    let n = found_some ss e es h in
    let x = first_some e es in
    (λ i. alert_of f.labels (c i) (q i))
    ∙ (found_in (e ∷ es) (sent_at ss) now hold keep f n.0 x.0 (fired_at (e ∷ es)) (last_moved (e ∷ es))
    (nat_le (unwrap_or (last_moved (e ∷ es)) x.0.time + hold) now) n.1 x.1 refl refl refl
    ∙ sym (ap (λ d. Some (found_record (alert_of f.labels d (sent_at ss)) f now hold)) (course_in ss e es h)))

pub found_alert : (ss : List Sight) (now hold keep : ℕ) (f : RuleElement)
    → unsent_alert f.labels (sight now hold keep (Some f) ∷ ss) ≡ Some (found_record (alert f.labels ss) f now hold)
found_alert ss now hold keep f = found_by ss now hold keep f (episode ss) refl

-- an alert is missing

pub missing_pending : (labels : List Pair) (ep : List Sight) (sent : Option ℕ) (now hold keep : ℕ) (g : RuleElement)
    → newest_found ep ≡ Some g → fired_at ep ≡ None
    → alert_of labels (record { last = ep; after = sight now hold keep None ∷ [] }) sent ≡ gone_on (alert_of labels (going ep) sent) None now hold keep
missing_pending labels ep sent now hold keep g n i = simp (n, i)

pub missing_kept : (labels : List Pair) (ep : List Sight) (sent : Option ℕ) (now hold keep : ℕ) (g : RuleElement) (x : Sight) (y : ℕ) (z : Option Sight)
    → newest_found ep ≡ Some g → first_sight ep ≡ Some x → fired_at ep ≡ Some y → first_sight (gap ep) ≡ z
    → nat_lt now (unwrap_or (option_map (λ (s : Sight). s.time) z) now + keep) ≡ true
    → alert_of labels (going (sight now hold keep None ∷ ep)) sent ≡ gone_on (alert_of labels (going ep) sent) None now hold keep
missing_kept labels ep sent now hold keep g x y None n e i q t = simp (n, e, i, q, t)
missing_kept labels ep sent now hold keep g x y (Some z) n e i q t = simp (n, e, i, q, t)

pub missing_over : (labels : List Pair) (ep : List Sight) (sent : Option ℕ) (now hold keep : ℕ) (g : RuleElement) (x : Sight) (y : ℕ) (z : Option Sight)
    → newest_found ep ≡ Some g → first_sight ep ≡ Some x → fired_at ep ≡ Some y → first_sight (gap ep) ≡ z
    → nat_lt now (unwrap_or (option_map (λ (s : Sight). s.time) z) now + keep) ≡ false → nat_le now (now + 900000) ≡ true
    → alert_of labels (record { last = ep; after = sight now hold keep None ∷ [] }) sent ≡ gone_on (alert_of labels (going ep) sent) None now hold keep
missing_over labels ep sent now hold keep g x y None n e i q t l = simp (n, e, i, q, t, l)
missing_over labels ep sent now hold keep g x y (Some z) n e i q t l = simp (n, e, i, q, t, l)

pub kept_by : (ss ep : List Sight) (now hold keep y : ℕ) (z : Option Sight) → fired_at ep ≡ Some y → first_sight (gap ss) ≡ z
    → is_kept (sight now hold keep None) ss ep ≡ nat_lt now (unwrap_or (option_map (λ (s : Sight). s.time) z) now + keep)
kept_by ss ep now hold keep y None i q = simp (i, q)
kept_by ss ep now hold keep y (Some z) i q = simp (i, q)
