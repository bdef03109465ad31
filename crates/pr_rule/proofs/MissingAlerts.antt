-- The alert of a label set that is missing goes on as its record does.
use Rattle.std.specs.Prelude.{◌≡◌, ℕ, ◌+◌, Bool, true, false, ◌&&◌, ◌||◌, cond, nat_lt, nat_le, List, [], ◌∷◌, Option, Some, None, is_some, unwrap_or}
use Rattle.std.specs.List.{list_all}
use Rattle.std.specs.Option.{option_map}
use Rattle.std.proofs.Common.{refl, sym, ◌∙◌, ap, subst, arith}
use Rattle.std.proofs.lemmas.Bool.{le-leb}
use Rattle.pr_labels.specs.declared.pair.Pair.{Pair}
use Rattle.spec_rules.specs.spec_alerts.declared.found.RuleElement.{RuleElement}
use Rattle.spec_rules.specs.spec_alerts.Sights.{Sight}
use Rattle.spec_rules.specs.spec_alerts.Episodes.{Course, course, episode, fired_at, first_sight, gap, is_kept, is_within, missing_since, newest_found}
use Rattle.spec_rules.specs.spec_alerts.Records.{alert, alert_of, sent_at, sent_earlier, unsent_alert}
use Rattle.pr_rule.specs.private.Going.{gone_on}
use Rattle.pr_rule.proofs.Courses.{course_in, course_out, first_some, found_some, gap_episode}
use Rattle.pr_rule.proofs.FoundAlerts.{found_alert, kept_by, missing_kept, missing_over, missing_pending, sight, going}

-- the course after a sight that is in no episode
abbrev followed : Sight → Course → Course
followed s c = record { last = c.last; after = s ∷ c.after }

le_later : (n : ℕ) → nat_le n (n + 900000) ≡ true
le_later n = le-leb n (n + 900000) (omega arith)

missing_fired : (labels : List Pair) (ss : List Sight) (now hold keep : ℕ) (e : Sight) (es : List Sight) (y : ℕ) (b : Bool)
    → episode ss ≡ e ∷ es → fired_at (e ∷ es) ≡ Some y
    → nat_lt now (unwrap_or (option_map (λ (s : Sight). s.time) (first_sight (gap (e ∷ es)))) now + keep) ≡ b
    → unsent_alert labels (sight now hold keep None ∷ ss) ≡ gone_on (alert labels ss) None now hold keep
missing_fired labels ss now hold keep e es y true h i t =
    let s : Sight = sight now hold keep None in
    let n = found_some ss e es h in
    let x = first_some e es in
    let g : gap (e ∷ es) ≡ gap ss = sym (ap gap h) ∙ gap_episode ss e es h in
    let k : is_kept s ss (episode ss) ≡ true = ap (is_kept s ss) h ∙ (kept_by ss (e ∷ es) now hold keep y (first_sight (gap (e ∷ es))) i (ap first_sight (sym g)) ∙ t) in
    let p : episode (s ∷ ss) ≡ s ∷ e ∷ es = (λ j. cond (false || k j) (s ∷ h j) []) in
    let c : course (s ∷ ss) ≡ going (s ∷ e ∷ es) = course_in (s ∷ ss) s (e ∷ es) p in
    let q : sent_earlier s (episode ss) (sent_at ss) ≡ sent_at ss = ap (λ l. sent_earlier s l (sent_at ss)) h in
    (λ j. alert_of labels (c j) (q j))
    ∙ (missing_kept labels (e ∷ es) (sent_at ss) now hold keep n.0 x.0 y (first_sight (gap (e ∷ es))) n.1 x.1 i refl t
    ∙ sym (ap (λ d. gone_on (alert_of labels d (sent_at ss)) None now hold keep) (course_in ss e es h)))
missing_fired labels ss now hold keep e es y false h i t =
    let s : Sight = sight now hold keep None in
    let n = found_some ss e es h in
    let x = first_some e es in
    let g : gap (e ∷ es) ≡ gap ss = sym (ap gap h) ∙ gap_episode ss e es h in
    let k : is_kept s ss (episode ss) ≡ false = ap (is_kept s ss) h ∙ (kept_by ss (e ∷ es) now hold keep y (first_sight (gap (e ∷ es))) i (ap first_sight (sym g)) ∙ t) in
    let p : episode (s ∷ ss) ≡ [] = (λ j. cond (false || k j) (s ∷ episode ss) []) in
    let c : course (s ∷ ss) ≡ followed s (going (e ∷ es)) = course_out s ss p ∙ ap (followed s) (course_in ss e es h) in
    let q : sent_earlier s (episode ss) (sent_at ss) ≡ sent_at ss = ap (λ l. sent_earlier s l (sent_at ss)) h in
    (λ j. alert_of labels (c j) (q j))
    ∙ (missing_over labels (e ∷ es) (sent_at ss) now hold keep n.0 x.0 y (first_sight (gap (e ∷ es))) n.1 x.1 i refl t (le_later now)
    ∙ sym (ap (λ d. gone_on (alert_of labels d (sent_at ss)) None now hold keep) (course_in ss e es h)))

missing_in : (labels : List Pair) (ss : List Sight) (now hold keep : ℕ) (e : Sight) (es : List Sight) (fired : Option ℕ)
    → episode ss ≡ e ∷ es → fired_at (e ∷ es) ≡ fired
    → unsent_alert labels (sight now hold keep None ∷ ss) ≡ gone_on (alert labels ss) None now hold keep
missing_in labels ss now hold keep e es None h i =
    let s : Sight = sight now hold keep None in
    let n = found_some ss e es h in
    let k : is_kept s ss (episode ss) ≡ false = ap (is_kept s ss) h ∙ ap (λ f. is_some f && is_within s (missing_since (s ∷ ss))) i in
    let p : episode (s ∷ ss) ≡ [] = (λ j. cond (false || k j) (s ∷ episode ss) []) in
    let c : course (s ∷ ss) ≡ followed s (going (e ∷ es)) = course_out s ss p ∙ ap (followed s) (course_in ss e es h) in
    let q : sent_earlier s (episode ss) (sent_at ss) ≡ sent_at ss = ap (λ l. sent_earlier s l (sent_at ss)) h in
    (λ j. alert_of labels (c j) (q j))
    ∙ (missing_pending labels (e ∷ es) (sent_at ss) now hold keep n.0 n.1 i
    ∙ sym (ap (λ d. gone_on (alert_of labels d (sent_at ss)) None now hold keep) (course_in ss e es h)))
missing_in labels ss now hold keep e es (Some y) h i =
    missing_fired labels ss now hold keep e es y
    (nat_lt now (unwrap_or (option_map (λ (s : Sight). s.time) (first_sight (gap (e ∷ es)))) now + keep)) h i refl

-- it was over, or had no alert any more
missing_gone : (labels : List Pair) (last : List Sight) (a : Sight) (more : List Sight) (sent : Option ℕ) (now hold keep : ℕ)
    (n : Option RuleElement) (fired : Option ℕ) (z : Sight) (b c : Bool)
    → newest_found last ≡ n → fired_at last ≡ fired → first_sight (a ∷ more) ≡ Some z → nat_le now (z.time + 900000) ≡ b
    → list_all (λ (s : Sight). nat_le s.time (z.time + 900000)) (a ∷ more) ≡ c
    → alert_of labels (record { last = last; after = sight now hold keep None ∷ a ∷ more }) sent
    ≡ gone_on (alert_of labels (record { last = last; after = a ∷ more }) sent) None now hold keep
missing_gone labels last a more sent now hold keep None fired z b c n i x t u = simp n
missing_gone labels last a more sent now hold keep (Some g) None z b c n i x t u = simp (n, i)
missing_gone labels last a more sent now hold keep (Some g) (Some y) z true true n i x t u = simp (n, i, x, t, u)
missing_gone labels last a more sent now hold keep (Some g) (Some y) z true false n i x t u = simp (n, i, x, t, u)
missing_gone labels last a more sent now hold keep (Some g) (Some y) z false true n i x t u = simp (n, i, x, t, u)
missing_gone labels last a more sent now hold keep (Some g) (Some y) z false false n i x t u = simp (n, i, x, t, u)

missing_out : (labels : List Pair) (ss : List Sight) (now hold keep : ℕ) → episode ss ≡ []
    → unsent_alert labels (sight now hold keep None ∷ ss) ≡ gone_on (alert labels ss) None now hold keep
missing_out labels [] now hold keep h = refl
missing_out labels (a ∷ earlier) now hold keep h =
    let ss : List Sight = a ∷ earlier in
    let s : Sight = sight now hold keep None in
    let last : List Sight = (course earlier).last in
    let after : List Sight = (course earlier).after in
    let x = first_some a after in
    let k : is_kept s ss (episode ss) ≡ false = ap (is_kept s ss) h in
    let p : episode (s ∷ ss) ≡ [] = (λ j. cond (false || k j) (s ∷ episode ss) []) in
    let c : course (s ∷ ss) ≡ record { last = last; after = s ∷ a ∷ after } = course_out s ss p ∙ ap (followed s) (course_out a earlier h) in
    let q : sent_earlier s (episode ss) (sent_at ss) ≡ sent_at ss = ap (λ l. sent_earlier s l (sent_at ss)) h in
    (λ j. alert_of labels (c j) (q j))
    ∙ (missing_gone labels last a after (sent_at ss) now hold keep (newest_found last) (fired_at last) x.0
    (nat_le now (x.0.time + 900000)) (list_all (λ (s : Sight). nat_le s.time (x.0.time + 900000)) (a ∷ after)) refl refl x.1 refl refl
    ∙ sym (ap (λ d. gone_on (alert_of labels d (sent_at ss)) None now hold keep) (course_out a earlier h)))

missing_by : (labels : List Pair) (ss : List Sight) (now hold keep : ℕ) (ep : List Sight) → episode ss ≡ ep
    → unsent_alert labels (sight now hold keep None ∷ ss) ≡ gone_on (alert labels ss) None now hold keep
missing_by labels ss now hold keep [] h = missing_out labels ss now hold keep h
missing_by labels ss now hold keep (e ∷ es) h = missing_in labels ss now hold keep e es (fired_at (e ∷ es)) h refl

pub missing_alert : (labels : List Pair) (ss : List Sight) (now hold keep : ℕ)
    → unsent_alert labels (sight now hold keep None ∷ ss) ≡ gone_on (alert labels ss) None now hold keep
missing_alert labels ss now hold keep = missing_by labels ss now hold keep (episode ss) refl

-- the labels of what is found, if it is
abbrev pub HasLabels : List Pair → Option RuleElement → Type 0
HasLabels labels None = Unit {0}
HasLabels labels (Some f) = f.labels ≡ labels

pub alert_goes_on : (labels : List Pair) (ss : List Sight) (now hold keep : ℕ) (found : Option RuleElement) → HasLabels labels found
    → unsent_alert labels (sight now hold keep found ∷ ss) ≡ gone_on (alert labels ss) found now hold keep
alert_goes_on labels ss now hold keep None h = missing_alert labels ss now hold keep
alert_goes_on labels ss now hold keep (Some f) h =
    subst (λ (l : List Pair). unsent_alert l (sight now hold keep (Some f) ∷ ss) ≡ gone_on (alert l ss) (Some f) now hold keep) h
    (found_alert ss now hold keep f)
