-- Records that stand for a lineage are its records, whole and in order.
use Rattle.std.specs.Prelude.{◌≡◌, ℕ, suc, Bool, true, false, ◌||◌, cond, List, [], ◌∷◌, ◌++◌, length, filter, map, Option, Some, None, is_some}
use Rattle.std.specs.List.{cons_option, filter_map}
use Rattle.std.specs.Option.{option_or, option_to_list}
use Rattle.std.specs.declared.cmp.Ordering.{Ordering}
use Rattle.std.specs.declared.cmp.Ordering.TheVariants.{Less, Equal, Greater}
use Rattle.std.proofs.Common.{refl, sym, ◌∙◌, ap, subst}
use Rattle.std.proofs.lemmas.List.{reverse-append}
use Rattle.pr_labels.specs.declared.pair.Pair.{Pair}
use Rattle.pr_labels.specs.Order.{labels_cmp, labels_eq}
use Rattle.pr_labels.specs.Rising.{IsRising, is_among}
use Rattle.pr_labels.proofs.LabelOrder.{among_fold, labels_decide, rising_fold, tied, turned}
use Rattle.spec_rules.specs.spec_alerts.declared.found.RuleElement.{RuleElement}
use Rattle.spec_rules.specs.spec_alerts.declared.record.Record.{Record}
use Rattle.spec_rules.specs.spec_alerts.declared.record.State.{State}
use Rattle.spec_rules.specs.spec_alerts.Episodes.{Course, course, episode, fired_at, is_kept, newest_found}
use Rattle.spec_rules.specs.spec_alerts.Lineage.{Occurrence, came_to, counted, counted_from, exceeded, moved, seen}
use Rattle.spec_rules.specs.spec_alerts.Records.{alert, alert_by, alert_of, evaluation, is_due, is_living, living_count, records, records_after, records_by, sent_at, sent_before, state_by, unsent_records}
use Rattle.spec_rules.specs.spec_alerts.Sights.{Sight, elements, found_with, moved_to, sets_found, sights, sights_from}
use Rattle.pr_rule.specs.private.Merging.{merged, moment}
use Rattle.pr_rule.specs.private.AlertStanding.{StandsFor, StandsUnsent, marked_if, record_at, sets_in, sets_of}
use Rattle.pr_rule.proofs.Courses.{course_out}
use Rattle.pr_rule.proofs.Lookups.{HasSame, Over, at_front, none_over, or_none, over_rising, rising_over}
use Rattle.pr_rule.proofs.Merged.{front_over, merged_stands}
use Rattle.pr_rule.proofs.Sent.{marked_stand}

-- lists in label order that hold the same at each label set are one list

itself : (y : Record) (ys : List Record) → record_at y.labels (y ∷ ys) ≡ Some y
itself y ys = let here : labels_eq y.labels y.labels ≡ true = (labels_decide y.labels y.labels).1 refl in
    λ i. cond (here i) (Some y) (record_at y.labels ys)

some_none : (x : Record) → Some x ≡ None → ⊥
some_none x h = cc

heads : (x y : Record) (xs ys : List Record) (o : Ordering) → labels_cmp x.labels y.labels ≡ o
    → Over (Some x.labels) (sets_of xs) → Over (Some y.labels) (sets_of ys)
    → ((l : List Pair) → record_at l (x ∷ xs) ≡ record_at l (y ∷ ys)) → x ≡ y
heads x y xs ys Less h p q e =
    absurd (some_none x (sym (itself x xs) ∙ (e x.labels ∙ none_over x.labels (y ∷ ys) (h, q))))
heads x y xs ys Greater h p q e =
    absurd (some_none y (sym (itself y ys) ∙ (sym (e y.labels) ∙ none_over y.labels (x ∷ xs) (turned x.labels y.labels h, p))))
heads x y xs ys Equal h p q e =
    let same : x.labels ≡ y.labels = tied x.labels y.labels h in
    let k : Some x ≡ Some y = sym (itself x xs) ∙ (e x.labels ∙ (ap (λ l. record_at l (y ∷ ys)) same ∙ itself y ys)) in
    cc

tails : (x y : Record) (xs ys : List Record) (l : List Pair) (b : Bool) → x ≡ y → labels_eq l x.labels ≡ b
    → Over (Some x.labels) (sets_of xs) → Over (Some y.labels) (sets_of ys)
    → record_at l (x ∷ xs) ≡ record_at l (y ∷ ys) → record_at l xs ≡ record_at l ys
tails x y xs ys l true same h p q e =
    let here : l ≡ x.labels = (labels_decide l x.labels).0 h in
    let there : l ≡ y.labels = here ∙ ap (λ (r : Record). r.labels) same in
    (ap (λ k. record_at k xs) here ∙ none_over x.labels xs p) ∙ sym (ap (λ k. record_at k ys) there ∙ none_over y.labels ys q)
tails x y xs ys l false same h p q e =
    let k : labels_eq l y.labels ≡ false = ap (λ (r : Record). labels_eq l r.labels) (sym same) ∙ h in
    sym (λ i. cond (h i) (Some x) (record_at l xs)) ∙ (e ∙ (λ i. cond (k i) (Some y) (record_at l ys)))

pub one_list : (xs ys : List Record) (low high : Option (List Pair)) → Over low (sets_of xs) → Over high (sets_of ys)
    → ((l : List Pair) → record_at l xs ≡ record_at l ys) → xs ≡ ys
one_list [] [] low high p q e = refl
one_list [] (y ∷ ys) low high p q e = absurd (some_none y (sym (e y.labels ∙ itself y ys)))
one_list (x ∷ xs) [] low high p q e = absurd (some_none x (sym (itself x xs) ∙ e x.labels))
one_list (x ∷ xs) (y ∷ ys) low high p q e =
    let same : x ≡ y = heads x y xs ys (labels_cmp x.labels y.labels) refl p.1 q.1 e in
    let rest : xs ≡ ys = one_list xs ys (Some x.labels) (Some y.labels) p.1 q.1
    (λ l. tails x y xs ys l (labels_eq l x.labels) same refl p.1 q.1 (e l)) in
    λ i. same i ∷ rest i

-- what the records of a lineage hold at each label set

consed : (o : Option Record) (rs : List Record) → cons_option o rs ≡ option_to_list o ++ rs
consed None rs = refl
consed (Some r) rs = refl

chosen_over : (g : List Pair → Option Record) → ((l : List Pair) → HasSame l (g l)) → (low : Option (List Pair)) (sets : List (List Pair)) → Over low sets
    → Over low (sets_of (filter_map g sets))
chosen_over g same low [] o = tt
chosen_over g same low (y ∷ ys) o =
    subst (λ (rs : List Record). Over low (sets_of rs)) (sym (consed (g y) (filter_map g ys)))
    (front_over low y (g y) (filter_map g ys) (same y) o.0 (chosen_over g same (Some y) ys o.1))

chosen_by : (g : List Pair → Option Record) (x y : List Pair) (rest : List Record) (among b : Bool) → HasSame y (g y) → labels_eq x y ≡ b
    → record_at y rest ≡ None → record_at x rest ≡ cond among (g x) None
    → record_at x (option_to_list (g y) ++ rest) ≡ cond (b || among) (g x) None
chosen_by g x y rest among true s h n e =
    let here : x ≡ y = (labels_decide x y).0 h in
    at_front x y (g y) rest true h s
    ∙ (ap (λ o. option_or (g y) o) (ap (λ l. record_at l rest) here ∙ n) ∙ (or_none (g y) ∙ ap g (sym here)))
chosen_by g x y rest among false s h n e = at_front x y (g y) rest false h s ∙ e

chosen_at : (g : List Pair → Option Record) → ((l : List Pair) → HasSame l (g l)) → (x : List Pair) (low : Option (List Pair)) (sets : List (List Pair)) → Over low sets
    → record_at x (filter_map g sets) ≡ cond (is_among x sets) (g x) None
chosen_at g same x low [] o = refl
chosen_at g same x low (y ∷ ys) o =
    ap (record_at x) (consed (g y) (filter_map g ys))
    ∙ chosen_by g x y (filter_map g ys) (is_among x ys) (labels_eq x y) (same y) refl
    (none_over y (filter_map g ys) (chosen_over g same (Some y) ys o.1)) (chosen_at g same x (Some y) ys o.1)

-- a label set that was never found has no alert

abbrev IsNever : List Sight → Type 0
IsNever [] = Unit {0}
IsNever (s ∷ earlier) = (s.found ≡ None) × IsNever earlier

no_episode : (ss : List Sight) → IsNever ss → episode ss ≡ []
no_episode [] h = refl
no_episode (s ∷ earlier) h =
    let e : episode earlier ≡ [] = no_episode earlier h.1 in
    λ i. cond (is_some (h.0 i) || is_kept s earlier (e i)) (s ∷ episode earlier) []

no_last : (ss : List Sight) → IsNever ss → (course ss).last ≡ []
no_last [] h = refl
no_last (s ∷ earlier) h = ap (λ (c : Course). c.last) (course_out s earlier (no_episode (s ∷ earlier) h)) ∙ no_last earlier h.1

no_alert : (labels : List Pair) (ss : List Sight) (sent : Option ℕ) → IsNever ss → alert_of labels (course ss) sent ≡ None
no_alert labels ss sent h =
    λ i. alert_by labels (course ss) sent (newest_found (no_last ss h i)) (state_by (fired_at (course ss).last) (course ss).after)

neither : (a b : Bool) → (a || b) ≡ false → (a ≡ false) × (b ≡ false)
neither true b h = absurd (let k : true ≡ false = h in cc)
neither false b h = (refl, h)

not_found : (x : List Pair) (fs : List RuleElement) → is_among x (sets_in fs) ≡ false → found_with x fs ≡ None
not_found x [] h = refl
not_found x (f ∷ fs) h =
    let k = neither (labels_eq x f.labels) (is_among x (sets_in fs)) h in
    (λ i. cond (k.0 i) (Some f) (found_with x fs)) ∙ not_found x fs k.1

never : (x : List Pair) (later : Option ℕ) (steps : List Occurrence) → is_among x (sets_found steps) ≡ false → IsNever (sights_from x later steps)
never x later [] h = tt
never x later (seen e ∷ earlier) h =
    let k = neither (is_among x (sets_found earlier)) (is_among x (sets_in (elements e.outcome)))
    (sym (among_fold x (sets_found earlier) (sets_in (elements e.outcome))) ∙ h) in
    (not_found x (elements e.outcome) k.1, never x None earlier k.0)
never x later (moved alerts ∷ earlier) h = never x (option_or later (moved_to x alerts)) earlier h

rising_found : (steps : List Occurrence) → IsRising (sets_found steps)
rising_found [] = tt
rising_found (seen e ∷ earlier) = rising_fold (sets_found earlier) (sets_in (elements e.outcome)) (rising_found earlier)
rising_found (moved alerts ∷ earlier) = rising_found earlier

same_alert : (labels : List Pair) (c : Course) (sent : Option ℕ) (n : Option RuleElement) (s : Option State) → HasSame labels (alert_by labels c sent n s)
same_alert labels c sent None s = tt
same_alert labels c sent (Some f) None = tt
same_alert labels c sent (Some f) (Some s) = refl

cut : (o : Option Record) (b : Bool) → (b ≡ false → o ≡ None) → cond b o None ≡ o
cut o true h = refl
cut o false h = sym (h refl)

-- the records of a lineage stand for it
whole : (steps : List Occurrence) (sent : List Sight → Option ℕ) (x : List Pair)
    → record_at x (records_by (λ l ss. alert_of l (course ss) (sent ss)) steps) ≡ alert_of x (course (sights x steps)) (sent (sights x steps))
whole steps sent x =
    let same : (l : List Pair) → HasSame l (alert_of l (course (sights l steps)) (sent (sights l steps)))
    = λ l. same_alert l (course (sights l steps)) (sent (sights l steps)) (newest_found (course (sights l steps)).last)
    (state_by (fired_at (course (sights l steps)).last) (course (sights l steps)).after) in
    chosen_at (λ l. alert_of l (course (sights l steps)) (sent (sights l steps))) same x None (sets_found steps)
    (over_rising (sets_found steps) (rising_found steps))
    ∙ cut (alert_of x (course (sights x steps)) (sent (sights x steps))) (is_among x (sets_found steps))
    (λ b. no_alert x (sights x steps) (sent (sights x steps)) (never x None steps b))

whole_over : (steps : List Occurrence) (sent : List Sight → Option ℕ) → Over None (sets_of (records_by (λ l ss. alert_of l (course ss) (sent ss)) steps))
whole_over steps sent =
    let same : (l : List Pair) → HasSame l (alert_of l (course (sights l steps)) (sent (sights l steps)))
    = λ l. same_alert l (course (sights l steps)) (sent (sights l steps)) (newest_found (course (sights l steps)).last)
    (state_by (fired_at (course (sights l steps)).last) (course (sights l steps)).after) in
    chosen_over (λ l. alert_of l (course (sights l steps)) (sent (sights l steps))) same None (sets_found steps)
    (over_rising (sets_found steps) (rising_found steps))

pub records_stand : (lineage : List Occurrence) → StandsFor (records lineage) lineage
records_stand lineage = record {
  rising = rising_over None (sets_of (records lineage)) (whole_over (counted lineage) sent_at);
  each = whole (counted lineage) sent_at;
}

pub stands_alone : (rs : List Record) (lineage : List Occurrence) → StandsFor rs lineage → rs ≡ records lineage
stands_alone rs lineage s =
    one_list rs (records lineage) None None (over_rising (sets_of rs) s.rising) (whole_over (counted lineage) sent_at)
    (λ x. s.each x ∙ sym (whole (counted lineage) sent_at x))

pub stands_unsent : (rs : List Record) (lineage : List Occurrence) → StandsUnsent rs lineage → rs ≡ unsent_records lineage
stands_unsent rs lineage s =
    one_list rs (unsent_records lineage) None None (over_rising (sets_of rs) s.rising) (whole_over (counted lineage) sent_before)
    (λ x. s.each x ∙ sym (whole (counted lineage) sent_before x))

-- how many alerts are pending or fire

living_by : (now : ℕ) (r : Record) (b : Bool) → is_due now r ≡ b → is_living (marked_if now r) ≡ is_living r
living_by now r true h = simp h
living_by now r false h = simp h

first_by : (b c : Bool) (x y : Record) (xs ys : List Record) → b ≡ c → length xs ≡ length ys
    → length (cond b (x ∷ xs) xs) ≡ length (cond c (y ∷ ys) ys)
first_by true true x y xs ys h e = ap (λ n. suc n) e
first_by true false x y xs ys h e = absurd (let k : true ≡ false = h in cc)
first_by false true x y xs ys h e = absurd (let k : false ≡ true = h in cc)
first_by false false x y xs ys h e = e

living_marked : (now : ℕ) (rs : List Record) → living_count (map (marked_if now) rs) ≡ living_count rs
living_marked now [] = refl
living_marked now (r ∷ rs) =
    first_by (is_living (marked_if now r)) (is_living r) (marked_if now r) r (filter is_living (map (marked_if now) rs)) (filter is_living rs)
    (living_by now r (is_due now r) refl) (living_marked now rs)

pub living_after : (lineage : List Occurrence) (rs : List Record) (fs : List RuleElement) (now hold keep : ℕ) → StandsFor rs lineage → IsRising (sets_in fs)
    → living_count (merged (moment now hold keep) fs rs) ≡ living_count (records_after lineage now hold keep fs)
living_after lineage rs fs now hold keep s p =
    let after : List Occurrence = lineage ++ evaluation now hold keep (came_to fs) [] ∷ [] in
    let e : map (marked_if now) (merged (moment now hold keep) fs rs) ≡ records after
    = stands_alone (map (marked_if now) (merged (moment now hold keep) fs rs)) after
    (marked_stand lineage (merged (moment now hold keep) fs rs) fs now hold keep [] (merged_stands lineage rs fs now hold keep [] s p)) in
    sym (living_marked now (merged (moment now hold keep) fs rs)) ∙ ap living_count e

-- after the limit was exceeded there are none
pub none_after : (lineage : List Occurrence) (now hold keep : ℕ) (wrote : List (List Pair))
    → StandsFor [] (lineage ++ evaluation now hold keep exceeded wrote ∷ [])
none_after lineage now hold keep wrote = record {
  rising = tt;
  each = λ x. sym (ap (λ steps. alert x (sights x steps))
      (ap counted_from (reverse-append lineage (evaluation now hold keep exceeded wrote ∷ []))));
}
