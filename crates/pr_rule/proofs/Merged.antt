-- Merged records are the alerts of the lineage with one more evaluation.
use Rattle.std.specs.Prelude.{◌≡◌, ℕ, Bool, true, false, cond, List, [], ◌∷◌, ◌++◌, Option, Some, None}
use Rattle.std.specs.Option.{option_to_list}
use Rattle.std.specs.declared.cmp.Ordering.{Ordering}
use Rattle.std.specs.declared.cmp.Ordering.TheVariants.{Less, Equal, Greater}
use Rattle.std.proofs.Common.{refl, sym, ◌∙◌, ap, subst}
use Rattle.std.proofs.lemmas.List.{reverse-append}
use Rattle.pr_labels.specs.declared.pair.Pair.{Pair}
use Rattle.pr_labels.specs.Order.{labels_cmp, labels_eq}
use Rattle.pr_labels.specs.Rising.{IsRising}
use Rattle.pr_labels.proofs.LabelOrder.{labels_decide, tied, turned}
use Rattle.spec_rules.specs.spec_alerts.declared.found.RuleElement.{RuleElement}
use Rattle.spec_rules.specs.spec_alerts.declared.record.Record.{Record}
use Rattle.spec_rules.specs.spec_alerts.Lineage.{Occurrence, came_to, counted, counted_from}
use Rattle.spec_rules.specs.spec_alerts.Records.{evaluation, unsent_alert}
use Rattle.spec_rules.specs.spec_alerts.Sights.{found_with, sights}
use Rattle.pr_rule.specs.private.Going.{gone_on, missing_record}
use Rattle.pr_rule.specs.private.Merging.{Moment, all_missing, found_at, merged, merged_with, met, moment}
use Rattle.pr_rule.specs.private.AlertStanding.{StandsFor, StandsUnsent, record_at, sets_in, sets_of}
use Rattle.pr_rule.proofs.Lookups.{HasSame, IsOver, Over, all_missing_at, found_first, found_same, missing_first, missing_same, none_over, over_rising, rising_over, weaker}
use Rattle.pr_rule.proofs.MissingAlerts.{HasLabels, alert_goes_on}

met_at : (m : Moment) (x : List Pair) (f : RuleElement) (fs : List RuleElement)
    → ((low : Option (List Pair)) (rs : List Record) → Over low (sets_of rs)
    → record_at x (merged m fs rs) ≡ gone_on (record_at x rs) (found_with x fs) m.now m.hold m.keep)
    → Over (Some f.labels) (sets_in fs) → (r : Record) (rs : List Record) (o : Ordering) → labels_cmp r.labels f.labels ≡ o
    → Over (Some r.labels) (sets_of rs)
    → record_at x (merged_with m f (merged m fs) rs) ≡ gone_on (record_at x rs) (found_with x (f ∷ fs)) m.now m.hold m.keep
    → record_at x (met m o r f (merged_with m f (merged m fs) rs) (merged m fs rs) (merged m fs (r ∷ rs)))
    ≡ gone_on (record_at x (r ∷ rs)) (found_with x (f ∷ fs)) m.now m.hold m.keep
met_at m x f fs ih p r rs Less h k e =
    missing_first m x r rs (merged_with m f (merged m fs) rs) (f ∷ fs) (labels_eq x r.labels) refl k (h, p) e
met_at m x f fs ih p r rs Equal h k e =
    let same : r.labels ≡ f.labels = tied r.labels f.labels h in
    let mine : labels_eq f.labels r.labels ≡ true = (labels_decide f.labels r.labels).1 (sym same) in
    found_first m x (Some r) f (r ∷ rs) (merged m fs rs) [] fs (labels_eq x f.labels) refl same
    (λ i. cond (mine i) (Some r) (record_at f.labels rs))
    (λ b. let other : labels_eq x r.labels ≡ false = ap (labels_eq x) same ∙ b in
    ih (Some r.labels) rs k ∙ sym (λ i. gone_on (cond (other i) (Some r) (record_at x rs)) (found_with x fs) m.now m.hold m.keep))
met_at m x f fs ih p r rs Greater h k e =
    found_first m x None f (r ∷ rs) (merged m fs (r ∷ rs)) [] fs (labels_eq x f.labels) refl tt
    (none_over f.labels (r ∷ rs) (turned r.labels f.labels h, k))
    (λ b. ih (Some f.labels) (r ∷ rs) (turned r.labels f.labels h, k))

at_with : (m : Moment) (x : List Pair) (f : RuleElement) (fs : List RuleElement)
    → ((low : Option (List Pair)) (rs : List Record) → Over low (sets_of rs)
    → record_at x (merged m fs rs) ≡ gone_on (record_at x rs) (found_with x fs) m.now m.hold m.keep)
    → Over (Some f.labels) (sets_in fs) → (low : Option (List Pair)) (rs : List Record) → Over low (sets_of rs)
    → record_at x (merged_with m f (merged m fs) rs) ≡ gone_on (record_at x rs) (found_with x (f ∷ fs)) m.now m.hold m.keep
at_with m x f fs ih p low [] o =
    found_first m x None f [] (merged m fs []) [] fs (labels_eq x f.labels) refl tt refl (λ b. ih None [] tt)
at_with m x f fs ih p low (r ∷ rs) o =
    met_at m x f fs ih p r rs (labels_cmp r.labels f.labels) refl o.1 (at_with m x f fs ih p (Some r.labels) rs o.1)

-- at each label set, what was there goes on
pub merged_at : (m : Moment) (x : List Pair) (fs : List RuleElement) (rs : List Record) (low high : Option (List Pair))
    → Over high (sets_in fs) → Over low (sets_of rs)
    → record_at x (merged m fs rs) ≡ gone_on (record_at x rs) (found_with x fs) m.now m.hold m.keep
merged_at m x [] rs low high p o = all_missing_at m x low rs o
merged_at m x (f ∷ fs) rs low high p o =
    at_with m x f fs (λ l ss q. merged_at m x fs ss l (Some f.labels) p.1 q) p.1 low rs o

-- label order

pub front_over : (low : Option (List Pair)) (y : List Pair) (o : Option Record) (more : List Record) → HasSame y o → IsOver low y
    → Over (Some y) (sets_of more) → Over low (sets_of (option_to_list o ++ more))
front_over low y None more s h k = weaker low y (sets_of more) h k
front_over low y (Some r) more s h k =
    (subst (λ (l : List Pair). IsOver low l) (sym s) h, subst (λ (l : List Pair). Over (Some l) (sets_of more)) (sym s) k)

found_over : (m : Moment) (low : Option (List Pair)) (before : Option Record) (f : RuleElement) (more : List Record) → HasSame f.labels before
    → IsOver low f.labels → Over (Some f.labels) (sets_of more) → Over low (sets_of (found_at m before f ∷ more))
found_over m low before f more s h k = front_over low f.labels (Some (found_at m before f)) more (found_same before f m.now m.hold s) h k

all_missing_over : (m : Moment) (low : Option (List Pair)) (rs : List Record) → Over low (sets_of rs) → Over low (sets_of (all_missing m rs))
all_missing_over m low [] o = tt
all_missing_over m low (r ∷ rs) o =
    front_over low r.labels (missing_record r m.now m.keep) (all_missing m rs) (missing_same r m.now m.keep) o.0
    (all_missing_over m (Some r.labels) rs o.1)

met_over : (m : Moment) (low : Option (List Pair)) (f : RuleElement) (fs : List RuleElement)
    → ((l : Option (List Pair)) (ss : List Record) → Over l (sets_in fs) → Over l (sets_of ss) → Over l (sets_of (merged m fs ss)))
    → IsOver low f.labels → Over (Some f.labels) (sets_in fs) → (r : Record) (rs : List Record) (o : Ordering) → labels_cmp r.labels f.labels ≡ o
    → IsOver low r.labels → Over (Some r.labels) (sets_of rs)
    → (labels_cmp r.labels f.labels ≡ Less → Over (Some r.labels) (sets_of (merged_with m f (merged m fs) rs)))
    → Over low (sets_of (met m o r f (merged_with m f (merged m fs) rs) (merged m fs rs) (merged m fs (r ∷ rs))))
met_over m low f fs ih a p r rs Less h b k e =
    front_over low r.labels (missing_record r m.now m.keep) (merged_with m f (merged m fs) rs) (missing_same r m.now m.keep) b (e h)
met_over m low f fs ih a p r rs Equal h b k e =
    let same : r.labels ≡ f.labels = tied r.labels f.labels h in
    found_over m low (Some r) f (merged m fs rs) same a
    (ih (Some f.labels) rs p (subst (λ (l : List Pair). Over (Some l) (sets_of rs)) same k))
met_over m low f fs ih a p r rs Greater h b k e =
    found_over m low None f (merged m fs (r ∷ rs)) tt a (ih (Some f.labels) (r ∷ rs) p (turned r.labels f.labels h, k))

with_over : (m : Moment) (f : RuleElement) (fs : List RuleElement)
    → ((l : Option (List Pair)) (ss : List Record) → Over l (sets_in fs) → Over l (sets_of ss) → Over l (sets_of (merged m fs ss)))
    → Over (Some f.labels) (sets_in fs) → (low : Option (List Pair)) (rs : List Record) → IsOver low f.labels → Over low (sets_of rs)
    → Over low (sets_of (merged_with m f (merged m fs) rs))
with_over m f fs ih p low [] a o = found_over m low None f (merged m fs []) tt a (ih (Some f.labels) [] p tt)
with_over m f fs ih p low (r ∷ rs) a o =
    met_over m low f fs ih a p r rs (labels_cmp r.labels f.labels) refl o.0 o.1 (λ h. with_over m f fs ih p (Some r.labels) rs h o.1)

pub merged_over : (m : Moment) (fs : List RuleElement) (low : Option (List Pair)) (rs : List Record) → Over low (sets_in fs) → Over low (sets_of rs)
    → Over low (sets_of (merged m fs rs))
merged_over m [] low rs p o = all_missing_over m low rs o
merged_over m (f ∷ fs) low rs p o = with_over m f fs (λ l ss q k. merged_over m fs l ss q k) p.1 low rs p.0 o

-- lineages

found_by : (x : List Pair) (f : RuleElement) (rest : Option RuleElement) (b : Bool) → labels_eq x f.labels ≡ b → HasLabels x rest → HasLabels x (cond b (Some f) rest)
found_by x f rest true h k = sym ((labels_decide x f.labels).0 h)
found_by x f rest false h k = k

found_labels : (x : List Pair) (fs : List RuleElement) → HasLabels x (found_with x fs)
found_labels x [] = tt
found_labels x (f ∷ fs) = found_by x f (found_with x fs) (labels_eq x f.labels) refl (found_labels x fs)

pub counted_more : (lineage : List Occurrence) (now hold keep : ℕ) (fs : List RuleElement) (wrote : List (List Pair))
    → counted (lineage ++ evaluation now hold keep (came_to fs) wrote ∷ []) ≡ evaluation now hold keep (came_to fs) wrote ∷ counted lineage
counted_more lineage now hold keep fs wrote = ap counted_from (reverse-append lineage (evaluation now hold keep (came_to fs) wrote ∷ []))

pub merged_stands : (lineage : List Occurrence) (rs : List Record) (fs : List RuleElement) (now hold keep : ℕ) (wrote : List (List Pair))
    → StandsFor rs lineage → IsRising (sets_in fs)
    → StandsUnsent (merged (moment now hold keep) fs rs) (lineage ++ evaluation now hold keep (came_to fs) wrote ∷ [])
merged_stands lineage rs fs now hold keep wrote s p = record {
  rising = rising_over None (sets_of (merged (moment now hold keep) fs rs))
      (merged_over (moment now hold keep) fs None rs (over_rising (sets_in fs) p) (over_rising (sets_of rs) s.rising));
  each = λ x.
      merged_at (moment now hold keep) x fs rs None None (over_rising (sets_in fs) p) (over_rising (sets_of rs) s.rising)
      ∙ (ap (λ o. gone_on o (found_with x fs) now hold keep) (s.each x)
      ∙ (sym (alert_goes_on x (sights x (counted lineage)) now hold keep (found_with x fs) (found_labels x fs))
      ∙ sym (ap (λ steps. unsent_alert x (sights x steps)) (counted_more lineage now hold keep fs wrote))));
}
