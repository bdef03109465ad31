-- What merged records hold at each label set.
use Rattle.std.specs.Prelude.{◌≡◌, ℕ, ◌+◌, Bool, true, false, cond, nat_le, nat_lt, List, [], ◌∷◌, ◌++◌, Option, Some, None, unwrap_or}
use Rattle.std.specs.Option.{option_or, option_to_list}
use Rattle.std.specs.declared.cmp.Ordering.TheVariants.{Less}
use Rattle.std.specs.Ordering.{is_eq}
use Rattle.std.proofs.Common.{refl, sym, ◌∙◌, ap}
use Rattle.pr_labels.specs.declared.pair.Pair.{Pair}
use Rattle.pr_labels.specs.Order.{labels_cmp, labels_eq, labels_tie}
use Rattle.pr_labels.specs.Rising.{IsBelowFirstSet, IsRising}
use Rattle.pr_labels.proofs.LabelOrder.{labels_decide, labels_total}
use Rattle.spec_rules.specs.spec_alerts.declared.found.RuleElement.{RuleElement}
use Rattle.spec_rules.specs.spec_alerts.declared.record.Record.{Record}
use Rattle.spec_rules.specs.spec_alerts.declared.record.State.{State}
use Rattle.spec_rules.specs.spec_alerts.declared.record.State.TheVariants.{Pending, Firing, Resolved}
use Rattle.spec_rules.specs.spec_alerts.Sights.{found_with}
use Rattle.pr_rule.specs.private.Going.{fired_by, found_again, found_or_begun, found_record, gone_on, kept_firing, kept_over, missing_by, missing_record}
use Rattle.pr_rule.specs.private.Merging.{Moment, all_missing, found_at, missing_at}
use Rattle.pr_rule.specs.private.AlertStanding.{record_at, sets_in, sets_of}

-- label sets in label order, the first of which is above a bound, if there is one
abbrev pub IsOver : Option (List Pair) → List Pair → Type 0
IsOver None y = Unit {0}
IsOver (Some x) y = labels_cmp x y ≡ Less

abbrev pub Over : Option (List Pair) → List (List Pair) → Type 0
Over low [] = Unit {0}
Over low (y ∷ ys) = IsOver low y × Over (Some y) ys

over_some : (x : List Pair) (ys : List (List Pair)) → IsBelowFirstSet x ys → IsRising ys → Over (Some x) ys
over_some x [] b r = tt
over_some x (y ∷ ys) b r = (b, over_some y ys r.0 r.1)

pub over_rising : (ys : List (List Pair)) → IsRising ys → Over None ys
over_rising [] r = tt
over_rising (y ∷ ys) r = (tt, over_some y ys r.0 r.1)

below_over : (x : List Pair) (ys : List (List Pair)) → Over (Some x) ys → IsBelowFirstSet x ys
below_over x [] o = tt
below_over x (y ∷ ys) o = o.0

pub rising_over : (low : Option (List Pair)) (ys : List (List Pair)) → Over low ys → IsRising ys
rising_over low [] o = tt
rising_over low (y ∷ ys) o = (below_over y ys o.1, rising_over (Some y) ys o.1)

weaker_at : (low : Option (List Pair)) (x y : List Pair) → IsOver low x → labels_cmp x y ≡ Less → IsOver low y
weaker_at None x y o h = tt
weaker_at (Some z) x y o h = labels_total.trans z x y o h

pub weaker : (low : Option (List Pair)) (x : List Pair) (ys : List (List Pair)) → IsOver low x → Over (Some x) ys → Over low ys
weaker low x [] o h = tt
weaker low x (y ∷ ys) o h = (weaker_at low x y o h.0, h.1)

pub apart : (x y : List Pair) → labels_cmp x y ≡ Less → labels_eq x y ≡ false
apart x y h = labels_tie x y ∙ ap is_eq h

pub none_over : (x : List Pair) (rs : List Record) → Over (Some x) (sets_of rs) → record_at x rs ≡ None
none_over x [] o = refl
none_over x (r ∷ rs) o = rw (apart x r.labels o.0) (none_over x rs (weaker (Some x) r.labels (sets_of rs) o.0 o.1))

pub none_found : (x : List Pair) (fs : List RuleElement) → Over (Some x) (sets_in fs) → found_with x fs ≡ None
none_found x [] o = refl
none_found x (f ∷ fs) o = rw (apart x f.labels o.0) (none_found x fs (weaker (Some x) f.labels (sets_in fs) o.0 o.1))

-- Labels of records that go on

abbrev pub HasSame : List Pair → Option Record → Type 0
HasSame x None = Unit {0}
HasSame x (Some r) = r.labels ≡ x

kept_same : (r : Record) (since now keep : ℕ) (b : Bool) → nat_lt now (since + keep) ≡ b → (kept_firing r since now keep).labels ≡ r.labels
kept_same r since now keep true h = simp h
kept_same r since now keep false h = simp h

over_same : (o : Option ℕ) (r : Record) (now : ℕ) → HasSame r.labels (kept_over o r now)
over_same None r now = tt
over_same (Some at) r now = by (nat_le now (at + 900000)) where
  by : (b : Bool) → HasSame r.labels (cond b (Some r) None)
  by true = refl
  by false = tt

missing_same_by : (s : State) (r : Record) (now keep : ℕ) → HasSame r.labels (missing_by s r now keep)
missing_same_by Pending r now keep = tt
missing_same_by Firing r now keep = kept_same r (unwrap_or r.held now) now keep (nat_lt now (unwrap_or r.held now + keep)) refl
missing_same_by Resolved r now keep = over_same r.resolved r now

pub missing_same : (r : Record) (now keep : ℕ) → HasSame r.labels (missing_record r now keep)
missing_same r now keep = missing_same_by r.state r now keep

fired_same_by : (s : State) (r : Record) (now hold : ℕ) → (fired_by s r now hold).labels ≡ r.labels
fired_same_by Pending r now hold = by (nat_le (r.active + hold) now) refl where
  by : (b : Bool) → nat_le (r.active + hold) now ≡ b → (fired_by Pending r now hold).labels ≡ r.labels
  by true h = simp h
  by false h = simp h
fired_same_by Firing r now hold = refl
fired_same_by Resolved r now hold = refl

again_same : (s : State) (r : Record) (f : RuleElement) (now : ℕ) → r.labels ≡ f.labels → (found_again s r f now).labels ≡ f.labels
again_same Pending r f now h = h
again_same Firing r f now h = h
again_same Resolved r f now h = refl

or_same : (o : Option Record) (f : RuleElement) (now : ℕ) → HasSame f.labels o → (found_or_begun o f now).labels ≡ f.labels
or_same None f now h = refl
or_same (Some r) f now h = again_same r.state r f now h

pub found_same : (o : Option Record) (f : RuleElement) (now hold : ℕ) → HasSame f.labels o → (found_record o f now hold).labels ≡ f.labels
found_same o f now hold h =
    fired_same_by (found_or_begun o f now).state (found_or_begun o f now) now hold ∙ or_same o f now h

-- Looking up

pub at_front : (x y : List Pair) (o : Option Record) (more : List Record) (b : Bool) → labels_eq x y ≡ b → HasSame y o
    → record_at x (option_to_list o ++ more) ≡ cond b (option_or o (record_at x more)) (record_at x more)
at_front x y None more true h s = refl
at_front x y None more false h s = refl
at_front x y (Some r) more true h s = rw (ap (labels_eq x) s ∙ h) refl
at_front x y (Some r) more false h s = rw (ap (labels_eq x) s ∙ h) refl

pub or_none : (o : Option Record) → option_or o None ≡ o
or_none None = refl
or_none (Some r) = refl

-- a record that is missing stands first, and what comes after it is known
pub missing_first : (m : Moment) (x : List Pair) (r : Record) (rs more : List Record) (fs : List RuleElement) (b : Bool) → labels_eq x r.labels ≡ b
    → Over (Some r.labels) (sets_of rs) → Over (Some r.labels) (sets_in fs)
    → record_at x more ≡ gone_on (record_at x rs) (found_with x fs) m.now m.hold m.keep
    → record_at x (missing_at m r ++ more) ≡ gone_on (record_at x (r ∷ rs)) (found_with x fs) m.now m.hold m.keep
missing_first m x r rs more fs true h o p e =
    let same : x ≡ r.labels = (labels_decide x r.labels).0 h in
    let here : record_at x rs ≡ None = ap (λ l. record_at l rs) same ∙ none_over r.labels rs o in
    let found : found_with x fs ≡ None = ap (λ l. found_with l fs) same ∙ none_found r.labels fs p in
    let later : record_at x more ≡ None = e ∙ (λ i. gone_on (here i) (found i) m.now m.hold m.keep) in
    at_front x r.labels (missing_record r m.now m.keep) more true h (missing_same r m.now m.keep)
    ∙ (ap (λ l. option_or (missing_record r m.now m.keep) l) later ∙ (or_none (missing_record r m.now m.keep)
    ∙ sym (λ i. gone_on (cond (h i) (Some r) (record_at x rs)) (found i) m.now m.hold m.keep)))
missing_first m x r rs more fs false h o p e =
    at_front x r.labels (missing_record r m.now m.keep) more false h (missing_same r m.now m.keep)
    ∙ (e ∙ sym (λ i. gone_on (cond (h i) (Some r) (record_at x rs)) (found_with x fs) m.now m.hold m.keep))

pub all_missing_at : (m : Moment) (x : List Pair) (low : Option (List Pair)) (rs : List Record) → Over low (sets_of rs)
    → record_at x (all_missing m rs) ≡ gone_on (record_at x rs) None m.now m.hold m.keep
all_missing_at m x low [] o = refl
all_missing_at m x low (r ∷ rs) o =
    missing_first m x r rs (all_missing m rs) [] (labels_eq x r.labels) refl o.1 tt (all_missing_at m x (Some r.labels) rs o.1)

-- an element stands first
pub found_first : (m : Moment) (x : List Pair) (before : Option Record) (f : RuleElement) (rs more : List Record) (later : List Record) (fs : List RuleElement) (b : Bool)
    → labels_eq x f.labels ≡ b → HasSame f.labels before → record_at f.labels rs ≡ before
    → (b ≡ false → record_at x more ≡ gone_on (record_at x rs) (found_with x fs) m.now m.hold m.keep)
    → record_at x (found_at m before f ∷ more) ≡ gone_on (record_at x rs) (found_with x (f ∷ fs)) m.now m.hold m.keep
found_first m x before f rs more later fs true h s k e =
    let same : x ≡ f.labels = (labels_decide x f.labels).0 h in
    let here : record_at x rs ≡ before = ap (λ l. record_at l rs) same ∙ k in
    let mine : labels_eq x (found_record before f m.now m.hold).labels ≡ true = ap (labels_eq x) (found_same before f m.now m.hold s) ∙ h in
    (λ i. cond (mine i) (Some (found_at m before f)) (record_at x more))
    ∙ sym (λ i. gone_on (here i) (cond (h i) (Some f) (found_with x fs)) m.now m.hold m.keep)
found_first m x before f rs more later fs false h s k e =
    let mine : labels_eq x (found_record before f m.now m.hold).labels ≡ false = ap (labels_eq x) (found_same before f m.now m.hold s) ∙ h in
    (λ i. cond (mine i) (Some (found_at m before f)) (record_at x more))
    ∙ (e refl ∙ sym (λ i. gone_on (record_at x rs) (cond (h i) (Some f) (found_with x fs)) m.now m.hold m.keep))
