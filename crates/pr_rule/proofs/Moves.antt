-- A restored record stands for the lineage with one more entry, that moves it.
use Rattle.std.specs.Prelude.{◌≡◌, ℕ, zero, suc, Bool, true, false, cond, List, [], ◌∷◌, ◌++◌, find, reverse, slice_get, slice_set, Option, Some, None}
use Rattle.std.specs.Option.{option_map, option_or}
use Rattle.std.specs.declared.cmp.Ordering.TheVariants.{Less, Equal, Greater}
use Rattle.std.proofs.Common.{refl, sym, ◌∙◌, ap, subst}
use Rattle.std.proofs.lemmas.List.{reverse-append}
use Rattle.std.proofs.lemmas.List.Folds.{find-append}
use Rattle.pr_labels.specs.declared.pair.Pair.{Pair}
use Rattle.pr_labels.specs.Order.{labels_cmp, labels_eq}
use Rattle.pr_labels.specs.Rising.{IsRising}
use Rattle.pr_labels.proofs.LabelOrder.{labels_decide, labels_total}
use Rattle.spec_rules.specs.spec_alerts.declared.record.Record.{Record}
use Rattle.spec_rules.specs.spec_alerts.declared.restored.Restored.{Restored}
use Rattle.spec_rules.specs.spec_alerts.Sights.{Sight, moved_to, sights, sights_from}
use Rattle.spec_rules.specs.spec_alerts.Lineage.{Occurrence, counted, counted_from, failed, moved, seen}
use Rattle.spec_rules.specs.spec_alerts.Records.{alert, evaluation, is_living}
use Rattle.spec_rules.specs.spec_alerts.Restoring.{restored_of}
use Rattle.pr_rule.specs.private.Restoring.{moved_at, moves_of, with_active}
use Rattle.pr_rule.specs.private.AlertStanding.{StandsFor, record_at, sets_of}
use Rattle.pr_rule.proofs.Lookups.{Over, apart, over_rising, weaker}
use Rattle.pr_rule.proofs.Moving.{IsLiving, alert_moved, moved_alert, sights_moved}

some_is : (x y : Record) → Some x ≡ Some y → x ≡ y
some_is x y e = cc

-- a record further on has labels above the bound
member_over : (x : List Pair) (rs : List Record) (i : ℕ) (r : Record) → slice_get rs i ≡ Some r → Over (Some x) (sets_of rs) → labels_cmp x r.labels ≡ Less
member_over x [] i r e o = absurd (let k : None ≡ Some r = e in cc)
member_over x (y ∷ ys) zero r e o = subst (λ (z : Record). labels_cmp x z.labels ≡ Less) (some_is y r e) o.0
member_over x (y ∷ ys) (suc i) r e o = labels_total.trans x y.labels r.labels o.0 (member_over y.labels ys i r e o.1)

first_set : (x : List Pair) (y r : Record) (a : ℕ) (ys : List Record) (b : Bool) → y ≡ r → labels_eq x r.labels ≡ b
    → cond (labels_eq x r.labels) (Some (with_active a r)) (record_at x ys)
    ≡ cond (labels_eq x r.labels) (Some (with_active a r)) (cond (labels_eq x y.labels) (Some y) (record_at x ys))
first_set x y r a ys true e h = (λ i. cond (h i) (Some (with_active a r)) (record_at x ys))
    ∙ sym (λ i. cond (h i) (Some (with_active a r)) (cond (labels_eq x y.labels) (Some y) (record_at x ys)))
first_set x y r a ys false e h =
    let k : labels_eq x y.labels ≡ false = ap (λ (z : Record). labels_eq x z.labels) e ∙ h in
    (λ i. cond (h i) (Some (with_active a r)) (record_at x ys))
    ∙ sym (λ i. cond (h i) (Some (with_active a r)) (cond (k i) (Some y) (record_at x ys)))

later_set : (x : List Pair) (y r : Record) (p : Option Record) (rest : Option Record) (b c : Bool) → labels_eq x r.labels ≡ b → labels_eq x y.labels ≡ c
    → labels_cmp y.labels r.labels ≡ Less → cond c (Some y) (cond b p rest) ≡ cond b p (cond c (Some y) rest)
later_set x y r p rest true true h k o =
    let same : y.labels ≡ r.labels = sym ((labels_decide x y.labels).0 k) ∙ (labels_decide x r.labels).0 h in
    let e : labels_eq y.labels r.labels ≡ true = (labels_decide y.labels r.labels).1 same in
    let d : labels_eq y.labels r.labels ≡ false = apart y.labels r.labels o in
    absurd (let z : true ≡ false = sym e ∙ d in cc)
later_set x y r p rest true false h k o = refl
later_set x y r p rest false true h k o = refl
later_set x y r p rest false false h k o = refl

set_at : (x : List Pair) (a : ℕ) (low : Option (List Pair)) (rs : List Record) (i : ℕ) (r : Record) → slice_get rs i ≡ Some r → Over low (sets_of rs)
    → record_at x (slice_set rs i (with_active a r)) ≡ cond (labels_eq x r.labels) (Some (with_active a r)) (record_at x rs)
set_at x a low [] i r e o = absurd (let k : None ≡ Some r = e in cc)
set_at x a low (y ∷ ys) zero r e o = first_set x y r a ys (labels_eq x r.labels) (some_is y r e) refl
set_at x a low (y ∷ ys) (suc i) r e o =
    ap (λ q. cond (labels_eq x y.labels) (Some y) q) (set_at x a (Some y.labels) ys i r e o.1)
    ∙ later_set x y r (Some (with_active a r)) (record_at x ys) (labels_eq x r.labels) (labels_eq x y.labels) refl refl (member_over y.labels ys i r e o.1)

sets_set : (a : ℕ) (rs : List Record) (i : ℕ) (r : Record) → slice_get rs i ≡ Some r → sets_of (slice_set rs i (with_active a r)) ≡ sets_of rs
sets_set a [] i r e = refl
sets_set a (y ∷ ys) zero r e = ap (λ (z : Record). z.labels ∷ sets_of ys) (sym (some_is y r e))
sets_set a (y ∷ ys) (suc i) r e = ap (λ (l : List (List Pair)). y.labels ∷ l) (sets_set a ys i r e)

at_by : (y r : Record) (rest : Option Record) → labels_cmp y.labels r.labels ≡ Less → rest ≡ Some r → cond (labels_eq r.labels y.labels) (Some y) rest ≡ Some r
at_by y r rest o e = by (labels_eq r.labels y.labels) refl where
  by : (b : Bool) → labels_eq r.labels y.labels ≡ b → cond b (Some y) rest ≡ Some r
  by true h = absurd (let d : labels_eq y.labels r.labels ≡ false = apart y.labels r.labels o in
      let t : labels_eq y.labels r.labels ≡ true = (labels_decide y.labels r.labels).1 (sym ((labels_decide r.labels y.labels).0 h)) in
      let z : true ≡ false = sym t ∙ d in cc)
  by false h = e

record_in : (low : Option (List Pair)) (rs : List Record) (i : ℕ) (r : Record) → slice_get rs i ≡ Some r → Over low (sets_of rs) → record_at r.labels rs ≡ Some r
record_in low [] i r e o = absurd (let k : None ≡ Some r = e in cc)
record_in low (y ∷ ys) zero r e o =
    let same : y ≡ r = some_is y r e in
    let here : labels_eq r.labels y.labels ≡ true = (labels_decide r.labels y.labels).1 (ap (λ (z : Record). z.labels) (sym same)) in
    (λ i. cond (here i) (Some y) (record_at r.labels ys)) ∙ e
record_in low (y ∷ ys) (suc i) r e o = at_by y r (record_at r.labels ys) (member_over y.labels ys i r e o.1) (record_in (Some y.labels) ys i r e o.1)

moved_by : (rs : List Record) (steps : List Occurrence) (r : Record) (a : ℕ) (x : List Pair) (b : Bool) → labels_eq x r.labels ≡ b
    → is_living r ≡ true → record_at r.labels rs ≡ Some r → ((l : List Pair) → record_at l rs ≡ alert l (sights l steps))
    → cond b (Some (with_active a r)) (record_at x rs) ≡ alert x (sights_from x (option_map (λ (q : Restored). q.active) (cond b (Some (restored_of r.labels a)) None)) steps)
moved_by rs steps r a x true h living e each =
    let same : x ≡ r.labels = (labels_decide x r.labels).0 h in
    let k : alert x (sights x steps) ≡ Some r = sym (each x) ∙ (ap (λ l. record_at l rs) same ∙ e) in
    sym (ap (alert x) (sights_moved x a None steps)
    ∙ (alert_moved x a (sights x steps) (subst IsLiving (sym k) living) ∙ ap (moved_alert a) k))
moved_by rs steps r a x false h living e each = each x

pub moved_stands : (lineage : List Occurrence) (rs : List Record) (i : ℕ) (r : Record) (a : ℕ) → StandsFor rs lineage → slice_get rs i ≡ Some r → is_living r ≡ true
    → StandsFor (slice_set rs i (with_active a r)) (lineage ++ moved (restored_of r.labels a ∷ []) ∷ [])
moved_stands lineage rs i r a s e living =
    let o : Over None (sets_of rs) = over_rising (sets_of rs) s.rising in
    record {
      rising = subst IsRising (sym (sets_set a rs i r e)) s.rising;
      each = λ x.
          set_at x a None rs i r e o
          ∙ (moved_by rs (counted lineage) r a x (labels_eq x r.labels) refl living (record_in None rs i r e o) s.each
          ∙ sym (ap (λ steps. alert x (sights x steps)) (ap counted_from (reverse-append lineage (moved (restored_of r.labels a ∷ []) ∷ [])))));
    }

-- two entries that move alerts, one after the other, are as one
joined_by : (p q : Option Restored) → option_map (λ (r : Restored). r.active) (option_or p q) ≡ option_or (option_map (λ (r : Restored). r.active) p) (option_map (λ (r : Restored). r.active) q)
joined_by None q = refl
joined_by (Some r) q = refl

moved_to_both : (x : List Pair) (first later : List Restored) → moved_to x (first ++ later) ≡ option_or (moved_to x later) (moved_to x first)
moved_to_both x first later =
    let test : Restored → Bool = λ r. labels_eq x r.labels in
    ap (λ rs. option_map (λ (r : Restored). r.active) (find test rs)) (reverse-append first later)
    ∙ (ap (option_map (λ (r : Restored). r.active)) (find-append test (reverse later) (reverse first))
    ∙ joined_by (find test (reverse later)) (find test (reverse first)))

pub moved_as_one : (lineage : List Occurrence) (rs : List Record) (first later : List Restored)
    → StandsFor rs (lineage ++ moved first ∷ moved later ∷ []) → StandsFor rs (lineage ++ moved (first ++ later) ∷ [])
moved_as_one lineage rs first later s = record {
  rising = s.rising;
  each = λ x.
      s.each x
      ∙ (ap (λ steps. alert x (sights x steps)) (ap counted_from (reverse-append lineage (moved first ∷ moved later ∷ [])))
      ∙ (ap (λ a. alert x (sights_from x a (counted lineage))) (sym (moved_to_both x first later))
      ∙ sym (ap (λ steps. alert x (sights x steps)) (ap counted_from (reverse-append lineage (moved (first ++ later) ∷ []))))));
}

-- an entry that moves none changes nothing
pub none_moved_stands : (lineage : List Occurrence) (rs : List Record) → StandsFor rs lineage → StandsFor rs (lineage ++ moved [] ∷ [])
none_moved_stands lineage rs s = record {
  rising = s.rising;
  each = λ x. s.each x ∙ sym (ap (λ steps. alert x (sights x steps)) (ap counted_from (reverse-append lineage (moved [] ∷ []))));
}

-- a record that was restored, or was not
pub restored_stands : (lineage : List Occurrence) (rs : List Record) (i : ℕ) (r : Record) (time : Option ℕ) → StandsFor rs lineage → slice_get rs i ≡ Some r → is_living r ≡ true
    → StandsFor (moved_at rs i r time) (lineage ++ moved (moves_of r time) ∷ [])
restored_stands lineage rs i r None s e living = none_moved_stands lineage rs s
restored_stands lineage rs i r (Some a) s e living = moved_stands lineage rs i r a s e living

-- a fault other than the limit changes nothing
pub failed_stands : (lineage : List Occurrence) (rs : List Record) (now hold keep : ℕ) (wrote : List (List Pair))
    → StandsFor rs lineage → StandsFor rs (lineage ++ evaluation now hold keep failed wrote ∷ [])
failed_stands lineage rs now hold keep wrote s = record {
  rising = s.rising;
  each = λ x. s.each x ∙ sym (ap (λ steps. alert x (sights x steps))
      (ap counted_from (reverse-append lineage (evaluation now hold keep failed wrote ∷ []))));
}
