-- The restoration of alerts, one after the other.
use Rattle.std.proofs.Common.{◌≡◌, ℕ, zero, suc, ◌+◌, ◌<◌, ◌≤◌, ◌⊎◌, inl, inr, nat_le, nat_lt, Bool, true, false, cond, ◌&&◌, List, [], ◌∷◌, ◌++◌, append_assoc, length, filter, map, set, take, get_or, slice_get, Option, Some, None, option_and_then, refl, sym, ap, ◌∙◌, subst, arith}
use Rattle.std.specs.Prelude.{is_some, sum_by, flat_map}
use Rattle.std.specs.List.{cons_option, filter_map}
use Rattle.std.specs.Option.{option_map, option_to_list}
use Rattle.std.proofs.Math.Numerals.{add-one}
use Rattle.std.proofs.Math.Seq.{take-length}
use Rattle.std.proofs.lemmas.Bool.Decides.{nat_tests}
use borrow.Author.Tests.{leb-true}
use Rattle.std.proofs.lemmas.List.Sums.{sum_by-cons}
use Rattle.std.proofs.lemmas.List.{append-nil, length-append, length-map, length-set, reverse-append}
use Rattle.std.proofs.lemmas.List.Elements.{filter-append, filter_map-append}
use Rattle.std.proofs.lemmas.Option.{get_or_from_slice_get, same_Some, slice_get-map}
use Rattle.pr_ast.specs.pr_labels.declared.pair.Pair.{Pair}
use Rattle.pr_rule.specs.spec_history.declared.entry.Entry.{Entry}
use Rattle.pr_rule.specs.pr_head.declared.timed.Timed.{Timed}
use Rattle.pr_rule.specs.pr_head.private.Holds.{timed}
use Rattle.pr_rule.specs.spec_alerts.declared.record.Record.{Record}
use Rattle.pr_rule.specs.spec_alerts.declared.restored.Restored.{Restored}
use Rattle.pr_rule.specs.spec_alerts.Lineage.{Occurrence, moved, previous, previous_from}
use Rattle.pr_rule.specs.spec_alerts.Records.{is_living, living_count, records}
use Rattle.pr_rule.specs.spec_alerts.Restoring.{for_state_entry, grace_period, moved_time, restored_alert, restored_of, restored_time}
use Rattle.pr_rule.specs.private.Restoring.{moved_at, moves_of, with_active}
use Rattle.pr_rule.specs.private.AlertStanding.{StandsFor}
use Rattle.pr_rule.specs.spec_rules.declared.definitions.RuleDef.{RuleDef}
use Rattle.pr_rule.specs.spec_rules.Definitions.{Rule, rule_of_def}
use Rattle.pr_rule.specs.pr_range.private.Asks.{LastAsks, Passed}
use Rattle.pr_rule.specs.spec_rules.private.Costs.{restored_reads}
use Rattle.pr_rule.specs.spec_rules.Evaluations.{restored_by, restores, with_restored}
use Rattle.pr_rule.specs.spec_rules.Groups.{RuleState}
use Rattle.pr_ast.specs.Tree.{tree_of}
use Rattle.pr_group.specs.private.Asked.{WasAsked}
use Rattle.pr_group.specs.private.Within.{ArePassedWithin}
use Rattle.pr_rule.specs.declared.rule_result.templates.RuleTemplates.{RuleTemplates}
use Rattle.pr_rule.specs.declared.remembered.Remembered.{Remembered}
use Rattle.pr_rule.specs.private.Standing.{StandsForRule}
use Rattle.pr_group.specs.private.Keeping.{AreKept, KeepsRule}
use Rattle.pr_group.specs.private.Restoring.{HaveRestored, IsRestored, OnlyChanges, ranges_of, restored_until}
use Rattle.pr_group.proofs.Places.{below_or, fold_next, none_within, place_there, set_here, set_there, take_next}

-- One alert

moves_are : (r : Record) (t : Option ℕ) → moves_of r t ≡ option_to_list (option_map (restored_of r.labels) t)
moves_are r None = refl
moves_are r (Some active) = refl

stands_moved : (r : Record) (t : Option ℕ) (lineage : List Occurrence) (after : List Record) → StandsFor after (lineage ++ moved (moves_of r t) ∷ []) → StandsFor after (lineage ++ moved (option_to_list (option_map (restored_of r.labels) t)) ∷ [])
stands_moved r t lineage after h = subst (λ (l : List Restored). StandsFor after (lineage ++ moved l ∷ [])) (moves_are r t) h

pub moved_not : (t : Option ℕ) (b : Bool) (r : Record) (lineage : List Occurrence) (after : List Record) → b ≡ is_some t → b ≡ false → StandsFor after (lineage ++ moved (moves_of r t) ∷ [])
    → IsRestored None (option_map (restored_of r.labels) t) lineage after
moved_not None b r lineage after is dead h = record { answers = refl; stands = h }
moved_not (Some active) b r lineage after is dead h = absurd (cc (sym is ∙ dead))

pub moved_so : (t : Option ℕ) (b : Bool) (rs after : List Record) (index : ℕ) (r : Record) (labels : List Pair) (active : ℕ) (lineage : List Occurrence) → slice_get rs index ≡ Some r → labels ≡ r.labels → b ≡ is_some t → b ≡ true
    → after ≡ moved_at rs index r t → ((x : Record) → slice_get after index ≡ Some x → active ≡ x.active) → StandsFor after (lineage ++ moved (moves_of r t) ∷ [])
    → IsRestored (Some (record { labels = labels; active = active })) (option_map (restored_of r.labels) t) lineage after
moved_so None b rs after index r labels active lineage at own is sure moving read h = absurd (cc (sym is ∙ sure))
moved_so (Some time) b rs after index r labels active lineage at own is sure moving read h =
    let there : slice_get after index ≡ Some (with_active time r) = ap (λ (l : List Record). slice_get l index) moving ∙ set_here rs index (with_active time r) (none_within rs index r at) in
    let same : active ≡ time = read (with_active time r) there in
    record {
      answers = λ i. Some (record { labels = own i; active = same i });
      stands = stands_moved r (Some time) lineage after h;
    }

pub only_none : (index : ℕ) (rs after : List Record) → after ≡ rs → OnlyChanges index rs after
only_none index rs after same = record { others = λ j apart. ap (λ (l : List Record). slice_get l j) same; many = ap length same }

only_one : (index : ℕ) (rs after : List Record) (r : Record) (t : Option ℕ) → after ≡ moved_at rs index r t → OnlyChanges index rs after
only_one index rs after r None same = only_none index rs after same
only_one index rs after r (Some active) same = record {
  others = λ j apart. ap (λ (l : List Record). slice_get l j) same ∙ set_there rs index j (with_active active r) apart;
  many = ap length same ∙ length-set rs index (with_active active r);
}

pub only_moved : (index : ℕ) (rs after : List Record) (t : Option ℕ) → index < length rs → ((r : Record) → slice_get rs index ≡ Some r → after ≡ moved_at rs index r t) → OnlyChanges index rs after
only_moved index rs after t within h = let there = place_there rs index within in only_one index rs after there.0 t (h there.0 there.1)

-- An alert that is over is not looked at.
pub over_stays : (history : List Entry) (hold now : ℕ) (rs list : List Record) (index : ℕ) (r x : Record) (lineage : List Occurrence) (b : Bool) → slice_get rs index ≡ Some r → list ≡ rs → x ≡ get_or list index x → b ≡ is_living x → b ≡ false
    → StandsFor rs (lineage ++ moved [] ∷ []) → IsRestored None (restored_alert history hold now r) lineage rs
over_stays history hold now rs list index r x lineage b at same read is over stands =
    let here : x ≡ r = read ∙ ap (λ (l : List Record). get_or l index x) same ∙ get_or_from_slice_get rs index r x at in
    let dead : is_living r ≡ false = sym (ap is_living here) ∙ sym is ∙ over in
    let none : restored_alert history hold now r ≡ None = ap (λ (c : Bool). cond c (option_map (restored_of r.labels) (moved_time history hold now r.labels)) None) dead in
    record { answers = sym none; stands = subst (λ (o : Option Restored). StandsFor rs (lineage ++ moved (option_to_list o) ∷ [])) (sym none) stands }

pub record_here : (rs list : List Record) (index : ℕ) (r x : Record) → slice_get rs index ≡ Some r → list ≡ rs → x ≡ get_or list index x → x ≡ r
record_here rs list index r x at same read = read ∙ ap (λ (l : List Record). get_or l index x) same ∙ get_or_from_slice_get rs index r x at

pub living_here : (rs list : List Record) (index : ℕ) (r x : Record) (b : Bool) → slice_get rs index ≡ Some r → list ≡ rs → x ≡ get_or list index x → b ≡ is_living x → is_living r ≡ b
living_here rs list index r x b at same read is =
    let here : x ≡ r = read ∙ ap (λ (l : List Record). get_or l index x) same ∙ get_or_from_slice_get rs index r x at in
    sym (ap is_living here) ∙ sym is

-- what follows from the newest sample of the last hour
moved_by : (history : List Entry) (hold now : ℕ) (labels : List Pair) (o : Option Timed) → o ≡ option_map timed (for_state_entry history now labels)
    → moved_time history hold now labels ≡ option_and_then (λ t. restored_time hold t.point t.time now) o
moved_by history hold now labels o h = by (for_state_entry history now labels) ∙ ap (option_and_then (λ t. restored_time hold t.point t.time now)) (sym h) where
  by : (e : Option Entry) → option_and_then (λ e. restored_time hold e.point e.time now) e ≡ option_and_then (λ t. restored_time hold t.point t.time now) (option_map timed e)
  by None = refl
  by (Some e) = refl

told_living : (history : List Entry) (hold now : ℕ) (r : Record) (labels : List Pair) (o : Option Timed) → is_living r ≡ true → labels ≡ r.labels → o ≡ option_map timed (for_state_entry history now labels)
    → restored_alert history hold now r ≡ option_map (restored_of r.labels) (option_and_then (λ t. restored_time hold t.point t.time now) o)
told_living history hold now r labels o living own h =
    ap (λ (c : Bool). cond c (option_map (restored_of r.labels) (moved_time history hold now r.labels)) None) living
    ∙ ap (λ (t : Option ℕ). option_map (restored_of r.labels) t)
    (moved_by history hold now r.labels o (h ∙ ap (λ (l : List Pair). option_map timed (for_state_entry history now l)) own))

-- An alert of which nothing was written in the last hour stays.
pub unwritten_stays : (history : List Entry) (hold now : ℕ) (r : Record) (labels : List Pair) (o : Option Timed) (lineage : List Occurrence) (rs : List Record) → is_living r ≡ true → labels ≡ r.labels → o ≡ option_map timed (for_state_entry history now labels)
    → o ≡ None → StandsFor rs (lineage ++ moved [] ∷ []) → IsRestored None (restored_alert history hold now r) lineage rs
unwritten_stays history hold now r labels o lineage rs living own h empty stands =
    let none : restored_alert history hold now r ≡ None =
    told_living history hold now r labels o living own h ∙ ap (λ (x : Option Timed). option_map (restored_of r.labels) (option_and_then (λ t. restored_time hold t.point t.time now) x)) empty in
    record { answers = sym none; stands = subst (λ (x : Option Restored). StandsFor rs (lineage ++ moved (option_to_list x) ∷ [])) (sym none) stands }

-- and one of which something was written is moved by that
pub written_moves : (history : List Entry) (hold now : ℕ) (r : Record) (labels : List Pair) (o : Option Timed) (sample : Timed) (answer : Option Restored) (lineage : List Occurrence) (after : List Record) → is_living r ≡ true → labels ≡ r.labels
    → o ≡ option_map timed (for_state_entry history now labels) → o ≡ Some sample → IsRestored answer (option_map (restored_of r.labels) (restored_time hold sample.point sample.time now)) lineage after
    → IsRestored answer (restored_alert history hold now r) lineage after
written_moves history hold now r labels o sample answer lineage after living own h some w =
    subst (λ (x : Option Restored). IsRestored answer x lineage after)
    (sym (told_living history hold now r labels o living own h ∙ ap (λ (x : Option Timed). option_map (restored_of r.labels) (option_and_then (λ t. restored_time hold t.point t.time now) x)) some)) w

-- The alerts of a rule

one_listed : (o : Option Restored) → cons_option o [] ≡ option_to_list o
one_listed None = refl
one_listed (Some x) = refl

until_next : (history : List Entry) (hold now : ℕ) (rs : List Record) (n : ℕ) (r : Record) → slice_get rs n ≡ Some r → restored_until history hold now rs (n + 1) ≡ restored_until history hold now rs n ++ option_to_list (restored_alert history hold now r)
until_next history hold now rs n r at =
    ap (λ (k : ℕ). restored_until history hold now rs k) (add-one n) ∙ ap (filter_map (restored_alert history hold now)) (take_next rs n r at)
    ∙ filter_map-append (restored_alert history hold now) (take n rs) (r ∷ [])
    ∙ ap (λ (l : List Restored). restored_until history hold now rs n ++ l) (one_listed (restored_alert history hold now r))

pub living_next : (rs : List Record) (n : ℕ) (r : Record) → slice_get rs n ≡ Some r → living_count (take (n + 1) rs) ≡ living_count (take n rs) + cond (is_living r) 1 0
living_next rs n r at =
    ap (λ (k : ℕ). living_count (take k rs)) (add-one n) ∙ ap living_count (take_next rs n r at) ∙ ap length (filter-append is_living (take n rs) (r ∷ []))
    ∙ length-append (filter is_living (take n rs)) (filter is_living (r ∷ [])) ∙ ap (λ (k : ℕ). living_count (take n rs) + k) (one (is_living r)) where
      one : (b : Bool) → length (cond b (r ∷ []) []) ≡ cond b 1 0
      one true = refl
      one false = refl

-- the first ones are no more than all
pub living_front : (n : ℕ) (rs : List Record) → living_count (take n rs) ≤ living_count rs
living_front zero rs = omega arith
living_front (suc n) [] = omega arith
living_front (suc n) (r ∷ rs) = by (is_living r) (living_front n rs) where
  by : (b : Bool) → living_count (take n rs) ≤ living_count rs → length (cond b (r ∷ filter is_living (take n rs)) (filter is_living (take n rs))) ≤ length (cond b (r ∷ filter is_living rs) (filter is_living rs))
  by true h = omega arith
  by false h = h

-- so many are read for the first ones
pub living_reads : (rs : List Record) (n : ℕ) (r : Record) (base a b : ℕ) → slice_get rs n ≡ Some r → a ≤ base + living_count (take n rs) → b ≤ a + cond (is_living r) 1 0 → b ≤ base + living_count (take (n + 1) rs)
living_reads rs n r base a b at so_far more = omega (arith, living_next rs n r at)

pub living_within : (rs : List Record) (n : ℕ) (base b : ℕ) → b ≤ base + living_count (take n rs) → b ≤ base + living_count rs
living_within rs n base b h = omega (arith, living_front n rs)

-- Two moves, one after the other, are as one.
abbrev pub AsOne : Type 0
AsOne = (lineage : List Occurrence) (rs : List Record) (first later : List Restored) → StandsFor rs (lineage ++ moved first ∷ moved later ∷ []) → StandsFor rs (lineage ++ moved (first ++ later) ∷ [])

pub stands_next : AsOne → (history : List Entry) (hold now : ℕ) (lineage : List Occurrence) (rs after : List Record) (n : ℕ) (r : Record) (answer : Option Restored) → slice_get rs n ≡ Some r
    → IsRestored answer (restored_alert history hold now r) (lineage ++ moved (restored_until history hold now rs n) ∷ []) after
    → StandsFor after (lineage ++ moved (restored_until history hold now rs (n + 1)) ∷ [])
stands_next as_one history hold now lineage rs after n r answer at w =
    subst (λ (l : List Restored). StandsFor after (lineage ++ moved l ∷ [])) (sym (until_next history hold now rs n r at))
    (as_one lineage after (restored_until history hold now rs n) (option_to_list (restored_alert history hold now r))
    (subst (StandsFor after) (append_assoc lineage (moved (restored_until history hold now rs n) ∷ []) (moved (option_to_list (restored_alert history hold now r)) ∷ [])) w.stands))

pub told_next : (history : List Entry) (hold now : ℕ) (lineage : List Occurrence) (rs after : List Record) (n : ℕ) (r : Record) (answer : Option Restored) (list so_far more : List Restored) → slice_get rs n ≡ Some r
    → so_far ≡ list ++ restored_until history hold now rs n → IsRestored answer (restored_alert history hold now r) lineage after → more ≡ so_far ++ option_to_list answer
    → more ≡ list ++ restored_until history hold now rs (n + 1)
told_next history hold now lineage rs after n r answer list so_far more at before w pushed =
    pushed ∙ (λ i. before i ++ option_to_list (w.answers i)) ∙ append_assoc list (restored_until history hold now rs n) (option_to_list (restored_alert history hold now r))
    ∙ ap (λ (l : List Restored). list ++ l) (sym (until_next history hold now rs n r at))

-- all were gone over
pub until_all : (history : List Entry) (hold now : ℕ) (rs : List Record) (n : ℕ) → n ≡ length rs → restored_until history hold now rs n ≡ filter_map (restored_alert history hold now) rs
until_all history hold now rs n e = ap (λ (k : ℕ). restored_until history hold now rs k) e ∙ ap (filter_map (restored_alert history hold now)) (take-length rs)

-- A rule

previous_stays : (lineage : List Occurrence) (alerts : List Restored) → previous lineage ≡ previous (lineage ++ moved alerts ∷ [])
previous_stays lineage alerts = sym (ap previous_from (reverse-append lineage (moved alerts ∷ [])))

-- where the rule is an alert that is held for long enough, these are restored, and else none
due_restores : (history : List Entry) (now : ℕ) (r : RuleState) → r.rule.alert ≡ true → nat_lt r.rule.hold grace_period ≡ false → restores history now r ≡ filter_map (restored_alert history r.rule.hold now) (records r.lineage)
due_restores history now r alerting held = ap (λ (b : Bool). restored_by b history now r) alerting ∙ ap (λ (b : Bool). cond b [] (filter_map (restored_alert history r.rule.hold now) (records r.lineage))) held

none_restores : (history : List Entry) (now : ℕ) (r : RuleState) (a b : Bool) → r.rule.alert ≡ a → nat_lt r.rule.hold grace_period ≡ b → (a ≡ true → b ≡ true) → restores history now r ≡ []
none_restores history now r false b alerting held h = ap (λ (b : Bool). restored_by b history now r) alerting
none_restores history now r true true alerting held h = ap (λ (b : Bool). restored_by b history now r) alerting ∙ ap (λ (b : Bool). cond b [] (filter_map (restored_alert history r.rule.hold now) (records r.lineage))) held
none_restores history now r true false alerting held h = absurd (cc (h refl))

-- what it means that a rule is due
pub held_of : (a : Bool) (hold : ℕ) (b : Bool) → b ≡ (a && nat_le 600000 hold) → b ≡ true → (a ≡ true) × (600000 ≤ hold)
held_of true hold b is sure = (refl, leb-true 600000 hold (sym is ∙ sure))
held_of false hold b is sure = absurd (cc (sym is ∙ sure))

pub short_of : (a : Bool) (hold : ℕ) (b : Bool) → b ≡ (a && nat_le 600000 hold) → b ≡ false → a ≡ true → hold < 600000
short_of true hold b is dead sure = let low : nat_le 600000 hold ≡ false = sym is ∙ dead in grind (arith, nat_tests)
short_of false hold b is dead sure = absurd (cc sure)

held_long : (hold : ℕ) → 600000 ≤ hold → nat_lt hold grace_period ≡ false
held_long hold h = grind (arith, nat_tests)

held_short : (hold : ℕ) → hold < 600000 → nat_lt hold grace_period ≡ true
held_short hold h = grind (arith, nat_tests)

pub due_stands : (history : List Entry) (now : ℕ) (definition : Rule) (r : RuleState) (known : RuleTemplates) (wrote : List (List Pair)) (rs after : List Record) → StandsForRule known wrote rs definition r → rs ≡ records r.lineage → definition.alert ≡ true → 600000 ≤ definition.hold
    → StandsFor after (r.lineage ++ moved (filter_map (restored_alert history definition.hold now) rs) ∷ []) → StandsForRule known wrote after definition (with_restored history now r)
due_stands history now definition r known wrote rs after h all alerting held stands =
    let mine : r.rule.alert ≡ true = sym (ap (λ (x : Rule). x.alert) h.rule) ∙ alerting in
    let long : nat_lt r.rule.hold grace_period ≡ false = sym (ap (λ (x : Rule). nat_lt x.hold grace_period) h.rule) ∙ held_long definition.hold held in
    let are : filter_map (restored_alert history definition.hold now) rs ≡ restores history now r =
    (λ i. filter_map (restored_alert history (h.rule i).hold now) (all i)) ∙ sym (due_restores history now r mine long) in
    record {
      rule = h.rule;
      templates = h.templates;
      previous = h.previous ∙ previous_stays r.lineage (restores history now r);
      records = λ is. subst (λ (l : List Restored). StandsFor after (r.lineage ++ moved l ∷ [])) are stands;
    }

pub due_told : (history : List Entry) (now : ℕ) (definition : Rule) (r : RuleState) (rs : List Record) → definition ≡ r.rule → rs ≡ records r.lineage → definition.alert ≡ true → 600000 ≤ definition.hold
    → filter_map (restored_alert history definition.hold now) rs ≡ restores history now r
due_told history now definition r rs same all alerting held =
    let mine : r.rule.alert ≡ true = sym (ap (λ (x : Rule). x.alert) same) ∙ alerting in
    let long : nat_lt r.rule.hold grace_period ≡ false = sym (ap (λ (x : Rule). nat_lt x.hold grace_period) same) ∙ held_long definition.hold held in
    (λ i. filter_map (restored_alert history (same i).hold now) (all i)) ∙ sym (due_restores history now r mine long)

pub due_reads : (definition : Rule) (r : RuleState) (rs : List Record) → definition ≡ r.rule → rs ≡ records r.lineage → definition.alert ≡ true → 600000 ≤ definition.hold → living_count rs ≡ restored_reads r
due_reads definition r rs same all alerting held =
    let mine : r.rule.alert ≡ true = sym (ap (λ (x : Rule). x.alert) same) ∙ alerting in
    let long : nat_le grace_period definition.hold ≡ true = grind (arith, nat_tests) in
    let own : nat_le grace_period r.rule.hold ≡ true = sym (ap (λ (x : Rule). nat_le grace_period x.hold) same) ∙ long in
    ap living_count all ∙ sym (λ i. cond (mine i && own i) (living_count (records r.lineage)) 0)

-- a rule of which nothing is restored: it records, or its alerts are not held for long enough
not_due : (definition : Rule) (r : RuleState) → definition ≡ r.rule → (definition.alert ≡ true → definition.hold < 600000) → (history : List Entry) (now : ℕ) → restores history now r ≡ []
not_due definition r same short history now =
    none_restores history now r r.rule.alert (nat_lt r.rule.hold grace_period) refl refl (λ is.
    sym (ap (λ (x : Rule). nat_lt x.hold grace_period) same) ∙ held_short definition.hold (short (ap (λ (x : Rule). x.alert) same ∙ is)))

pub undue_stands : ((lineage : List Occurrence) (rs : List Record) → StandsFor rs lineage → StandsFor rs (lineage ++ moved [] ∷ [])) → (history : List Entry) (now : ℕ) (definition : Rule) (r : RuleState) (known : RuleTemplates) (wrote : List (List Pair)) (rs : List Record)
    → StandsForRule known wrote rs definition r → (definition.alert ≡ true → definition.hold < 600000) → StandsForRule known wrote rs definition (with_restored history now r)
undue_stands none_stands history now definition r known wrote rs h short = record {
  rule = h.rule;
  templates = h.templates;
  previous = h.previous ∙ previous_stays r.lineage (restores history now r);
  records = λ is. subst (λ (l : List Restored). StandsFor rs (r.lineage ++ moved l ∷ [])) (sym (not_due definition r h.rule short history now)) (none_stands r.lineage rs (h.records is));
}

pub undue_told : (history : List Entry) (now : ℕ) (definition : Rule) (r : RuleState) (list : List Restored) → definition ≡ r.rule → (definition.alert ≡ true → definition.hold < 600000) → list ≡ list ++ restores history now r
undue_told history now definition r list same short = sym (ap (λ (l : List Restored). list ++ l) (not_due definition r same short history now) ∙ nothing list) where
  nothing : (l : List Restored) → l ++ [] ≡ l
  nothing [] = refl
  nothing (x ∷ l) = ap (λ (m : List Restored). x ∷ m) (nothing l)

-- The rules of a group

module _ {R : Type 0} (tells : Bool) (fits : R → List Entry → Type 0) (last : R → LastAsks) (passed : R → Passed) (history : List Entry) (now : ℕ) (until : Option ℕ) (definitions : List RuleDef) (rs : List RuleState) where
  pub restored_none : (before : List (Remembered R)) (list : List Restored) → list ≡ [] → HaveRestored tells fits last passed history now until definitions before before rs list 0
  restored_none before list none = record { done = λ i definition m r low. absurd (omega arith); later = λ j low. refl; telling = λ read. none }

  -- what is kept of a rule whose alerts were restored
  kept_restored : (definition : RuleDef) (m m' : Remembered R) (r : RuleState) → m' ≡ record m { records = m'.records } → KeepsRule fits last passed history until definition m r
      → StandsForRule m'.templates m'.previous m'.records (rule_of_def definition) (with_restored history now r) → KeepsRule fits last passed history until definition m' (with_restored history now r)
  kept_restored definition m m' r rest k stands =
      let same : m.ranges ≡ m'.ranges = sym (ap (λ (x : Remembered R). x.ranges) rest) in
      record {
        stands = stands;
        truly = subst (λ (x : R). fits x history) same k.truly;
        asked = subst (λ (x : R). WasAsked (last x) (tree_of definition.expr) until) same k.asked;
        within = subst (λ (x : R). ArePassedWithin history (last x) (passed x)) same k.within;
      }

  pub restored_then : (n : ℕ) (definition : RuleDef) (r : RuleState) (m m' : Remembered R) (before after : List (Remembered R)) (list more : List Restored) → slice_get definitions n ≡ Some definition → slice_get rs n ≡ Some r → slice_get after n ≡ Some m
      → AreKept fits last passed history until definitions before rs → HaveRestored tells fits last passed history now until definitions before after rs list n → m' ≡ record m { records = m'.records }
      → (StandsForRule m.templates m.previous m.records (rule_of_def definition) r → StandsForRule m'.templates m'.previous m'.records (rule_of_def definition) (with_restored history now r))
      → (StandsForRule m.templates m.previous m.records (rule_of_def definition) r → tells ≡ true → more ≡ list ++ restores history now r)
      → HaveRestored tells fits last passed history now until definitions before (set after n m') rs more (n + 1)
  restored_then n definition r m m' before after list more ec er em was h rest stands telling =
      let kept : KeepsRule fits last passed history until definition m r = was n definition m r ec (sym (h.later n (omega arith)) ∙ em) er in
      record {
        done = λ i c k x low ic ik ix. by i c k x (below_or i n low) ic ik ix;
        later = λ j low. set_there after n j m' (λ e. absurd (omega arith)) ∙ h.later j (omega arith);
        telling = λ read. telling kept.stands read ∙ ap (λ (l : List Restored). l ++ restores history now r) (h.telling read)
            ∙ sym (ap (λ (k : ℕ). flat_map (restores history now) (take k rs)) (add-one n) ∙ ap (flat_map (restores history now)) (take_next rs n r er) ∙ joined (take n rs) r);
      } where
        joined : (xs : List RuleState) (x : RuleState) → flat_map (restores history now) (xs ++ x ∷ []) ≡ flat_map (restores history now) xs ++ restores history now x
        joined [] x = append-nil (restores history now x)
        joined (y ∷ xs) x = ap (λ (l : List Restored). restores history now y ++ l) (joined xs x) ∙ sym (append_assoc (restores history now y) (flat_map (restores history now) xs) (restores history now x))

        kept_there : KeepsRule fits last passed history until definition m r
        kept_there = was n definition m r ec (sym (h.later n (omega arith)) ∙ em) er

        by : (i : ℕ) (c : RuleDef) (k : Remembered R) (x : RuleState) → (i < n) ⊎ (i ≡ n) → slice_get definitions i ≡ Some c → slice_get (set after n m') i ≡ Some k → slice_get rs i ≡ Some x
            → KeepsRule fits last passed history until c k (with_restored history now x)
        by i c k x (inl e) ic ik ix = h.done i c k x e ic (sym (set_there after n i m' (λ same. absurd (omega arith))) ∙ ik) ix
        by i c k x (inr e) ic ik ix =
            let here : n ≡ i = sym e in
            let same_code : definition ≡ c = same_Some definition c (sym ec ∙ ap (slice_get definitions) here ∙ ic) in
            let same_rule : r ≡ x = same_Some r x (sym er ∙ ap (slice_get rs) here ∙ ix) in
            let same_kept : m' ≡ k = same_Some m' k (sym (set_here after n m' (none_within after n m em)) ∙ ap (slice_get (set after n m')) here ∙ ik) in
            subst (λ (y : RuleState). KeepsRule fits last passed history until c k (with_restored history now y)) same_rule
            (subst (λ (y : Remembered R). KeepsRule fits last passed history until c y (with_restored history now r)) same_kept
            (subst (λ (y : RuleDef). KeepsRule fits last passed history until y m' (with_restored history now r)) same_code
            (kept_restored definition m m' r rest kept_there (stands kept_there.stands))))

  pub all_restored : (n : ℕ) (before after : List (Remembered R)) (list : List Restored) → n ≡ length rs → HaveRestored tells fits last passed history now until definitions before after rs list n
      → AreKept fits last passed history until definitions after (map (with_restored history now) rs)
  all_restored n before after list all h = λ i c k x ic ik ix.
      let old = place_there rs i (subst (λ (j : ℕ). i < j) (length-map rs (with_restored history now)) (none_within (map (with_restored history now) rs) i x ix)) in
      let low : i < length rs = none_within rs i old.0 old.1 in
      let same : with_restored history now old.0 ≡ x = same_Some (with_restored history now old.0) x (sym (slice_get-map (with_restored history now) rs i ∙ ap (option_map (with_restored history now)) old.1) ∙ ix) in
      subst (λ (y : RuleState). KeepsRule fits last passed history until c k y) same (h.done i c k old.0 (omega arith) ic ik old.1)

  pub all_told : (n : ℕ) (before after : List (Remembered R)) (list : List Restored) → n ≡ length rs → HaveRestored tells fits last passed history now until definitions before after rs list n → tells ≡ true → list ≡ flat_map (restores history now) rs
  all_told n before after list all h read = h.telling read ∙ ap (λ (k : ℕ). flat_map (restores history now) (take k rs)) all ∙ ap (flat_map (restores history now)) (take-length rs)

pub reads_next : (rs : List RuleState) (n : ℕ) (r : RuleState) → slice_get rs n ≡ Some r → sum_by restored_reads (take (n + 1) rs) ≡ sum_by restored_reads (take n rs) + restored_reads r
reads_next rs n r at = ap (λ (k : ℕ). sum_by restored_reads (take k rs)) (add-one n) ∙ fold_next (λ a x. a + restored_reads x) 0 rs n r at

pub reads_front : (n : ℕ) (rs : List RuleState) → sum_by restored_reads (take n rs) ≤ sum_by restored_reads rs
reads_front zero rs = omega arith
reads_front (suc n) [] = omega arith
reads_front (suc n) (r ∷ rs) =
    let rest : sum_by restored_reads (take n rs) ≤ sum_by restored_reads rs = reads_front n rs in
    omega (arith, sum_by-cons restored_reads r (take n rs), sum_by-cons restored_reads r rs)

pub reads_all : (n : ℕ) (rs : List RuleState) → n ≡ length rs → sum_by restored_reads (take n rs) ≡ sum_by restored_reads rs
reads_all n rs e = ap (λ (k : ℕ). sum_by restored_reads (take k rs)) e ∙ ap (sum_by restored_reads) (take-length rs)

-- what ranges keep stays with the rules
pub ranges_set : {R : Type 0} (ms : List (Remembered R)) (n : ℕ) (m m' : Remembered R) → slice_get ms n ≡ Some m → m' ≡ record m { records = m'.records } → ranges_of (set ms n m') ≡ ranges_of ms
ranges_set [] zero m m' at rest = refl
ranges_set [] (suc n) m m' at rest = refl
ranges_set {R} (k ∷ ms) zero m m' at rest = let same : m'.ranges ≡ k.ranges = ap (λ (x : Remembered R). x.ranges) rest ∙ sym (ap (λ (x : Remembered R). x.ranges) (same_Some k m at)) in ap (λ (x : R). x ∷ ranges_of ms) same
ranges_set {R} (k ∷ ms) (suc n) m m' at rest = ap (λ (l : List R). k.ranges ∷ l) (ranges_set ms n m m' at rest)

-- what is remembered of a rule, but for its alerts, stays
pub stands_with : {R : Type 0} (m m' : Remembered R) (definition : Rule) (r : RuleState) → m' ≡ record m { records = m'.records } → StandsForRule m.templates m.previous m'.records definition r → StandsForRule m'.templates m'.previous m'.records definition r
stands_with {R} m m' definition r rest h = subst (λ (x : Remembered R). StandsForRule x.templates x.previous x.records definition r) (sym rest) h

pub rules_reads : (rs : List RuleState) (n : ℕ) (r : RuleState) (base a b : ℕ) → slice_get rs n ≡ Some r → a ≤ base + sum_by restored_reads (take n rs) → b ≤ a + restored_reads r → b ≤ base + sum_by restored_reads (take (n + 1) rs)
rules_reads rs n r base a b at so_far more = omega (arith, reads_next rs n r at)

pub rules_within : (rs : List RuleState) (n : ℕ) (base b : ℕ) → b ≤ base + sum_by restored_reads (take n rs) → b ≤ base + sum_by restored_reads rs
rules_within rs n base b h = omega (arith, reads_front n rs)
