-- The alerts that are listed.
use native.Mathlib.Numerals.{unary_clauses}
use Rattle.std.proofs.Common.{◌≡◌, ℕ, ◌+◌, ◌<◌, ◌≤◌, Bool, true, false, cond, List, [], ◌∷◌, ◌++◌, append_assoc, append-nil, length, length-append, map, Option, Some, None, Result, Ok, Err, OnOk, slice_get, refl, sym, ap, ◌∙◌, arith}
use Rattle.std.specs.Prelude.{filter, flat_map}
use Rattle.std.specs.Option.{option_map_or}
use Rattle.std.proofs.lemmas.List.{length-map, map-append}
use Rattle.spec_world.specs.spec_history.declared.entry.Entry.{Entry}
use Rattle.spec_world.specs.spec_alerts.declared.record.Record.{Record}
use Rattle.spec_world.specs.spec_alerts.Records.{is_living, records}
use Rattle.pr_group.specs.pr_range.private.Asks.{LastAsks, Passed}
use Rattle.spec_world.specs.spec_rules.Definitions.{Group as Definition, rule_of_def}
use Rattle.spec_world.specs.spec_rules.Groups.{Group, RuleState}
use Rattle.spec_world.specs.spec_rules.Settings.{Settings}
use Rattle.pr_group.specs.private.Keeping.{KeepsGroup, KeptGroup}
use Rattle.spec_world.specs.declared.report.AlertLine.{AlertLine}
use Rattle.spec_world.specs.Rounds.{alert_line, alerts_by, group_alerts, rule_alerts}
use Rattle.pr_manager.specs.private.Keeping.{KeepEach}

-- One record

pub living_then : (lines more : List AlertLine) (r : Record) (rs : List Record) (all : List AlertLine) → more ≡ lines ++ alert_line r ∷ [] → is_living r ≡ true → lines ++ map alert_line (filter is_living (r ∷ rs)) ≡ all
    → more ++ map alert_line (filter is_living rs) ≡ all
living_then lines more r rs all push living h =
    ap (λ (l : List AlertLine). l ++ map alert_line (filter is_living rs)) push
    ∙ append_assoc lines (alert_line r ∷ []) (map alert_line (filter is_living rs))
    ∙ ap (λ b. lines ++ map alert_line (cond b (r ∷ filter is_living rs) (filter is_living rs))) (sym living)
    ∙ h

pub passed_over : (lines : List AlertLine) (r : Record) (rs : List Record) (all : List AlertLine) → is_living r ≡ false → lines ++ map alert_line (filter is_living (r ∷ rs)) ≡ all → lines ++ map alert_line (filter is_living rs) ≡ all
passed_over lines r rs all living h = ap (λ b. lines ++ map alert_line (cond b (r ∷ filter is_living rs) (filter is_living rs))) (sym living) ∙ h

pub living_end : (lines : List AlertLine) (rs : List Record) (all : List AlertLine) → length rs ≡ 0 → lines ++ map alert_line (filter is_living rs) ≡ all → lines ≡ all
living_end lines [] all none h = sym (append-nil lines) ∙ h
living_end lines (r ∷ rs) all none h = absurd (omega (arith, none))

-- One rule

-- whether a rule alerts, by whether it has alerts
pub alerting : (g : Group) (i : ℕ) (r : RuleState) (has : Bool) → slice_get g.rules i ≡ Some r → has ≡ option_map_or (λ (x : RuleState). x.rule.alert) (slice_get g.rules i) false → r.rule.alert ≡ has
alerting g i r has at is = sym (is ∙ ap (λ o. option_map_or (λ (x : RuleState). x.rule.alert) o false) at)

pub on_on : {T E : Type 0} (P Q : Type 0) (result : Result T E) → (P → Q) → OnOk result P → OnOk result Q
on_on P Q (Ok x) by h = by h
on_on P Q (Err e) by h = tt

pub listed_some : (lines more : List AlertLine) (r : RuleState) (rs : List Record) → r.rule.alert ≡ true → rs ≡ records r.lineage → more ≡ lines ++ map alert_line (filter is_living rs) → more ≡ lines ++ map alert_line (rule_alerts r)
listed_some lines more r rs alert is h =
    h ∙ ap (λ l. lines ++ map alert_line (filter is_living l)) is ∙ ap (λ b. lines ++ map alert_line (alerts_by b r)) (sym alert)

pub listed_none : (lines : List AlertLine) (r : RuleState) → r.rule.alert ≡ false → lines ≡ lines ++ map alert_line (rule_alerts r)
listed_none lines r alert = sym (append-nil lines) ∙ ap (λ b. lines ++ map alert_line (alerts_by b r)) (sym alert)

-- The rules of a group

pub record RulesLeft (g : Group) (i : ℕ) (lines all : List AlertLine) : Type 0 where
  pub done : List RuleState
  pub rest : List RuleState
  pub parts : g.rules ≡ done ++ rest
  pub count : i ≡ length done
  pub told : lines ++ map alert_line (flat_map rule_alerts rest) ≡ all

at_seam : {A : Type 0} (xs : List A) (y : A) (ys : List A) → slice_get (xs ++ y ∷ ys) (length xs) ≡ Some y
at_seam [] y ys = refl
at_seam (x ∷ xs) y ys = at_seam xs y ys

pub rules_first : (g : Group) (lines : List AlertLine) → RulesLeft g 0 lines (lines ++ map alert_line (group_alerts g))
rules_first g lines = record { done = []; rest = g.rules; parts = refl; count = refl; told = refl }

pub rules_then : (g : Group) (i : ℕ) (lines more all : List AlertLine) → i < length g.rules → ((r : RuleState) → slice_get g.rules i ≡ Some r → more ≡ lines ++ map alert_line (rule_alerts r))
    → RulesLeft g i lines all → RulesLeft g (i + 1) more all
rules_then g i lines more all less by h = at h.done h.rest h.parts h.count h.told where
  at : (done rest : List RuleState) → g.rules ≡ done ++ rest → i ≡ length done → lines ++ map alert_line (flat_map rule_alerts rest) ≡ all → RulesLeft g (i + 1) more all
  at done [] parts count told =
      let none : length g.rules ≡ length done = ap length (parts ∙ append-nil done) in
      absurd (omega (arith, less, none, count))
  at done (r ∷ rest) parts count told =
      let there : slice_get g.rules i ≡ Some r = (λ j. slice_get (parts j) (count j)) ∙ at_seam done r rest in
      let longer : length (done ++ r ∷ []) ≡ length done + 1 = length-append done (r ∷ []) in
      record {
        done = done ++ r ∷ [];
        rest = rest;
        parts = parts ∙ sym (append_assoc done (r ∷ []) rest);
        count = omega (arith, longer, count);
        told = ap (λ (l : List AlertLine). l ++ map alert_line (flat_map rule_alerts rest)) (by r there)
            ∙ append_assoc lines (map alert_line (rule_alerts r)) (map alert_line (flat_map rule_alerts rest))
            ∙ ap (λ (l : List AlertLine). lines ++ l) (sym (map-append alert_line (rule_alerts r) (flat_map rule_alerts rest)))
            ∙ told;
      }

pub rules_end : (g : Group) (i : ℕ) (lines all : List AlertLine) → length g.rules ≤ i → RulesLeft g i lines all → lines ≡ all
rules_end g i lines all past h = at h.done h.rest h.parts h.count h.told where
  at : (done rest : List RuleState) → g.rules ≡ done ++ rest → i ≡ length done → lines ++ map alert_line (flat_map rule_alerts rest) ≡ all → lines ≡ all
  at done [] parts count told = sym (append-nil lines) ∙ told
  at done (r ∷ rest) parts count told =
      let longer : length g.rules ≡ length done + length (r ∷ rest) = ap length parts ∙ length-append done (r ∷ rest) in
      let some : length (r ∷ rest) ≡ length rest + 1 = simp unary_clauses refl in
      absurd (omega (arith, longer, some, past, count))

-- All groups

pub record GroupsLeft {R : Type 0} (fits : R → List Entry → Type 0) (last : R → LastAsks) (passed : R → Passed) (s : Settings) (history : List Entry) (ks : List (KeptGroup R)) (lines all : List AlertLine) : Type 0 where
  pub groups : List Group
  pub each : KeepEach fits last passed s history ks groups
  pub told : lines ++ map alert_line (flat_map group_alerts groups) ≡ all

pub groups_then : {R : Type 0} (fits : R → List Entry → Type 0) (last : R → LastAsks) (passed : R → Passed) (s : Settings) (history : List Entry) (k : KeptGroup R) (ks : List (KeptGroup R)) (lines more all : List AlertLine)
    → ((g : Group) → KeepsGroup fits last passed k history g → more ≡ lines ++ map alert_line (group_alerts g)) → GroupsLeft fits last passed s history (k ∷ ks) lines all → GroupsLeft fits last passed s history ks more all
groups_then fits last passed s history k ks lines more all by h = at h.groups h.each h.told where
  at : (groups : List Group) → KeepEach fits last passed s history (k ∷ ks) groups → lines ++ map alert_line (flat_map group_alerts groups) ≡ all → GroupsLeft fits last passed s history ks more all
  at [] each told = absurd each
  at (g ∷ groups) each told = record {
    groups = groups;
    each = each.1;
    told = ap (λ (l : List AlertLine). l ++ map alert_line (flat_map group_alerts groups)) (by g each.0.keeps)
        ∙ append_assoc lines (map alert_line (group_alerts g)) (map alert_line (flat_map group_alerts groups))
        ∙ ap (λ (l : List AlertLine). lines ++ l) (sym (map-append alert_line (group_alerts g) (flat_map group_alerts groups)))
        ∙ told;
  }

pub groups_end : {R : Type 0} (fits : R → List Entry → Type 0) (last : R → LastAsks) (passed : R → Passed) (s : Settings) (history : List Entry) (ks : List (KeptGroup R)) (lines all : List AlertLine)
    → length ks ≡ 0 → GroupsLeft fits last passed s history ks lines all → lines ≡ all
groups_end fits last passed s history [] lines all none h = at h.groups h.each h.told where
  at : (groups : List Group) → KeepEach fits last passed s history [] groups → lines ++ map alert_line (flat_map group_alerts groups) ≡ all → lines ≡ all
  at [] each told = sym (append-nil lines) ∙ told
  at (g ∷ groups) each told = absurd each
groups_end fits last passed s history (k ∷ ks) lines all none h = absurd (omega (arith, none))

-- as many rules are kept as the group has
pub as_many_rules : {R : Type 0} (fits : R → List Entry → Type 0) (last : R → LastAsks) (passed : R → Passed) (history : List Entry) (k : KeptGroup R) (g : Group) → KeepsGroup fits last passed k history g → length k.def.rules ≡ length g.rules
as_many_rules fits last passed history k g h =
    sym (length-map k.def.rules rule_of_def) ∙ ap (λ (d : Definition). length d.rules) (sym h.definition) ∙ length-map g.rules (λ (r : RuleState). r.rule)
