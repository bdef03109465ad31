-- The evaluation of a group: its rules, its leftovers, and its restoration.
use Rattle.std.proofs.Common.{◌≡◌, ℕ, ◌+◌, ◌<◌, ◌≤◌, pos, ◌-ℤ◌, Bool, true, false, List, [], ◌∷◌, ◌++◌, length, fold, map, take, slice_get, Option, Some, None, refl, sym, ap, ◌∙◌, subst, arith}
use Rattle.std.specs.Prelude.{◌==◌, nat_lt, pred}
use Rattle.std.specs.Option.{option_map}
use Rattle.std.proofs.lemmas.List.{length-map}
use Rattle.std.proofs.lemmas.Option.{same_Some, slice_get-map}
use Rattle.pr_ast.specs.pr_labels.declared.pair.Pair.{Pair}
use Rattle.pr_rule.specs.spec_history.declared.entry.Entry.{Entry}
use Rattle.pr_rule.specs.spec_history.Admission.{put_all}
use Rattle.pr_rule.proofs.HistoryLawful.{put_all_lawful}
use Rattle.pr_rule.specs.spec_history.Puts.{admitted, label_sets_of, marker, markers}
use Rattle.pr_rule.proofs.HistoryPutting.{puts_parts}
use Rattle.pr_rule.specs.spec_rules.declared.definitions.RuleDef.{RuleDef}
use Rattle.pr_rule.specs.spec_rules.Definitions.{Group as Definition, rule_of_def}
use Rattle.pr_rule.specs.spec_alerts.declared.restored.Restored.{Restored}
use Rattle.pr_rule.specs.spec_meaning.private.Cost.{PassedFor}
use Rattle.pr_rule.specs.pr_range.private.Asks.{LastAsks, Passed}
use Rattle.pr_rule.specs.pr_eval.private.Evaluated.{passed_outside}
use Rattle.pr_rule.specs.pr_head.private.Intake.{HasTaken, PutsIf, Series}
use Rattle.pr_rule.proofs.HeadIntakeIntake.{puts_if_then}
use Rattle.pr_rule.specs.spec_rules.declared.report.RuleReport.{RuleReport}
use Rattle.pr_rule.specs.spec_rules.private.Costs.{group_cost, restoring_cost, rules_cost}
use Rattle.pr_rule.specs.spec_rules.Evaluations.{GroupStep, RulesProgress, all_rules, begun, group_ended, group_step, one_rule, restoring}
use Rattle.pr_rule.specs.spec_rules.Groups.{Group, RuleState}
use Rattle.pr_rule.specs.spec_rules.private.Laws.{definition_of}
use Rattle.pr_rule.specs.spec_rules.private.Passed.{IsPassedAfter, IsPassedByRule}
use Rattle.pr_rule.specs.spec_rules.Settings.{Settings}
use Rattle.pr_rule.specs.spec_rules.private.Times.{IsAfter}
use Rattle.pr_rule.proofs.RulesKeeping.{definition_stays}
use Rattle.pr_rule.specs.declared.remembered.Remembered.{Remembered}
use Rattle.pr_group.specs.private.Evaluating.{HasCome, MayEvaluateRules, come_to}
use Rattle.pr_group.specs.private.Keeping.{AreKept, KeepsGroup, KeptGroup, MayEvaluateOver, passed_by, passed_for, settings_of}
use Rattle.pr_group.specs.private.Restoring.{ranges_of, restored_alerts, restored_rules}
use Rattle.pr_group.proofs.Coming.{passed_each}
use Rattle.pr_group.proofs.Places.{none_within, place_there}
use Rattle.pr_group.proofs.Ruling.{early_of}
use Rattle.pr_group.proofs.Staying.{Stays, rule_stays_put, same_passed_put}

-- what holds of two values holds of equal ones
pub through : {A B : Type 0} (a a' : A) (b b' : B) (P : A → B → Type 0) → a ≡ a' → b ≡ b' → P a b → P a' b'
through {A} {B} a a' b b' P p q h = subst (λ (y : B). P a' y) q (subst (λ (x : A). P x b) p h)

-- The rules of a group may be evaluated

pub as_many : (g : Group) (definitions : List RuleDef) → map (λ r. r.rule) g.rules ≡ map rule_of_def definitions → length definitions ≡ length g.rules
as_many g definitions same = sym (length-map definitions rule_of_def) ∙ ap length (sym same) ∙ length-map g.rules (λ r. r.rule)

pub may_of : {R : Type 0} (fits : R → List Entry → Type 0) (last : R → LastAsks) (passed : R → Passed) (k : KeptGroup R) (waiting : Bool) (g : Group) (head : Series) (history : List Entry) (now : ℕ) → waiting ≡ nat_lt 0 k.waits
    → MayEvaluateOver head history now → KeepsGroup fits last passed k history g → IsAfter now g.last
    → MayEvaluateRules fits last passed k.step k.external k.def.limit k.def.interval waiting (settings_of k) g head history now g.last k.def.rules k.rules
may_of fits last passed k waiting g head history now is over kept later = record {
  evaluation = record {
    step = refl;
    external = refl;
    limit = sym (ap (λ (d : Definition). d.limit) kept.definition);
    interval = sym (ap (λ (d : Definition). d.interval) kept.definition);
    waits = is ∙ ap (nat_lt 0) kept.waiting;
  };
  over = over;
  early = early_of now g.last later;
  many = as_many g k.def.rules (ap (λ (d : Definition). d.rules) kept.definition);
  kept = kept.rules;
}

-- What an evaluation comes to

restoring_is : (b : Bool) (g : Group) (history : List Entry) (now : ℕ) (p : RulesProgress) (gone : List Entry)
    → restoring b g history now p gone ≡ group_ended g history now p gone (restored_rules b (put_all p.history gone) now p.rules) (restored_alerts b (put_all p.history gone) now p.rules)
restoring_is true g history now p gone = refl
restoring_is false g history now p gone = refl

abbrev pub gone_of : Group → ℕ → List Entry
gone_of g now = map (marker now) g.leftovers

abbrev pub ended : Settings → Group → List Entry → ℕ → RulesProgress → GroupStep
ended s g history now p =
    group_ended g history now p (gone_of g now) (restored_rules (g.waits == 1) (put_all p.history (gone_of g now)) now p.rules) (restored_alerts (g.waits == 1) (put_all p.history (gone_of g now)) now p.rules)

pub step_is : (s : Settings) (g : Group) (history : List Entry) (now : ℕ) → group_step s g history now ≡ ended s g history now (all_rules s g history now)
unfolding group_step
step_is s g history now = restoring_is (g.waits == 1) g history now (all_rules s g history now) (gone_of g now)

-- Markers for all

markers_all : (now : ℕ) (old : List (List Pair)) → markers now old [] ≡ map (marker now) old
markers_all now [] = refl
markers_all now (l ∷ old) = ap (λ (m : List Entry). marker now l ∷ m) (markers_all now old)

pub marked_all : (now : ℕ) (g : Group) (left none : List (List Pair)) → left ≡ g.leftovers → none ≡ [] → markers now left none ≡ gone_of g now
marked_all now g left none same empty = (λ i. markers now (same i) (empty i)) ∙ markers_all now g.leftovers

pub over_put : (old new : Series) (history entries : List Entry) (now : ℕ) → MayEvaluateOver old history now → HasTaken old new history entries → MayEvaluateOver new (put_all history entries) now
over_put old new history entries now over taken = record { lawful = put_all_lawful history entries over.lawful; holds = taken.holds; whole = taken.whole (pos now -ℤ pos 3888000000) over.whole }

-- What is kept of a rule's ranges tells what was passed for it.
same_ranges : {R : Type 0} (passed : R → Passed) (history : List Entry) (ms ks : List (Remembered R)) (j : ℕ) (m : Remembered R) → ranges_of ks ≡ ranges_of ms → slice_get ms j ≡ Some m
    → passed_for passed history (slice_get ks j) ≡ passed_outside false history (passed m.ranges)
same_ranges {R} passed history ms ks j m same at =
    by (slice_get ks j) (sym (slice_get-map (λ (x : Remembered R). x.ranges) ks j) ∙ ap (λ (l : List R). slice_get l j) same ∙ slice_get-map (λ (x : Remembered R). x.ranges) ms j ∙ ap (option_map (λ (x : Remembered R). x.ranges)) at) where
      by : (o : Option (Remembered R)) → option_map (λ (x : Remembered R). x.ranges) o ≡ Some m.ranges → passed_for passed history o ≡ passed_outside false history (passed m.ranges)
      by None e = absurd (cc)
      by (Some k) e = ap (λ (x : R). passed_outside false history (passed x)) (same_Some k.ranges m.ranges e)

module _ {R : Type 0} (fits : R → List Entry → Type 0) (last : R → LastAsks) (passed : R → Passed) (keeps tells : Bool) (stays : Stays fits) (k0 k1 : KeptGroup R) (g : Group) (history : List Entry) (now : ℕ) (head0 head1 : Series) (rows0 rows1 : List Entry) (told : List RuleReport)
    (over : MayEvaluateOver head0 history now) (kept : KeepsGroup fits last passed k0 history g) (rest : k1 ≡ record k0 { rules = k1.rules })
    (h : HasCome fits last passed keeps tells (settings_of k0) g history now k0.def.rules k0.rules k1.rules head0 head1 rows0 rows1 told (length g.rules) (all_rules (settings_of k0) g history now)) where
  abbrev p : RulesProgress
  p = all_rules (settings_of k0) g history now

  abbrev gone : List Entry
  gone = gone_of g now

  abbrev after : List Entry
  after = put_all p.history gone

  -- after the rules
  pub over_rules : MayEvaluateOver head1 p.history now
  over_rules = subst (λ (l : List Entry). MayEvaluateOver head1 l now) (sym h.behind) (over_put head0 head1 history p.entries now over h.puts.taken)

  pub left_same : k1.leftovers ≡ g.leftovers
  left_same = ap (λ (k : KeptGroup R). k.leftovers) rest ∙ kept.left

  def_same : k1.def.rules ≡ k0.def.rules
  def_same = ap (λ (k : KeptGroup R). k.def.rules) rest

  pub waits_same : (k1.waits == 1) ≡ (g.waits == 1)
  waits_same = ap (λ (k : KeptGroup R). k.waits == 1) rest ∙ ap (λ (n : ℕ). n == 1) kept.waiting

  pub many_rules : length k1.def.rules ≡ length p.rules
  many_rules = ap length def_same ∙ as_many g k0.def.rules (ap (λ (d : Definition). d.rules) kept.definition) ∙ sym h.counted

  module _ (head2 : Series) (rows2 : List Entry) (left none series : List (List Pair)) (at_left : left ≡ k1.leftovers) (empty : none ≡ [])
      (marks : PutsIf tells head1 head2 rows1 rows2 p.history (markers now left none)) (marked : tells ≡ true → series ≡ label_sets_of (admitted p.history (markers now left none))) where
    all_marked : markers now left none ≡ gone
    all_marked = marked_all now g left none (at_left ∙ left_same) empty

    puts_gone : PutsIf tells head1 head2 rows1 rows2 p.history gone
    puts_gone = subst (λ (l : List Entry). PutsIf tells head1 head2 rows1 rows2 p.history l) all_marked marks

    -- before the restoration
    pub over_end : MayEvaluateOver head2 after now
    over_end = over_put head1 head2 p.history gone now over_rules puts_gone.taken

    pub kept_end : AreKept fits last passed after (Some now) k1.def.rules k1.rules p.rules
    kept_end = subst (λ (ds : List RuleDef). AreKept fits last passed after (Some now) ds k1.rules p.rules) (sym def_same)
        (λ i definition m r ic im ir. rule_stays_put fits last passed stays p.history gone (Some now) definition m r over_rules.lawful (h.done i definition m r ic im ir))

    all_puts : PutsIf tells head0 head2 rows0 rows2 history (p.entries ++ gone)
    all_puts = puts_if_then tells head0 head1 head2 rows0 rows1 rows2 history p.entries gone h.puts (subst (λ (l : List Entry). PutsIf tells head1 head2 rows1 rows2 l gone) h.behind puts_gone)

    after_is : put_all history (p.entries ++ gone) ≡ after
    after_is = puts_parts history p.entries gone ∙ ap (λ (l : List Entry). put_all l gone) (sym h.behind)

    pub head_end : HasTaken head0 head2 history (group_step (settings_of k0) g history now).entries
    head_end = subst (λ (x : GroupStep). HasTaken head0 head2 history x.entries) (sym (step_is (settings_of k0) g history now)) all_puts.taken

    pub report_end : (restored : List Restored) → rows0 ≡ [] → (tells ≡ true → restored ≡ restored_alerts (k1.waits == 1) after now p.rules)
        → tells ≡ true → record { rules = told; leftovers = series; restored = restored; admitted = rows2 } ≡ (group_step (settings_of k0) g history now).report
    report_end restored nothing alerts read =
        (λ i. record {
          rules = h.reports read i;
          leftovers = (marked read ∙ ap (λ (l : List Entry). label_sets_of (admitted p.history l)) all_marked) i;
          restored = (alerts read ∙ ap (λ (b : Bool). restored_alerts b after now p.rules) waits_same) i;
          admitted = (all_puts.added read ∙ ap (λ (l : List Entry). l ++ admitted history (p.entries ++ gone)) nothing) i;
        })
        ∙ sym (ap (λ (x : GroupStep). x.report) (step_is (settings_of k0) g history now))

    module _ (k2 k3 : KeptGroup R) (rest2 : k2 ≡ record k1 { rules = k2.rules }) (rest3 : k3 ≡ record k2 { last = Some now; waits = pred k2.waits; leftovers = [] }) where
      whole : k3 ≡ record k0 { rules = k2.rules; last = Some now; waits = pred k0.waits; leftovers = [] }
      whole =
          rest3 ∙ ap (λ (k : KeptGroup R). record k { last = Some now; waits = pred k.waits; leftovers = [] }) rest2
          ∙ ap (λ (k : KeptGroup R). record k { rules = k2.rules; last = Some now; waits = pred k.waits; leftovers = [] }) rest

      sizes : ranges_of k2.rules ≡ ranges_of k1.rules → length k2.rules ≡ length k0.def.rules
      sizes same = sym (length-map k2.rules (λ (x : Remembered R). x.ranges)) ∙ ap length same ∙ length-map k1.rules (λ (x : Remembered R). x.ranges) ∙ h.many ∙ kept.many

      pub keeps_end : ranges_of k2.rules ≡ ranges_of k1.rules → AreKept fits last passed after (Some now) k1.def.rules k2.rules (restored_rules (k1.waits == 1) after now p.rules)
          → KeepsGroup fits last passed k3 (put_all history (group_step (settings_of k0) g history now).entries) (group_step (settings_of k0) g history now).group
      keeps_end same rules =
          subst (λ (k : KeptGroup R). KeepsGroup fits last passed k (put_all history (group_step (settings_of k0) g history now).entries) (group_step (settings_of k0) g history now).group) (sym whole)
          (subst (λ (x : GroupStep). KeepsGroup fits last passed (record k0 { rules = k2.rules; last = Some now; waits = pred k0.waits; leftovers = [] }) (put_all history x.entries) x.group) (sym (step_is (settings_of k0) g history now))
          (record {
            definition = sym (ap (λ (x : GroupStep). definition_of x.group) (step_is (settings_of k0) g history now)) ∙ definition_stays (settings_of k0) g history now ∙ kept.definition;
            file = kept.file;
            until = refl;
            waiting = ap pred kept.waiting;
            left = refl;
            many = sizes same;
            rules = subst (λ (l : List Entry). AreKept fits last passed l (Some now) k0.def.rules k2.rules (restored_rules (g.waits == 1) after now p.rules)) (sym after_is)
                (subst (λ (b : Bool). AreKept fits last passed after (Some now) k0.def.rules k2.rules (restored_rules b after now p.rules)) waits_same
                (subst (λ (ds : List RuleDef). AreKept fits last passed after (Some now) ds k2.rules (restored_rules (k1.waits == 1) after now p.rules)) def_same rules));
          }))

      pub passed_end : length k0.rules ≡ length k0.def.rules → keeps ≡ true → ranges_of k2.rules ≡ ranges_of k1.rules
          → IsPassedAfter (settings_of k0) g history now (passed_by passed k0 history) (passed_by passed k3 (put_all history (group_step (settings_of k0) g history now).entries))
      passed_end size keeping same =
          subst (λ (k : KeptGroup R). IsPassedAfter (settings_of k0) g history now (passed_by passed k0 history) (passed_by passed k (put_all history (group_step (settings_of k0) g history now).entries))) (sym whole)
          (subst (λ (l : List Entry). IsPassedAfter (settings_of k0) g history now (passed_by passed k0 history) (λ i. passed_for passed l (slice_get k2.rules i)))
          (sym (ap (λ (x : GroupStep). put_all history x.entries) (step_is (settings_of k0) g history now) ∙ after_is))
          (passed_each (settings_of k0) g now (passed_by passed k0 history) (λ i. passed_for passed after (slice_get k2.rules i)) g.rules 0 (begun history) each)) where
            each : (j : ℕ) (r : RuleState) → slice_get g.rules j ≡ Some r
                → IsPassedByRule (settings_of k0) g r (fold (one_rule (settings_of k0) g now) (begun history) (take j g.rules)).history now (passed_by passed k0 history (0 + j)) (passed_for passed after (slice_get k2.rules (0 + j)))
            each j r at =
                let here : j ≡ 0 + j = omega arith in
                let low : j < length g.rules = none_within g.rules j r at in
                let many : length k0.def.rules ≡ length g.rules = as_many g k0.def.rules (ap (λ (d : Definition). d.rules) kept.definition) in
                let definition = place_there k0.def.rules j (omega arith) in
                let mine = place_there p.rules j (omega (arith, h.counted)) in
                let m = place_there k0.rules j (omega (arith, size)) in
                let k = place_there k1.rules j (omega (arith, size, h.many)) in
                let first : passed_outside false history (passed m.0.ranges) ≡ passed_by passed k0 history j = sym (ap (passed_for passed history) m.1) in
                let second : passed_outside false p.history (passed k.0.ranges) ≡ passed_for passed after (slice_get k2.rules j) =
                sym (same_ranges passed after k1.rules k2.rules j k.0 same k.1 ∙ same_passed_put p.history gone (last k.0.ranges) (passed k.0.ranges) (h.done j definition.0 k.0 mine.0 definition.1 k.1 mine.1).within) in
                subst (λ (n : ℕ). IsPassedByRule (settings_of k0) g r (come_to (settings_of k0) g history now j).history now (passed_by passed k0 history n) (passed_for passed after (slice_get k2.rules n))) here
                (subst (λ (w : PassedFor). IsPassedByRule (settings_of k0) g r (come_to (settings_of k0) g history now j).history now (passed_by passed k0 history j) w) second
                (subst (λ (u : PassedFor). IsPassedByRule (settings_of k0) g r (come_to (settings_of k0) g history now j).history now u (passed_outside false p.history (passed k.0.ranges))) first
                (h.passing keeping j m.0 k.0 r low m.1 k.1 at)))

-- how many samples are read
pub reads_end : {R : Type 0} (passed : R → Passed) (k0 k1 : KeptGroup R) (g : Group) (history : List Entry) (now a b c : ℕ) → (k1.waits == 1) ≡ (g.waits == 1)
    → b ≤ a + rules_cost (settings_of k0) g now (passed_by passed k0 history) 0 g.rules (begun history) → c ≤ b + restoring_cost (k1.waits == 1) (all_rules (settings_of k0) g history now).rules
    → c ≤ a + group_cost (settings_of k0) g history now (passed_by passed k0 history)
reads_end passed k0 k1 g history now a b c same first second =
    let third : c ≤ b + restoring_cost (g.waits == 1) (all_rules (settings_of k0) g history now).rules = subst (λ (d : Bool). c ≤ b + restoring_cost d (all_rules (settings_of k0) g history now).rules) same second in
    omega arith

pub reads_rules : {R : Type 0} (passed : R → Passed) (k0 : KeptGroup R) (g : Group) (history : List Entry) (now a b : ℕ)
    → b ≤ a + rules_cost (settings_of k0) g now (passed_by passed k0 history) 0 g.rules (begun history) → b ≤ a + group_cost (settings_of k0) g history now (passed_by passed k0 history)
reads_rules passed k0 g history now a b first = omega arith
