-- What is remembered of a group that has gone on from an older one stands for what a reload of rules
-- means.
use Rattle.std.proofs.Common.{◌≡◌, ℕ, ◌<◌, Bool, true, false, ◌&&◌, List, [], ◌∷◌, ◌++◌, flat_map, get_or, length, map, slice_get, Option, Some, None, refl, sym, ap, subst, ◌∙◌, arith}
use Rattle.std.specs.List.{zip}
use Rattle.std.specs.Option.{option_and_then, option_map}
use Rattle.std.proofs.lemmas.List.{length-map}
use Rattle.std.proofs.lemmas.Option.{get_or_from_slice_get, same_Some, slice_get-map, slice_get_within}
use Rattle.pr_ast.specs.pr_labels.declared.pair.Pair.{Pair}
use Rattle.pr_rule.specs.spec_history.declared.entry.Entry.{Entry}
use Rattle.pr_ast.specs.Tree.{tree_of}
use Rattle.pr_rule.specs.spec_vectors.Vectors.{in_label_order}
use Rattle.pr_rule.specs.spec_alerts.Lineage.{previous}
use Rattle.pr_rule.specs.private.AlertStanding.{StandsFor}
use Rattle.pr_rule.specs.spec_meaning.private.Cost.{PassedFor, nothing_passed}
use Rattle.pr_rule.specs.spec_rules.declared.definitions.RuleDef.{RuleDef}
use Rattle.pr_rule.specs.spec_rules.Definitions.{Rule, rule_of_def}
use Rattle.pr_rule.specs.pr_range.private.Asks.{LastAsks, Passed}
use Rattle.pr_group.proofs.Once.{takes}
use Rattle.pr_rule.specs.pr_eval.private.RangeCallsAsking.{series_number}
use Rattle.pr_rule.specs.pr_eval.private.Evaluated.{passed_outside}
use Rattle.pr_rule.specs.spec_rules.private.Carried.{carried_by_rules, carried_numbers, carried_passed, passed_for_rule, rules_taken}
use Rattle.pr_rule.specs.spec_rules.Groups.{RuleState, fresh_rule}
use Rattle.pr_rule.specs.spec_rules.Reloads.{continued_rule, continued_rules, continues, left_by, same_kind, unused_rules}
use Rattle.pr_rule.specs.spec_rules.private.Laws.{numbers_taken}
use Rattle.pr_rule.specs.spec_rules.Taking.{taken}
use Rattle.pr_rule.proofs.RulesTakes.{taken_under_numbers}
use Rattle.pr_group.specs.private.Asked.{WasAsked}
use Rattle.pr_group.specs.private.Within.{IsPassedWithin}
use Rattle.pr_group.proofs.ReadyCarrying.{asks_carried}
use Rattle.pr_group.proofs.Falling.{carried_is, carried_within}
use Rattle.pr_rule.specs.private.Templates.{IsTemplatesOf}
use Rattle.pr_rule.specs.declared.remembered.Remembered.{Remembered}
use Rattle.pr_group.specs.private.Carrying.{GoesOn, GoesOnBy, HaveGoneOn, previous_in}
use Rattle.pr_group.specs.private.Keeping.{AreKept, KeepsRule, passed_for}
use Rattle.pr_group.specs.private.Matching.{continues_def, spared}
use Rattle.pr_group.proofs.Numbers.{none_at, numbered_as, numbered_at, numbers_count, numbers_mapped, taken_numbered, zip_at, zip_none}
use Rattle.pr_group.proofs.Places.{place_there}
use Rattle.pr_group.proofs.Unused.{somes, unused}
use Rattle.pr_group.proofs.Wrote.{AllWrote, spared_wrote}

-- Which rules go on

-- rules, as the definition tells them
abbrev continues_rule : Rule → Rule → Bool
continues_rule rule old = continues rule (fresh_rule old)

map_same : {A : Type 0} (xs : List A) → map (λ x. x) xs ≡ xs
map_same [] = refl
map_same (x ∷ xs) = ap (λ l. x ∷ l) (map_same xs)

rule_numbers : (definitions older : List RuleDef) (was : List RuleState) → map (λ r. r.rule) was ≡ map rule_of_def older
    → numbers_taken continues (map rule_of_def definitions) was ≡ numbers_taken continues_def definitions older
rule_numbers definitions older was e =
    ap (numbers_taken continues (map rule_of_def definitions)) (sym (map_same was)) ∙ numbers_mapped continues rule_of_def (λ (r : RuleState). r) definitions was
    ∙ sym (numbers_mapped continues_rule rule_of_def (λ (r : RuleState). r.rule) definitions was)
    ∙ ap (numbers_taken continues_rule (map rule_of_def definitions)) e ∙ numbers_mapped continues_rule rule_of_def rule_of_def definitions older

alert_too : (a b c : Bool) → (same_kind a b && c) ≡ true → a ≡ true → b ≡ true
alert_too true true c h e = refl
alert_too true false c h e = absurd (cc)
alert_too false b c h e = absurd (cc)

-- the state of an older rule stands where its definition does
pub state_there : (older : List RuleDef) (was : List RuleState) (n : ℕ) (definition : RuleDef) → map (λ r. r.rule) was ≡ map rule_of_def older → slice_get older n ≡ Some definition → (r : RuleState) × (slice_get was n ≡ Some r)
state_there older was n definition e h =
    let sizes : length was ≡ length older = sym (length-map was (λ (r : RuleState). r.rule)) ∙ ap length e ∙ length-map older rule_of_def in
    let low : n < length older = slice_get_within older n definition h in
    place_there was n (omega arith)

module _ {R : Type 0} (fits : R → List Entry → Type 0) (last : R → LastAsks) (passed : R → Passed) (history : List Entry) where
  -- One rule

  -- that goes on from none
  stays_new : (until : Option ℕ) (definition : RuleDef) (m : Remembered R) (r : RuleState) → KeepsRule fits last passed history None definition m r → KeepsRule fits last passed history until definition m r
  stays_new until definition m r k = record { stands = k.stands; truly = k.truly; asked = by until; within = k.within } where
    by : (until : Option ℕ) → WasAsked (last m.ranges) (tree_of definition.expr) until
    by None = k.asked
    by (Some u) = λ node series b at. absurd (cc (k.asked node series, at))

  -- that goes on from an older one
  went_on : (until : Option ℕ) (definition older : RuleDef) (before from after : Remembered R) (old : RuleState) → continues_def definition older ≡ true → KeepsRule fits last passed history None definition before (fresh_rule (rule_of_def definition))
      → KeepsRule fits last passed history until older from old → GoesOn fits last passed (tree_of definition.expr) (tree_of older.expr) before from after
      → KeepsRule fits last passed history until definition after (record { rule = rule_of_def definition; lineage = old.lineage })
  went_on until definition older before from after old alike new was goes = record {
    stands = record {
      rule = refl;
      templates = subst (λ t. IsTemplatesOf t (rule_of_def definition)) (sym goes.templates) new.stands.templates;
      previous = goes.previous ∙ was.stands.previous;
      records = λ alert. subst (λ rs. StandsFor rs old.lineage) (sym goes.records) (was.stands.records (sym (ap (λ (x : Rule). x.alert) was.stands.rule) ∙ alert_too definition.alert older.alert _ alike alert));
    };
    truly = goes.truly history was.truly;
    asked = asks_carried (tree_of definition.expr) (tree_of older.expr) until (last from.ranges) (last after.ranges) (passed from.ranges) (passed after.ranges) goes.tree_checked goes.older_checked goes.ranges was.asked;
    within = carried_within history (carried_numbers (tree_of definition.expr) (tree_of older.expr)) (last from.ranges) (last after.ranges) (passed from.ranges) (passed after.ranges) goes.ranges was.within;
  }

  -- of a new rule nothing was passed
  none_passed : (definition : RuleDef) (m : Remembered R) (r : RuleState) → KeepsRule fits last passed history None definition m r → (k : ℕ) (labels : List Pair) → passed_outside false history (passed m.ranges) k labels ≡ 0
  none_passed definition m r kept k labels =
      subst (λ b. IsPassedWithin history (series_number history labels) b (passed m.ranges k (series_number history labels))) (kept.asked k (series_number history labels)) (kept.within k (series_number history labels))

  -- All rules of a group

  module _ (until : Option ℕ) (definitions older : List RuleDef) (befores olds afters : List (Remembered R)) (was : List RuleState) (from : List (Option ℕ)) (numbers : from ≡ numbers_taken continues_def definitions older)
      (rules_are : map (λ r. r.rule) was ≡ map rule_of_def older) (new : AreKept fits last passed history None definitions befores (map fresh_rule (map rule_of_def definitions))) (old : AreKept fits last passed history until older olds was)
      (gone : HaveGoneOn fits last passed definitions older olds from befores afters) (size : length befores ≡ length definitions) where
    same_numbers : numbers_taken continues (map rule_of_def definitions) was ≡ from
    same_numbers = rule_numbers definitions older was rules_are ∙ sym numbers

    choice_at : (i : ℕ) (definition : RuleDef) → slice_get definitions i ≡ Some definition → (c : Option ℕ) × (slice_get from i ≡ Some c)
    choice_at i definition h =
        let low : i < length definitions = slice_get_within definitions i definition h in
        let count : length from ≡ length definitions = ap length numbers ∙ numbers_count continues_def definitions older in
        place_there from i (omega arith)

    before_at : (i : ℕ) (definition : RuleDef) → slice_get definitions i ≡ Some definition → (m : Remembered R) × (slice_get befores i ≡ Some m)
    before_at i definition h = let low : i < length definitions = slice_get_within definitions i definition h in place_there befores i (omega arith)

    rule_at : (i : ℕ) (definition : RuleDef) → slice_get definitions i ≡ Some definition → slice_get (map rule_of_def definitions) i ≡ Some (rule_of_def definition)
    rule_at i definition h = slice_get-map rule_of_def definitions i ∙ ap (option_map rule_of_def) h

    new_at : (i : ℕ) (definition : RuleDef) (before : Remembered R) → slice_get definitions i ≡ Some definition → slice_get befores i ≡ Some before → KeepsRule fits last passed history None definition before (fresh_rule (rule_of_def definition))
    new_at i definition before h k = new i definition before (fresh_rule (rule_of_def definition)) h k (slice_get-map fresh_rule (map rule_of_def definitions) i ∙ ap (option_map fresh_rule) (rule_at i definition h))

    alike_at : (i n : ℕ) (definition from_code : RuleDef) → slice_get definitions i ≡ Some definition → slice_get from i ≡ Some (Some n) → slice_get older n ≡ Some from_code → continues_def definition from_code ≡ true
    alike_at i n definition from_code h at k =
        let taking = takes continues_def definitions older i n (sym (ap (λ l. slice_get l i) numbers) ∙ at) in
        let first : taking.new ≡ definition = same_Some taking.new definition (sym taking.new_is ∙ h) in
        let second : taking.old ≡ from_code = same_Some taking.old from_code (sym taking.old_is ∙ k) in
        (λ j. continues_def (sym first j) (sym second j)) ∙ taking.alike

    state_at : (i : ℕ) (definition : RuleDef) (c : Option ℕ) → slice_get definitions i ≡ Some definition → slice_get from i ≡ Some c
        → slice_get (continued_rules (map rule_of_def definitions) was) i ≡ Some (continued_rule (rule_of_def definition) (option_and_then (slice_get was) c))
    state_at i definition c h at =
        let chosen : slice_get (taken continues (map rule_of_def definitions) was) i ≡ Some (option_and_then (slice_get was) c) =
        ap (λ l. slice_get l i) (taken_under_numbers continues (map rule_of_def definitions) was ∙ ap (map (option_and_then (slice_get was))) same_numbers)
        ∙ slice_get-map (option_and_then (slice_get was)) from i ∙ ap (option_map (option_and_then (slice_get was))) at in
        zip_at (λ p. continued_rule p.0 p.1) (map rule_of_def definitions) (taken continues (map rule_of_def definitions) was) i (rule_of_def definition) (option_and_then (slice_get was) c) (rule_at i definition h) chosen

    kept_by_choice : (i : ℕ) (definition : RuleDef) (before after : Remembered R) (c : Option ℕ) → slice_get definitions i ≡ Some definition → slice_get befores i ≡ Some before → slice_get from i ≡ Some c → GoesOnBy fits last passed definition older olds c before after
        → KeepsRule fits last passed history until definition after (continued_rule (rule_of_def definition) (option_and_then (slice_get was) c))
    kept_by_choice i definition before after None h k at same =
        subst (λ m. KeepsRule fits last passed history until definition m (fresh_rule (rule_of_def definition))) (sym same) (stays_new until definition before (fresh_rule (rule_of_def definition)) (new_at i definition before h k))
    kept_by_choice i definition before after (Some n) h k at goes =
        let state = state_there older was n goes.from_code rules_are goes.code_there in
        subst (λ o. KeepsRule fits last passed history until definition after (continued_rule (rule_of_def definition) o)) (sym state.1)
        (went_on until definition goes.from_code before goes.from after state.0 (alike_at i n definition goes.from_code h at goes.code_there) (new_at i definition before h k)
        (old n goes.from_code goes.from state.0 goes.code_there goes.from_there state.1) goes.goes_on)

    pub rules_kept : AreKept fits last passed history until definitions afters (continued_rules (map rule_of_def definitions) was)
    rules_kept = λ i definition m r h at there_r.
        let choice = choice_at i definition h in
        let before = before_at i definition h in
        let is : continued_rule (rule_of_def definition) (option_and_then (slice_get was) choice.0) ≡ r = same_Some (continued_rule (rule_of_def definition) (option_and_then (slice_get was) choice.0)) r (sym (state_at i definition choice.0 h choice.1) ∙ there_r) in
        subst (KeepsRule fits last passed history until definition m) is (kept_by_choice i definition before.0 m choice.0 h before.1 choice.1 (gone i definition choice.0 before.0 m h choice.1 before.1 at))

    -- What is left over

    module _ (sizes : length olds ≡ length older) where
      olds_wrote : AllWrote olds was
      olds_wrote = λ i m r at there_r.
          let low : i < length olds = slice_get_within olds i m at in
          let definition = place_there older i (omega arith) in
          (old i definition.0 m r definition.1 at there_r).stands.previous

      olds_many : length olds ≡ length was
      olds_many = sizes ∙ sym (sym (length-map was (λ (r : RuleState). r.rule)) ∙ ap length rules_are ∙ length-map older rule_of_def)

      pub left_over : (leftovers : List (List Pair)) → in_label_order (leftovers ++ flat_map previous_in (spared from olds)) ≡ left_by leftovers (unused_rules (map rule_of_def definitions) was)
      left_over leftovers =
          ap (λ l. in_label_order (leftovers ++ l)) (spared_wrote 0 from olds was olds_many olds_wrote
          ∙ ap (flat_map (λ (r : RuleState). previous r.lineage)) (sym (unused continues (map rule_of_def definitions) was ∙ ap (λ c. somes (spared c was)) same_numbers)))

    -- What was passed

    abbrev passed_before : ℕ → PassedFor
    passed_before j = passed_for passed history (slice_get olds j)

    taken_at : (i : ℕ) (c : Option ℕ) → slice_get from i ≡ Some c → slice_get (rules_taken (map rule_of_def definitions) was) i ≡ Some (option_and_then (numbered_at was) c)
    taken_at i c at =
        ap (λ l. slice_get l i) (taken_numbered continues (map rule_of_def definitions) was ∙ ap (map (option_and_then (numbered_at was))) same_numbers)
        ∙ slice_get-map (option_and_then (numbered_at was)) from i ∙ ap (option_map (option_and_then (numbered_at was))) at

    passed_by_choice : (i : ℕ) (definition : RuleDef) (before after : Remembered R) (c : Option ℕ) (k : ℕ) (labels : List Pair) → slice_get definitions i ≡ Some definition → slice_get befores i ≡ Some before
        → GoesOnBy fits last passed definition older olds c before after
        → passed_outside false history (passed after.ranges) k labels ≡ passed_for_rule passed_before (rule_of_def definition) (option_and_then (numbered_at was) c) k labels
    passed_by_choice i definition before after None k labels h at same =
        ap (λ (m : Remembered R). passed_outside false history (passed m.ranges) k labels) same ∙ none_passed definition before (fresh_rule (rule_of_def definition)) (new_at i definition before h at) k labels
    passed_by_choice i definition before after (Some n) k labels h at goes =
        let state = state_there older was n goes.from_code rules_are goes.code_there in
        let rule_is : rule_of_def goes.from_code ≡ state.0.rule = (old n goes.from_code goes.from state.0 goes.code_there goes.from_there state.1).stands.rule in
        carried_is history (tree_of definition.expr) (tree_of goes.from_code.expr) (last goes.from.ranges) (last after.ranges) (passed goes.from.ranges) (passed after.ranges) goes.goes_on.ranges k labels
        ∙ (λ j. carried_passed (tree_of definition.expr) (ap (λ (r : Rule). r.expr) rule_is j) (passed_for passed history (sym goes.from_there j)) k labels)
        ∙ sym (ap (λ o. passed_for_rule passed_before (rule_of_def definition) (numbered_as n o) k labels) state.1)

    abbrev all_passed : List PassedFor
    all_passed = map (λ p. passed_for_rule passed_before p.0 p.1) (zip (map rule_of_def definitions) (rules_taken (map rule_of_def definitions) was))

    passed_for_none : length afters ≡ length definitions → (i k : ℕ) (labels : List Pair) → slice_get definitions i ≡ None → passed_for passed history (slice_get afters i) k labels ≡ get_or all_passed i nothing_passed k labels
    passed_for_none sizes i k labels e =
        ap (λ o. passed_for passed history o k labels) (none_at definitions afters i (sym sizes) e)
        ∙ sym (ap (λ (p : PassedFor). p k labels) (zip_none (λ p. passed_for_rule passed_before p.0 p.1) (map rule_of_def definitions) (rules_taken (map rule_of_def definitions) was) i nothing_passed (slice_get-map rule_of_def definitions i ∙ ap (option_map rule_of_def) e)))

    passed_for_one : length afters ≡ length definitions → (i k : ℕ) (labels : List Pair) (definition : RuleDef) → slice_get definitions i ≡ Some definition → passed_for passed history (slice_get afters i) k labels ≡ get_or all_passed i nothing_passed k labels
    passed_for_one sizes i k labels definition e =
        let choice = choice_at i definition e in
        let before = before_at i definition e in
        let low : i < length definitions = slice_get_within definitions i definition e in
        let after = place_there afters i (omega arith) in
        let is : get_or all_passed i nothing_passed ≡ passed_for_rule passed_before (rule_of_def definition) (option_and_then (numbered_at was) choice.0) =
        get_or_from_slice_get all_passed i (passed_for_rule passed_before (rule_of_def definition) (option_and_then (numbered_at was) choice.0)) nothing_passed
        (zip_at (λ p. passed_for_rule passed_before p.0 p.1) (map rule_of_def definitions) (rules_taken (map rule_of_def definitions) was) i (rule_of_def definition) (option_and_then (numbered_at was) choice.0) (rule_at i definition e) (taken_at i choice.0 choice.1)) in
        ap (λ o. passed_for passed history o k labels) after.1
        ∙ passed_by_choice i definition before.0 after.0 choice.0 k labels e before.1 (gone i definition choice.0 before.0 after.0 e choice.1 before.1 after.1)
        ∙ sym (ap (λ (p : PassedFor). p k labels) is)

    pub passed_on : length afters ≡ length definitions → (i k : ℕ) (labels : List Pair)
        → passed_for passed history (slice_get afters i) k labels ≡ carried_by_rules (map rule_of_def definitions) was (λ j. passed_for passed history (slice_get olds j)) i k labels
    passed_on sizes i k labels = by (slice_get definitions i) refl where
      by : (o : Option RuleDef) → slice_get definitions i ≡ o → passed_for passed history (slice_get afters i) k labels ≡ get_or all_passed i nothing_passed k labels
      by None e = passed_for_none sizes i k labels e
      by (Some definition) e = passed_for_one sizes i k labels definition e
