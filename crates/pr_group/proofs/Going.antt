-- What an older group leaves to a new one is what a reload means.
use Rattle.std.proofs.Common.{◌≡◌, ℕ, ◌<◌, Bool, true, false, cond, List, [], ◌∷◌, ◌++◌, find, flat_map, fold, length, map, slice_get, Option, Some, None, refl, sym, ap, subst, ◌∙◌, arith}
use Rattle.pr_ast.specs.pr_labels.declared.pair.Pair.{Pair}
use Rattle.pr_rule.specs.spec_history.declared.entry.Entry.{Entry}
use Rattle.pr_rule.specs.spec_rules.Definitions.{Group as Definition, group_of_def, Rule, rule_of_def}
use Rattle.pr_rule.specs.spec_rules.declared.definitions.GroupDef.{GroupDef}
use Rattle.pr_rule.specs.spec_rules.declared.definitions.RuleDef.{RuleDef}
use Rattle.pr_rule.specs.pr_range.private.Asks.{LastAsks, Passed}
use Rattle.pr_rule.specs.pr_range.private.Carried.{IsOnce}
use Rattle.pr_group.specs.private.Named.{AreBelow}
use Rattle.pr_group.proofs.Once.{numbers_once, takes}
use Rattle.std.proofs.lemmas.List.{length-map}
use Rattle.std.proofs.lemmas.Option.{same_Some, slice_get_within}
use Rattle.std.specs.Prelude.{Result, Ok, Err, IfOk, IfSome, OnOk}
use Rattle.std.specs.Option.{option_and_then, option_map}
use Rattle.pr_ast.specs.pr_labels.Rising.{with_labels}
use Rattle.pr_rule.specs.spec_alerts.declared.record.Record.{Record}
use Rattle.pr_rule.specs.private.AlertStanding.{StandsFor}
use Rattle.pr_rule.specs.declared.remembered.Remembered.{Remembered}
use Rattle.pr_rule.specs.spec_vectors.Vectors.{in_label_order}
use Rattle.pr_rule.specs.spec_rules.private.Carried.{carried_by_group, carried_by_rules}
use Rattle.pr_rule.specs.spec_rules.Groups.{Group, RuleState, fresh, fresh_rule, rules_of}
use Rattle.pr_rule.specs.spec_rules.private.Laws.{definition_of, numbers_taken}
use Rattle.pr_rule.specs.spec_rules.Reloads.{carried, continued_rule, continued_rules, continues, left_by, remains, unused_rules}
use Rattle.pr_rule.specs.spec_rules.Taking.{without_first}
use Rattle.pr_group.specs.private.Carrying.{HasGoneOn, HaveGoneOn}
use Rattle.pr_group.specs.private.Keeping.{AreKept, KeepsGroup, KeptGroup, alerts_at, alerts_of_rule, passed_by}
use Rattle.pr_group.specs.private.Matching.{continues_def}
use Rattle.pr_group.proofs.GroupContinued.{left_over, passed_on, rules_kept}
use Rattle.pr_group.proofs.Numbers.{numbers_count}
use Rattle.pr_group.proofs.Places.{place_there}
use Rattle.pr_group.proofs.Wrote.{AllWrote, all_wrote, in_two_parts}

-- Definitions

continued_is : (rule : Rule) (o : Option RuleState) → (continued_rule rule o).rule ≡ rule
continued_is rule None = refl
continued_is rule (Some old) = refl

continued_are : (rules : List Rule) (olds : List RuleState) → map (λ r. r.rule) (continued_rules rules olds) ≡ rules
continued_are [] olds = refl
continued_are (rule ∷ rules) olds = λ i. continued_is rule (find (continues rule) olds) i ∷ continued_are rules (without_first (continues rule) olds) i

fresh_are : (rules : List Rule) → map (λ r. r.rule) (map fresh_rule rules) ≡ rules
fresh_are [] = refl
fresh_are (rule ∷ rules) = ap (λ l. rule ∷ l) (fresh_are rules)

carried_definition : (waits : ℕ) (file : List ℕ) (d : Definition) (was : Group) → definition_of (carried (fresh waits file d) was) ≡ d
carried_definition waits file d was =
    let rules : map (λ r. r.rule) (continued_rules (rules_of (fresh waits file d)) was.rules) ≡ d.rules = continued_are (rules_of (fresh waits file d)) was.rules ∙ fresh_are d.rules in
    λ i. record { name = d.name; interval = d.interval; limit = d.limit; rules = rules i }

-- A group

module _ {R : Type 0} (fits : R → List Entry → Type 0) (last : R → LastAsks) (passed : R → Passed) (before old after : KeptGroup R) (gone : HasGoneOn fits last passed before old after) (history : List Entry) (waits : ℕ) (was : Group)
    (new : KeepsGroup fits last passed before history (fresh waits before.file (group_of_def before.def))) (older : KeepsGroup fits last passed old history was) where
  older_rules : map (λ r. r.rule) was.rules ≡ map rule_of_def old.def.rules
  older_rules = ap (λ (d : Definition). d.rules) older.definition

  rules_gone : AreKept fits last passed history was.last before.def.rules after.rules (continued_rules (map rule_of_def before.def.rules) was.rules)
  rules_gone = rules_kept fits last passed history was.last before.def.rules old.def.rules before.rules old.rules after.rules was.rules gone.from gone.numbers older_rules new.rules older.rules gone.rules gone.new_size

  news : rules_of (fresh waits before.file (group_of_def before.def)) ≡ map rule_of_def before.def.rules
  news = fresh_are (map rule_of_def before.def.rules)

  left : left_by old.leftovers (unused_rules (map rule_of_def before.def.rules) was.rules) ≡ after.leftovers
  left = sym (gone.left ∙ left_over fits last passed history was.last before.def.rules old.def.rules before.rules old.rules after.rules was.rules gone.from gone.numbers older_rules new.rules older.rules gone.rules gone.new_size gone.old_size old.leftovers)

  pub keeps : KeepsGroup fits last passed after history (carried (fresh waits before.file (group_of_def before.def)) was)
  keeps = record {
    definition = carried_definition waits before.file (group_of_def before.def) was ∙ ap group_of_def (sym gone.def);
    file = gone.file;
    until = gone.last_is ∙ older.until;
    waiting = gone.waits_are ∙ older.waiting;
    many = gone.size ∙ gone.new_size ∙ ap (λ (d : GroupDef). length d.rules) (sym gone.def);
    left = sym left ∙ (λ i. left_by (older.left i) (unused_rules (sym news i) was.rules));
    rules = subst (λ definitions. AreKept fits last passed history was.last definitions after.rules (continued_rules (rules_of (fresh waits before.file (group_of_def before.def))) was.rules)) (ap (λ (d : GroupDef). d.rules) (sym gone.def))
        (subst (λ rules. AreKept fits last passed history was.last before.def.rules after.rules (continued_rules rules was.rules)) (sym news) rules_gone);
  }

  pub passes : (i n : ℕ) (labels : List Pair) → passed_by passed after history i n labels ≡ carried_by_group (fresh waits before.file (group_of_def before.def)) was (passed_by passed old history) i n labels
  passes i n labels =
      passed_on fits last passed history was.last before.def.rules old.def.rules before.rules old.rules after.rules was.rules gone.from gone.numbers older_rules new.rules older.rules gone.rules gone.new_size (gone.size ∙ gone.new_size) i n labels
      ∙ ap (λ rules. carried_by_rules rules was.rules (passed_by passed old history) i n labels) (sym news)

-- What remains of a group

module _ {R : Type 0} (fits : R → List Entry → Type 0) (last : R → LastAsks) (passed : R → Passed) (kept : KeptGroup R) (history : List Entry) (g : Group) (keeps : KeepsGroup fits last passed kept history g) where
  wrote : AllWrote kept.rules g.rules
  wrote = λ i m r at there_r.
      let low : i < length kept.rules = slice_get_within kept.rules i m at in
      let size : length kept.rules ≡ length kept.def.rules = keeps.many in
      let definition = place_there kept.def.rules i (omega arith) in
      (keeps.rules i definition.0 m r definition.1 at there_r).stands.previous

  many : length kept.rules ≡ length g.rules
  many = keeps.many ∙ sym (sym (length-map g.rules (λ (r : RuleState). r.rule)) ∙ ap (λ (d : Definition). length d.rules) keeps.definition ∙ length-map kept.def.rules rule_of_def)

  pub all_remain : in_label_order (kept.leftovers ++ flat_map (λ m. m.previous) kept.rules) ≡ remains g
  all_remain = λ i. in_label_order (keeps.left i ++ all_wrote kept.rules g.rules many wrote i)

  pub remain_so : {V E : Type 0} (items : V → List (List Pair)) (r : Result V E) (keys leftovers : List (List Pair)) (rules : List (Remembered R)) → leftovers ≡ kept.leftovers → rules ≡ kept.rules
      → keys ≡ fold with_labels (fold with_labels [] leftovers) (flat_map (λ m. m.previous) rules) → IfOk r (λ v. items v ≡ keys) → IfOk r (λ v. items v ≡ remains g)
  remain_so items (Err e) keys leftovers rules f h k there_r = tt
  remain_so items (Ok v) keys leftovers rules f h k there_r =
      there_r ∙ k ∙ in_two_parts [] leftovers (flat_map (λ m. m.previous) rules) ∙ (λ i. in_label_order (f i ++ flat_map (λ m. m.previous) (h i))) ∙ all_remain

-- The alerts of a rule

module _ {R : Type 0} (fits : R → List Entry → Type 0) (last : R → LastAsks) (passed : R → Passed) (kept : KeptGroup R) (history : List Entry) (g : Group) (keeps : KeepsGroup fits last passed kept history g) where
  alerts_by : (i : ℕ) (r : RuleState) (records : List Record) (definition : RuleDef) (o : Option (Remembered R)) (b : Bool) → slice_get g.rules i ≡ Some r → slice_get kept.def.rules i ≡ Some definition → slice_get kept.rules i ≡ o → definition.alert ≡ b
      → Some records ≡ cond b (option_map (λ m. m.records) o) None → StandsFor records r.lineage
  alerts_by i r records definition None true h k m a e = absurd (cc)
  alerts_by i r records definition None false h k m a e = absurd (cc)
  alerts_by i r records definition (Some x) false h k m a e = absurd (cc)
  alerts_by i r records definition (Some x) true h k m a e =
      let rule = keeps.rules i definition x r k m h in
      subst (λ l. StandsFor l r.lineage) (sym (same_Some records x.records e)) (rule.stands.records (sym (ap (λ (y : Rule). y.alert) rule.stands.rule) ∙ a))

  alerts_stand : (i : ℕ) (r : RuleState) (records : List Record) → slice_get g.rules i ≡ Some r → Some records ≡ alerts_at kept i → StandsFor records r.lineage
  alerts_stand i r records h e = by (slice_get kept.def.rules i) refl e where
    by : (o : Option RuleDef) → slice_get kept.def.rules i ≡ o → Some records ≡ option_and_then (alerts_of_rule kept.rules i) o → StandsFor records r.lineage
    by None k e = absurd (cc)
    by (Some definition) k e = alerts_by i r records definition (slice_get kept.rules i) definition.alert h k refl refl e

  pub alerts_if : (i : ℕ) (r : RuleState) (o : Option (List Record)) → slice_get g.rules i ≡ Some r → o ≡ alerts_at kept i → IfSome o (λ records. StandsFor records r.lineage)
  alerts_if i r None h e = tt
  alerts_if i r (Some records) h e = alerts_stand i r records h e

-- A group that goes on

module _ {R : Type 0} (fits : R → List Entry → Type 0) (last : R → LastAsks) (passed : R → Passed) where
  pub gone_as : (definitions definitions' older older' : List RuleDef) (olds : List (Remembered R)) (from from' : List (Option ℕ)) (before after : List (Remembered R)) → definitions ≡ definitions' → older ≡ older' → from ≡ from'
      → HaveGoneOn fits last passed definitions older olds from before after → HaveGoneOn fits last passed definitions' older' olds from' before after
  gone_as definitions definitions' older older' olds from from' before after e f h gone =
      subst (λ x. HaveGoneOn fits last passed definitions' older' olds x before after) h (subst (λ x. HaveGoneOn fits last passed definitions' x olds from before after) f (subst (λ x. HaveGoneOn fits last passed x older olds from before after) e gone))

  pub moved : (before before' old old' after : KeptGroup R) → before ≡ before' → old ≡ old' → HasGoneOn fits last passed before old after → HasGoneOn fits last passed before' old' after
  moved before before' old old' after e f gone = subst (λ b. HasGoneOn fits last passed b old' after) e (subst (λ o. HasGoneOn fits last passed before o after) f gone)

pub on_ok : {V E : Type 0} (P Q : Type 0) (r : Result V E) → (P → Q) → OnOk r P → OnOk r Q
on_ok P Q (Ok v) f h = f h
on_ok P Q (Err e) f h = tt

-- The numbers of older rules

pub are_once : (from from' : List (Option ℕ)) (new old : List RuleDef) → from' ≡ from → from ≡ numbers_taken continues_def new old → IsOnce from'
are_once from from' new old same e = subst IsOnce (sym (same ∙ e)) (numbers_once continues_def new old)

below : (new old : List RuleDef) → AreBelow (length old) (numbers_taken continues_def new old)
below new old = λ i n at. let taking = takes continues_def new old i n at in slice_get_within old n taking.old taking.old_is

pub are_below : (from from' : List (Option ℕ)) (new old old' all : List RuleDef) → from' ≡ from → from ≡ numbers_taken continues_def new old → old ≡ all → old' ≡ all → AreBelow (length old') from'
are_below from from' new old old' all same e f h = subst (λ l. AreBelow (length l) from') (f ∙ sym h) (subst (AreBelow (length old)) (sym (same ∙ e)) (below new old))

pub are_many : (from from' : List (Option ℕ)) (new old : List RuleDef) → from' ≡ from → from ≡ numbers_taken continues_def new old → length from' ≡ length new
are_many from from' new old same e = ap length (same ∙ e) ∙ numbers_count continues_def new old
