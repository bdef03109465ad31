-- Which rules of a kept group have alerts.
use Rattle.std.proofs.Common.{◌≡◌, ℕ, zero, suc, Bool, true, false, cond, List, [], ◌∷◌, length, map, Option, Some, None, slice_get, refl, sym, ap, ◌∙◌, arith}
use Rattle.std.specs.Prelude.{is_some, option_and_then}
use Rattle.std.specs.Option.{option_map, option_map_or}
use Rattle.std.proofs.lemmas.Option.{slice_get-map}
use Rattle.pr_rule.specs.spec_history.declared.entry.Entry.{Entry}
use Rattle.pr_rule.specs.spec_alerts.declared.record.Record.{Record}
use Rattle.pr_rule.specs.pr_range.private.Asks.{LastAsks, Passed}
use Rattle.pr_rule.specs.spec_rules.Definitions.{Group as Definition, Rule, rule_of_def}
use Rattle.pr_rule.specs.spec_rules.declared.definitions.RuleDef.{RuleDef}
use Rattle.pr_rule.specs.declared.remembered.Remembered.{Remembered}
use Rattle.pr_rule.specs.spec_rules.Groups.{Group, RuleState}
use Rattle.pr_group.specs.private.Keeping.{KeepsGroup, KeptGroup, alerts_at, alerts_of_rule}

-- the code of a rule, by its number
record HasCode (definitions : List RuleDef) (i : ℕ) (rule : Rule) : Type 0 where
  definition : RuleDef
  at : slice_get definitions i ≡ Some definition
  is : rule ≡ rule_of_def definition

some_of : {A B : Type 0} (f : A → B) (o : Option A) (b : B) → option_map f o ≡ Some b → (a : A) × (o ≡ Some a) × (f a ≡ b)
some_of f None b h = absurd cc
some_of f (Some a) b h = (a, refl, cc)

none_of : {A B : Type 0} (f : A → B) (o : Option A) → option_map f o ≡ None → o ≡ None
none_of f None h = refl
none_of f (Some a) h = absurd cc

has_code : {R : Type 0} (fits : R → List Entry → Type 0) (last : R → LastAsks) (passed : R → Passed) (history : List Entry) (k : KeptGroup R) (g : Group) (i : ℕ) (r : RuleState) → KeepsGroup fits last passed k history g
    → slice_get g.rules i ≡ Some r → HasCode k.def.rules i r.rule
has_code fits last passed history k g i r h at =
    let rules : map (λ (x : RuleState). x.rule) g.rules ≡ map rule_of_def k.def.rules = ap (λ (d : Definition). d.rules) h.definition in
    let there : option_map rule_of_def (slice_get k.def.rules i) ≡ Some r.rule =
    sym (slice_get-map rule_of_def k.def.rules i) ∙ ap (λ l. slice_get l i) (sym rules) ∙ slice_get-map (λ (x : RuleState). x.rule) g.rules i ∙ ap (option_map (λ (x : RuleState). x.rule)) at in
    let it = some_of rule_of_def (slice_get k.def.rules i) r.rule there in
    record { definition = it.0; at = it.1; is = sym it.2 }

is_there : {A B : Type 0} (xs : List A) (ys : List B) (i : ℕ) (x : A) → length ys ≡ length xs → slice_get xs i ≡ Some x → is_some (slice_get ys i) ≡ true
is_there [] ys i x many at = absurd cc
is_there (x ∷ xs) [] i y many at = absurd (omega (arith, many))
is_there (x ∷ xs) (y ∷ ys) zero z many at = refl
is_there (x ∷ xs) (y ∷ ys) (suc i) z many at = is_there xs ys i z (omega (arith, many)) at

by_code : {R : Type 0} (alert : Bool) (o : Option (Remembered R)) → is_some o ≡ true → is_some (cond alert (option_map (λ (m : Remembered R). m.records) o) None) ≡ alert
by_code true (Some m) there = refl
by_code true None there = absurd cc
by_code false o there = refl

-- a rule that there is not
no_code : {R : Type 0} (k : KeptGroup R) (g : Group) (i : ℕ) → map (λ (x : RuleState). x.rule) g.rules ≡ map rule_of_def k.def.rules → slice_get g.rules i ≡ None → slice_get k.def.rules i ≡ None
no_code k g i rules at = none_of rule_of_def (slice_get k.def.rules i)
    (sym (slice_get-map rule_of_def k.def.rules i) ∙ ap (λ l. slice_get l i) (sym rules) ∙ slice_get-map (λ (x : RuleState). x.rule) g.rules i ∙ ap (option_map (λ (x : RuleState). x.rule)) at)

-- exactly those that alert
module _ {R : Type 0} (fits : R → List Entry → Type 0) (last : R → LastAsks) (passed : R → Passed) (history : List Entry) (k : KeptGroup R) (g : Group) (i : ℕ) (keeps : KeepsGroup fits last passed k history g) where
  by_rule : (rule : Option RuleState) → slice_get g.rules i ≡ rule → is_some (alerts_at k i) ≡ option_map_or (λ (r : RuleState). r.rule.alert) rule false
  by_rule None at = ap (λ o. is_some (option_and_then (alerts_of_rule k.rules i) o)) (no_code k g i (ap (λ (d : Definition). d.rules) keeps.definition) at)
  by_rule (Some r) at =
      let c = has_code fits last passed history k g i r keeps at in
      ap (λ o. is_some (option_and_then (alerts_of_rule k.rules i) o)) c.at
      ∙ by_code c.definition.alert (slice_get k.rules i) (is_there k.def.rules k.rules i c.definition keeps.many c.at)
      ∙ sym (ap (λ (x : Rule). x.alert) c.is)

  pub alerting_have_alerts : (o : Option (List Record)) → o ≡ alerts_at k i → is_some o ≡ option_map_or (λ (r : RuleState). r.rule.alert) (slice_get g.rules i) false
  alerting_have_alerts o is = ap is_some is ∙ by_rule (slice_get g.rules i) refl
