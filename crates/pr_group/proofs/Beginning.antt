-- A new group, and a kept group over a later history.
use Rattle.std.proofs.Common.{◌≡◌, ℕ, zero, suc, ◌+◌, ◌<◌, ◌⊎◌, inl, inr, List, [], ◌∷◌, ◌++◌, length, map, slice_get, Option, Some, None, refl, sym, ap, ◌∙◌, subst, arith}
use Rattle.std.specs.Option.{option_map}
use Rattle.std.proofs.lemmas.List.{length_push}
use Rattle.std.proofs.lemmas.Option.{same_Some, slice_get-map}
use Rattle.pr_ast.specs.pr_labels.declared.pair.Pair.{Pair}
use Rattle.pr_rule.specs.spec_history.declared.entry.Entry.{Entry}
use Rattle.pr_ast.specs.Tree.{tree_of}
use Rattle.pr_rule.specs.spec_rules.declared.definitions.RuleDef.{RuleDef}
use Rattle.pr_rule.specs.spec_rules.Definitions.{Group as Definition, group_of_def, Rule, rule_of_def}
use Rattle.pr_rule.specs.pr_range.private.Asks.{LastAsks, Passed}
use Rattle.pr_rule.specs.pr_eval.private.RangeCallsAsking.{series_number}
use Rattle.pr_rule.specs.spec_rules.Groups.{RuleState, fresh, fresh_rule}
use Rattle.pr_rule.specs.spec_rules.private.Laws.{definition_of}
use Rattle.pr_group.proofs.Falling.{fresh_within}
use Rattle.pr_group.proofs.ReadyReady.{fresh_asked}
use Rattle.pr_rule.specs.declared.remembered.Remembered.{Remembered}
use Rattle.pr_group.specs.private.Evaluating.{AreNew, IsNew}
use Rattle.pr_group.specs.private.Keeping.{AreKept, KeepsGroup, KeepsRule, KeptGroup, passed_for}
use Rattle.pr_group.proofs.Places.{added_place, none_within, place_there}

-- New rules

pub no_rules : {R : Type 0} (fits : R → List Entry → Type 0) (last : R → LastAsks) (passed : R → Passed) (definitions : List RuleDef) (ms : List (Remembered R)) → ms ≡ [] → AreNew fits last passed definitions ms 0
no_rules {R} fits last passed definitions ms none = subst (λ (l : List (Remembered R)). AreNew fits last passed definitions l 0) (sym none) (record { many = refl; each = λ i definition m ec em. absurd (nothing i m em) }) where
  nothing : (i : ℕ) (m : Remembered R) → slice_get [] i ≡ Some m → ⊥
  nothing zero m e = cc
  nothing (suc i) m e = cc

pub one_rule_more : {R : Type 0} (fits : R → List Entry → Type 0) (last : R → LastAsks) (passed : R → Passed) (definitions : List RuleDef) (ms more : List (Remembered R)) (n : ℕ) (definition : RuleDef) (m : Remembered R) → AreNew fits last passed definitions ms n → slice_get definitions n ≡ Some definition
    → IsNew fits last passed definition m → more ≡ ms ++ m ∷ [] → AreNew fits last passed definitions more (n + 1)
one_rule_more {R} fits last passed definitions ms more n definition m h at new pushed = subst (λ (l : List (Remembered R)). AreNew fits last passed definitions l (n + 1)) (sym pushed) (record {
  many = length_push ms m ∙ ap (λ (k : ℕ). k + 1) h.many;
  each = λ i c k ec ek. by i c k ec (added_place ms m k i ek);
}) where
  by : (i : ℕ) (c : RuleDef) (k : Remembered R) → slice_get definitions i ≡ Some c → (slice_get ms i ≡ Some k) ⊎ ((i ≡ length ms) × (m ≡ k)) → IsNew fits last passed c k
  by i c k ec (inl e) = h.each i c k ec e
  by i c k ec (inr e) =
      let here : n ≡ i = sym (e.0 ∙ h.many) in
      let same : definition ≡ c = same_Some definition c (sym at ∙ ap (slice_get definitions) here ∙ ec) in
      subst (λ (x : Remembered R). IsNew fits last passed c x) e.1 (subst (λ (x : RuleDef). IsNew fits last passed x m) same new)

-- A new group

fresh_rules : (rules : List Rule) → map (λ (r : RuleState). r.rule) (map fresh_rule rules) ≡ rules
fresh_rules [] = refl
fresh_rules (r ∷ rules) = ap (λ (l : List Rule). r ∷ l) (fresh_rules rules)

defined : Definition → List Rule → Definition
defined d rules = record { name = d.name; interval = d.interval; limit = d.limit; rules = rules }

fresh_definition : (waits : ℕ) (file : List ℕ) (d : Definition) → definition_of (fresh waits file d) ≡ d
unfolding defined
fresh_definition waits file d = ap (defined d) (fresh_rules d.rules)

pub new_kept : {R : Type 0} (fits : R → List Entry → Type 0) (last : R → LastAsks) (passed : R → Passed) (k : KeptGroup R) (history : List Entry) (waits n : ℕ) → k.waits ≡ waits → k.last ≡ None → k.leftovers ≡ [] → n ≡ length k.def.rules → AreNew fits last passed k.def.rules k.rules n
    → KeepsGroup fits last passed k history (fresh waits k.file (group_of_def k.def))
new_kept {R} fits last passed k history waits n waiting never left all new = record {
  definition = fresh_definition waits k.file (group_of_def k.def);
  file = refl;
  until = never;
  waiting = waiting;
  left = left;
  many = new.many ∙ all;
  rules = kept;
} where
  kept : AreKept fits last passed history None k.def.rules k.rules (map fresh_rule (map rule_of_def k.def.rules))
  kept i definition m r ec em er =
      let is = new.each i definition m ec em in
      let there : slice_get (map fresh_rule (map rule_of_def k.def.rules)) i ≡ Some (fresh_rule (rule_of_def definition)) =
      slice_get-map fresh_rule (map rule_of_def k.def.rules) i ∙ ap (option_map fresh_rule) (slice_get-map rule_of_def k.def.rules i ∙ ap (option_map rule_of_def) ec) in
      let same : fresh_rule (rule_of_def definition) ≡ r = same_Some (fresh_rule (rule_of_def definition)) r (sym there ∙ er) in
      subst (λ (x : RuleState). KeepsRule fits last passed history None definition m x) same
      (record { stands = is.stands; truly = is.truly history; asked = fresh_asked (last m.ranges) (passed m.ranges) (tree_of definition.expr) None is.fresh; within = fresh_within history (last m.ranges) (passed m.ranges) is.fresh })

pub new_unpassed : {R : Type 0} (fits : R → List Entry → Type 0) (last : R → LastAsks) (passed : R → Passed) (definitions : List RuleDef) (ms : List (Remembered R)) (n : ℕ) (history : List Entry) (i k : ℕ) (labels : List Pair) → n ≡ length definitions → AreNew fits last passed definitions ms n
    → passed_for passed history (slice_get ms i) k labels ≡ 0
new_unpassed {R} fits last passed definitions ms n history i k labels all new = by (slice_get ms i) refl where
  by : (o : Option (Remembered R)) → slice_get ms i ≡ o → passed_for passed history o k labels ≡ 0
  by None e = refl
  by (Some m) e =
      let low : i < length ms = none_within ms i m e in
      let definition = place_there definitions i (omega (arith, new.many, all)) in
      (new.each i definition.0 m definition.1 e).fresh.passing k (series_number history labels)
