-- An evaluation keeps the definition of its group.
use Rattle.std.proofs.Common.{◌≡◌, ℕ, Bool, true, false, List, [], ◌∷◌, ◌++◌, map, fold, refl, sym, ap, ◌∙◌, append_assoc, append-nil}
use Rattle.std.specs.Prelude.{◌==◌}
use Rattle.std.proofs.lemmas.List.{map-append}
use Rattle.spec_alerts.specs.spec_history.declared.entry.Entry.{Entry}
use Rattle.spec_alerts.specs.spec_history.Admission.{put_all}
use Rattle.spec_alerts.specs.spec_history.Puts.{marker}
use Rattle.spec_rules.specs.Definitions.{Group as Definition, Rule}
use Rattle.spec_rules.specs.Evaluations.{RulesProgress, all_rules, begun, group_step, one_rule, restoring, rule_step, with_lineage, with_restored}
use Rattle.spec_rules.specs.Groups.{Group, RuleState}
use Rattle.spec_rules.specs.private.Laws.{definition_of}
use Rattle.spec_rules.specs.Settings.{Settings}

abbrev rules_in : List RuleState → List Rule
rules_in rs = map (λ r. r.rule) rs

same_rules : (s : Settings) (g : Group) (now : ℕ) (rules : List RuleState) (p : RulesProgress) → rules_in (fold (one_rule s g now) p rules).rules ≡ rules_in p.rules ++ rules_in rules
same_rules s g now [] p = sym (append-nil (rules_in p.rules))
same_rules s g now (r ∷ rules) p =
    same_rules s g now rules (one_rule s g now p r)
    ∙ ap (λ (l : List Rule). l ++ rules_in rules) (map-append (λ r. r.rule) p.rules (with_lineage r (rule_step s g r p.history now).lineage ∷ []))
    ∙ append_assoc (rules_in p.rules) (r.rule ∷ []) (rules_in rules)

same_restored : (history : List Entry) (now : ℕ) (rules : List RuleState) → rules_in (map (with_restored history now) rules) ≡ rules_in rules
same_restored history now [] = refl
same_restored history now (r ∷ rules) = ap (λ (l : List Rule). r.rule ∷ l) (same_restored history now rules)

defined : Group → List Rule → Definition
defined g rules = record { name = g.name; interval = g.interval; limit = g.limit; rules = rules }

same_ended : (b : Bool) (g : Group) (history : List Entry) (now : ℕ) (p : RulesProgress) (gone : List Entry) → rules_in p.rules ≡ rules_in g.rules
    → definition_of (restoring b g history now p gone).group ≡ definition_of g
unfolding defined
same_ended true g history now p gone h = ap (defined g) (same_restored (put_all p.history gone) now p.rules ∙ h)
same_ended false g history now p gone h = ap (defined g) h

pub definition_stays : (s : Settings) (g : Group) (history : List Entry) (now : ℕ) → definition_of (group_step s g history now).group ≡ definition_of g
unfolding group_step
definition_stays s g history now =
    same_ended (g.waits == 1) g history now (all_rules s g history now) (map (marker now) g.leftovers) (same_rules s g now g.rules (begun history))
