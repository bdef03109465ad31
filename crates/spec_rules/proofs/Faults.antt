-- What a rule's evaluation leaves of what was written before.
use Rattle.std.proofs.Common.{◌≡◌, ℕ, List, [], ◌∷◌, ◌++◌, map, Result, Ok, Err, refl, sym, ap, ◌∙◌, reverse}
use Rattle.std.proofs.lemmas.List.{reverse-append}
use Rattle.pr_ast.specs.pr_labels.declared.pair.Pair.{Pair}
use Rattle.spec_alerts.specs.spec_history.declared.entry.Entry.{Entry}
use Rattle.spec_alerts.specs.spec_history.Puts.{shown_entries, label_sets_of}
use Rattle.spec_alerts.specs.declared.found.RuleElement.{RuleElement}
use Rattle.spec_alerts.specs.Lineage.{Occurrence, previous, previous_from}
use Rattle.spec_alerts.specs.Records.{evaluation}
use Rattle.spec_rules.specs.declared.fault.RuleFailure.{RuleFailure}
use Rattle.spec_rules.specs.declared.fault.RuleFault.{RuleFault}
use Rattle.spec_rules.specs.declared.fault.RuleFault.TheVariants.{Eval, SameAfterRule, LimitExceeded}
use Rattle.spec_rules.specs.Evaluations.{sample_entry, failed_step, fault_outcome, rule_outcome, rule_step, rule_samples, rule_step_by}
use Rattle.spec_rules.specs.Groups.{Group, RuleState}
use Rattle.spec_rules.specs.Settings.{Settings}

-- the newest entry of a lineage
newest : (lineage : List Occurrence) (step : Occurrence) → previous (lineage ++ step ∷ []) ≡ previous_from (step ∷ reverse lineage)
newest lineage step = ap previous_from (reverse-append lineage (step ∷ []))

after_fault : (now hold keep : ℕ) (kind : RuleFault) (earlier : List Occurrence) → previous_from (evaluation now hold keep (fault_outcome kind) [] ∷ earlier) ≡ previous_from earlier
after_fault now hold keep (Eval kind) earlier = refl
after_fault now hold keep (SameAfterRule labels) earlier = refl
after_fault now hold keep (LimitExceeded limit have) earlier = refl

pub fault_is : (s : Settings) (g : Group) (r : RuleState) (history : List Entry) (now : ℕ) (f : RuleFailure) → rule_outcome s g r history now ≡ Err f
    → rule_step s g r history now ≡ failed_step r now f
unfolding rule_step
fault_is s g r history now f h = ap (λ o. rule_step_by g r history now o) h

pub fault_keeps : (r : RuleState) (now : ℕ) (f : RuleFailure) → previous (failed_step r now f).lineage ≡ previous r.lineage
fault_keeps r now f =
    newest r.lineage (evaluation now r.rule.hold r.rule.keep (fault_outcome f.kind) []) ∙ after_fault now r.rule.hold r.rule.keep f.kind (reverse r.lineage)

pub fault_leaves : (s : Settings) (g : Group) (r : RuleState) (history : List Entry) (now : ℕ) (f : RuleFailure) → rule_outcome s g r history now ≡ Err f
    → previous (rule_step s g r history now).lineage ≡ previous r.lineage
fault_leaves s g r history now f h = ap (λ step. previous step.lineage) (fault_is s g r history now f h) ∙ fault_keeps r now f

-- what was written is what was Added or Same
fine_writes : (g : Group) (r : RuleState) (history : List Entry) (now : ℕ) (founds : List RuleElement)
    → previous (rule_step_by g r history now (Ok founds)).lineage ≡ label_sets_of (shown_entries history (map (sample_entry now) (rule_samples g r now founds)))
fine_writes g r history now founds = newest r.lineage _

pub writes : (s : Settings) (g : Group) (r : RuleState) (history : List Entry) (now : ℕ) (founds : List RuleElement) → rule_outcome s g r history now ≡ Ok founds
    → previous (rule_step s g r history now).lineage ≡ label_sets_of (shown_entries history (map (sample_entry now) (rule_samples g r now founds)))
unfolding rule_step
writes s g r history now founds h = ap (λ o. previous (rule_step_by g r history now o).lineage) h ∙ fine_writes g r history now founds
