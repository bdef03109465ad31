-- What an evaluation puts into the history.
use Rattle.std.proofs.Common.{◌≡◌, ℕ, Bool, true, false, List, [], ◌∷◌, ◌++◌, refl, sym, ap, ◌∙◌, fold, append-nil}
use Rattle.std.specs.Prelude.{◌==◌, map}
use Rattle.spec_alerts.specs.spec_history.declared.entry.Entry.{Entry}
use Rattle.spec_alerts.specs.spec_history.Admission.{put_all}
use Rattle.spec_alerts.specs.spec_history.Puts.{admitted, marker}
use Rattle.spec_alerts.proofs.HistoryPutting.{puts_parts}
use Rattle.spec_rules.specs.Evaluations.{GroupStep, RulesProgress, after_rules, all_rules, begun, group_step, one_rule, restoring, rule_step}
use Rattle.spec_rules.specs.Groups.{Group, RuleState}
use Rattle.spec_rules.specs.Settings.{Settings}

restoring_admits : (b : Bool) (g : Group) (history : List Entry) (now : ℕ) (p : RulesProgress) (gone : List Entry)
    → (restoring b g history now p gone).report.admitted ≡ admitted history (restoring b g history now p gone).entries
restoring_admits true g history now p gone = refl
restoring_admits false g history now p gone = refl

pub evaluation_admits : (s : Settings) (g : Group) (history : List Entry) (now : ℕ) → (group_step s g history now).report.admitted ≡ admitted history (group_step s g history now).entries
unfolding group_step
evaluation_admits s g history now = restoring_admits (g.waits == 1) g history now (all_rules s g history now) (map (marker now) g.leftovers)

-- Each rule is taken over the history as it stands when those before it have put their entries.
rules_put : (s : Settings) (g : Group) (before : List Entry) (now : ℕ) (rules : List RuleState) (p : RulesProgress) → p.history ≡ put_all before p.entries
    → (fold (one_rule s g now) p rules).history ≡ put_all before (fold (one_rule s g now) p rules).entries
rules_put s g before now [] p h = h
rules_put s g before now (r ∷ rules) p h =
    rules_put s g before now rules (one_rule s g now p r)
    (ap (λ l. put_all l (rule_step s g r p.history now).entries) h ∙ sym (puts_parts before p.entries (rule_step s g r p.history now).entries))

pub history_of_rules : (s : Settings) (g : Group) (history : List Entry) (now : ℕ) → (all_rules s g history now).history ≡ put_all history (all_rules s g history now).entries
history_of_rules s g history now = rules_put s g history now g.rules (begun history) refl
