-- What a lineage keeps of an outcome and of a restoration is told once.
use Rattle.std.proofs.Common.{◌≡◌, ℕ, true, List, [], ◌∷◌, ◌++◌, Option, Some, None, Ok, refl, ap}
use Rattle.spec_history.specs.declared.entry.Entry.{Entry}
use Rattle.spec_rules.specs.spec_alerts.declared.found.RuleElement.{RuleElement}
use Rattle.spec_rules.specs.spec_alerts.Lineage.{moved}
use Rattle.spec_rules.specs.spec_alerts.private.Laws.{alerting_outcome, outcome_by, restored_entry}
use Rattle.spec_rules.specs.spec_alerts.Records.{exceeding}
use Rattle.spec_rules.specs.Evaluations.{restored_by, with_restored, within_alerts}
use Rattle.spec_rules.specs.Groups.{RuleState}
use Rattle.spec_rules.specs.Results.{unless_beyond, without_place}
use Rattle.laws_runs.specs.private.Worked.{kept_outcome}

by_limit : (limit : ℕ) (o : Option ℕ) (founds : List RuleElement) → kept_outcome (without_place (unless_beyond limit o founds)) ≡ outcome_by o founds
by_limit limit None founds = refl
by_limit limit (Some have) founds = refl

pub one_outcome : (limit : ℕ) (r : RuleState) (now : ℕ) (founds : List RuleElement)
    → kept_outcome (within_alerts true limit r now (Ok founds)) ≡ alerting_outcome limit r.lineage now r.rule.hold r.rule.keep founds
one_outcome limit r now founds = by_limit limit (exceeding limit r.lineage now r.rule.hold r.rule.keep founds) founds

pub one_restoration : (history : List Entry) (now : ℕ) (r : RuleState) → r.rule.alert ≡ true
    → (with_restored history now r).lineage ≡ r.lineage ++ restored_entry history r.rule.hold now r.lineage ∷ []
one_restoration history now r h = ap (λ b. r.lineage ++ moved (restored_by b history now r) ∷ []) h
