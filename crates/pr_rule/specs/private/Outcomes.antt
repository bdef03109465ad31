-- What a rule comes to before anything is put: its samples and notifications, and its records.
use Rattle.std.specs.Prelude.{◌≡◌, ℕ, Bool, true, List, [], Result, Ok, Err}
use Rattle.pr_labels.specs.declared.pair.Pair.{Pair}
use Rattle.spec_rules.specs.spec_alerts.declared.found.RuleElement.{RuleElement}
use Rattle.spec_rules.specs.spec_alerts.declared.record.Record.{Record}
use Rattle.spec_rules.specs.spec_alerts.Lineage.{came_to}
use Rattle.spec_rules.specs.declared.fault.RuleFailure.{RuleFailure}
use Rattle.spec_rules.specs.Evaluations.{evaluated, fault_outcome, rule_samples, sent_by}
use Rattle.spec_rules.specs.Groups.{Group, RuleState, interval_of}
use Rattle.pr_rule.specs.private.AlertStanding.{StandsFor}
use Rattle.pr_rule.specs.declared.rule_result.error.RuleError.{RuleError}
use Rattle.pr_rule.specs.declared.rule_result.error.RuleError.TheVariants.{Failed, Memory}
use Rattle.pr_rule.specs.declared.offered.Offered.{Offered}

-- The rule comes to these samples, to these notifications where they are told, and where it is an
-- alert to these records, whatever is written then.
pub record IsOffered (tells : Bool) (offered : Offered) (alerts : List Record) (g : Group) (r : RuleState) (now : ℕ) (founds : List RuleElement) : Type 0 where
  pub samples : offered.samples ≡ rule_samples g r now founds
  pub sent : tells ≡ true → (wrote : List (List Pair)) → offered.sent ≡ sent_by r.rule.alert (interval_of g) (evaluated r now (came_to founds) wrote)
  pub records : (wrote : List (List Pair)) → r.rule.alert ≡ true → StandsFor alerts (evaluated r now (came_to founds) wrote)

-- A rule has a fault, and its records stand for it after that.
pub record HasFailed (came : Result (List RuleElement) RuleFailure) (alerts : List Record) (r : RuleState) (now : ℕ) (failure : RuleFailure) : Type 0 where
  pub outcome : came ≡ Err failure
  pub records : r.rule.alert ≡ true → StandsFor alerts (evaluated r now (fault_outcome failure.kind) [])

-- What is offered is what the outcome of the rule comes to, or its fault.
abbrev pub Offers : Bool → Result (List RuleElement) RuleFailure → List Record → Group → RuleState → ℕ → Result Offered RuleError → Type 0
Offers tells came alerts g r now (Ok offered) = (founds : List RuleElement) × ((came ≡ Ok founds) × IsOffered tells offered alerts g r now founds)
Offers tells came alerts g r now (Err (Failed failure)) = HasFailed came alerts r now failure
Offers tells came alerts g r now (Err Memory) = Unit {0}
