-- What an expression gives, and what a rule makes of it.
use Rattle.std.proofs.Common.{◌≡◌, ◌≢◌, ℕ, Bool, true, List, Option, Result, Ok, Err, refl, sym, ap}
use Rattle.std.specs.Prelude.{is_ok}
use Rattle.spec_rules.specs.spec_history.declared.entry.Entry.{Entry}
use Rattle.spec_rules.specs.spec_meaning.declared.fault.Fault.{Fault}
use Rattle.spec_rules.specs.spec_meaning.declared.value.Value.{Value}
use Rattle.spec_rules.specs.spec_meaning.Meaning.{meaning}
use Rattle.spec_rules.specs.pr_tmpl.declared.template.External.{External}
use Rattle.spec_rules.specs.spec_alerts.declared.record.Record.{Record}
use Rattle.pr_eval.specs.private.Answers.{AnswersTo}
use Rattle.pr_eval.specs.declared.values.error.EvalError.{EvalError}
use Rattle.pr_eval.specs.declared.values.error.EvalError.TheVariants as evaluation
use Rattle.pr_rule.specs.private.AlertStanding.{StandsFor}
use Rattle.spec_rules.specs.Definitions.{Rule}
use Rattle.spec_rules.specs.Evaluations.{rule_outcome}
use Rattle.spec_rules.specs.Groups.{Group, RuleState}
use Rattle.spec_rules.specs.Results.{failed_by, rule_result, rule_result_by}
use Rattle.spec_rules.specs.Settings.{Settings}
use Rattle.pr_rule.specs.declared.rule_result.error.RuleError.{RuleError}
use Rattle.pr_rule.specs.declared.rule_result.error.RuleError.TheVariants.{Failed, Memory}
use Rattle.pr_rule.specs.private.Coming.{ComesTo}
use Rattle.pr_rule.proofs.Offering.{FaultLaw, failed_first}
use Rattle.pr_rule.specs.private.Outcomes.{Offers}
use Rattle.pr_rule.specs.private.Standing.{IsEvaluationOf}

-- An answer other than want of memory is a value exactly where one is meant.
pub is_meant : (meant : Result Value Fault) (given : Result Value EvalError) → AnswersTo meant given → given ≢ Err evaluation.Memory → is_ok given ≡ is_ok meant
is_meant meant (Ok v) h some = ap is_ok (sym h)
is_meant meant (Err (evaluation.Fault place kind)) h some = ap is_ok (sym h)
is_meant meant (Err evaluation.Memory) h some = absurd (some refl)

-- The result of the rule, by what the evaluation has.
pub meant_so : (blank : ℕ) (outside : External) (most : ℕ) (every : Option ℕ) (waiting : Bool) (s : Settings) (g : Group) (definition rule : Rule) (history : List Entry) (now : ℕ) → IsEvaluationOf blank outside most every waiting s g → definition ≡ rule
    → rule_result_by outside most definition (failed_by (meaning blank history definition.expr now)) ≡ rule_result s g.limit rule history now
unfolding rule_result
meant_so blank outside most every waiting s g definition rule history now is e = λ i. rule_result_by (is.external i) (is.limit i) (e i) (failed_by (meaning (is.step i) history (e i).expr now))

pub offers_error : FaultLaw → (tells : Bool) (error : RuleError) (s : Settings) (g : Group) (r : RuleState) (history : List Entry) (now : ℕ) (alerts : List Record) → ComesTo (rule_result s g.limit r.rule history now) (Err error)
    → (r.rule.alert ≡ true → StandsFor alerts r.lineage) → Offers tells (rule_outcome s g r history now) alerts g r now (Err error)
offers_error law tells (Failed f) s g r history now alerts comes stands = failed_first law s g r history now f alerts comes stands
offers_error law tells Memory s g r history now alerts comes stands = tt
