use Rattle.std.proofs.Common.{sym, ◌∙◌, subst}
use Rattle.std.specs.Prelude.{Err, List, Result}
use Rattle.spec_rules.specs.spec_alerts.declared.found.RuleElement.{RuleElement}
use Rattle.spec_rules.specs.Definitions.{Rule, rule_of_def}
use Rattle.spec_rules.specs.declared.fault.RuleFailure.{RuleFailure}
use Rattle.pr_rule.specs.private.Coming.{ComesTo}
use Rattle.pr_rule.specs.private.Templates.{IsTemplatesOf}
use Rattle.pr_rule.proofs.Reckoning.{meant_so, offers_error}
use Rattle.pr_rule.proofs.outcome.outcome.Goals as goal

pub returns-in-Ok-clause-offers : goal.returns-in-Ok-clause-offers
returns-in-Ok-clause-offers g c = λ s group r history is same templates stands may.
    let at = c.args.at.now in
    let definition = rule_of_def c.args.rule.now in
    let own = subst (λ (q : Rule). IsTemplatesOf c.args.templates.now q) (sym same) templates in
    c.offer.ensures s group r history is same stands c.in-Ok.ensures.rising
    (sym (meant_so at.step at.external.now at.limit at.interval at.waits s group definition r.rule history at.time is same) ∙ c.in-Ok.ensures.comes history may own)

pub returns-in-Err-clause-offers : goal.returns-in-Err-clause-offers
returns-in-Err-clause-offers g c = λ s group r history is same templates stands may.
    let at = c.args.at.now in
    let definition = rule_of_def c.args.rule.now in
    let own = subst (λ (q : Rule). IsTemplatesOf c.args.templates.now q) (sym same) templates in
    offers_error c.a_fault_leaves_the_records.ensures at.tells c.in-Err.error s group r history at.time c.args.records.now
    (subst (λ (m : Result (List RuleElement) RuleFailure). ComesTo m (Err c.in-Err.error)) (meant_so at.step at.external.now at.limit at.interval at.waits s group definition r.rule history at.time is same)
    (c.in-Err.ensures.comes history may own))
    stands
