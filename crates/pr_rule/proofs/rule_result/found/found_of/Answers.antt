use Rattle.std.proofs.Common.{◌≡◌, Bool, IfOk, subst, sym}
use Rattle.spec_rules.specs.Definitions.{rule_of_def}
use Rattle.spec_rules.specs.Results.{found_by}
use Rattle.pr_rule.proofs.rule_result.found.found_of.Goals as goal

pub returns-else-rule-clause-found : goal.returns-else-rule-clause-found
returns-else-rule-clause-found c = λ templates of_rule.
    let rule = rule_of_def c.args.rule.now in
    subst (λ (alert : Bool). IfOk c.recorded.result (λ f. f ≡ found_by c.args.external.now rule alert c.args.item.now)) (sym c.if-rule.false)
    (c.recorded.ensures.found c.args.external.now rule (of_rule c.if-rule.false))
