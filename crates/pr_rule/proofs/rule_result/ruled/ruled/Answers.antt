use Rattle.std.proofs.Common.{Option, IfSome, subst}
use Rattle.std.specs.Prelude.{Vec}
use Rattle.std.specs.declared.alloc.Global.{Global}
use Rattle.spec_rules.specs.spec_alerts.declared.found.RuleElement.{RuleElement}
use Rattle.spec_rules.specs.Definitions.{rule_of_def}
use Rattle.pr_rule.specs.private.Making.{AreRecorded}
use Rattle.pr_rule.proofs.InOrder.{recorded_come}
use Rattle.pr_rule.proofs.rule_result.ruled.ruled.Goals as goal

pub returns-in-Some-clause-comes : goal.returns-in-Some-clause-comes
returns-in-Some-clause-comes c = λ templates is_of.
    let name = c.args.made.now.0 in
    let labels = c.args.made.now.1 in
    let items = c.args.items.now in
    let recorded : AreRecorded name labels items c.in-Some.founds.items =
    subst (λ (all : Option (Vec RuleElement Global)). IfSome all (λ v. AreRecorded name labels items v.items)) c.in-Some.is c.in_ok-founds.ensures in
    recorded_come c.args.external.now c.args.limit (rule_of_def c.args.rule.now) c.args.made.now items c.in-Some.founds.items c.limited.result c.if-not-rule.true is_of recorded c.limited.ensures.comes
