use Rattle.std.proofs.Common.{◌≡◌, List, IfOk, ap, ◌∙◌, subst}
use Rattle.pr_labels.specs.declared.pair.Pair.{Pair}
use Rattle.spec_rules.specs.Definitions.{rule_of_def}
use Rattle.pr_rule.specs.private.Making.{alert_made}
use Rattle.pr_rule.proofs.Templated.{alerting_so}
use Rattle.pr_rule.proofs.rule_result.labels.alerting_labels.Goals as goal

pub returns-clause-labels : goal.returns-clause-labels
returns-clause-labels c = λ h.
    subst (λ (labels : List Pair). IfOk c.alert.result (λ l. l ≡ labels))
    (ap (λ (over : List Pair). alert_made c.args.rule.now.name over c.args.item.now.labels) c.in_ok-over.ensures
    ∙ alerting_so c.args.external.now (rule_of_def c.args.rule.now) c.args.item.now c.args.templates.now h) c.alert.ensures.made
