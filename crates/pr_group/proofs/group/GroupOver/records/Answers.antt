use Rattle.std.specs.Prelude.{option_copied}
use Rattle.pr_group.proofs.AlertingRules.{alerting_have_alerts}
use Rattle.pr_group.proofs.Going.{alerts_if}
use Rattle.pr_group.proofs.group.GroupOver.records.Goals as goal

pub returns-clause-some : goal.returns-clause-some
returns-clause-some g c = λ history group kept.
    alerting_have_alerts g.R.Ranges.fits g.R.Ranges.last g.R.Ranges.passed history c.args.self.now group c.args.rule kept (option_copied c.alerts.result) c.alerts.ensures

pub returns-clause-stands : goal.returns-clause-stands
returns-clause-stands g c = λ history group r kept at.
    alerts_if g.R.Ranges.fits g.R.Ranges.last g.R.Ranges.passed c.args.self.now history group kept c.args.rule r (option_copied c.alerts.result) at c.alerts.ensures
