use Rattle.std.proofs.Common.{ap, sym, subst}
use Rattle.pr_manager.specs.spec_world.declared.report.Report.TheVariants.{Alerts}
use Rattle.pr_engine.specs.private.Standing.{KeepsWorld, KeptParts}
use Rattle.pr_engine.proofs.standing.Standing.list_alerts.Goals as goal

pub returns-clause-report : goal.returns-clause-report
returns-clause-report g c = λ step time w keeps.
    let R = g.R.Ranges in
    let kept : KeptParts g.row.R.Denot = record { head = c.self.inside.head; targets = c.self.inside.targets; manager = c.self.inside.manager } in
    let k : KeepsWorld R.fits R.last R.passed step kept w = subst (λ (k : KeptParts g.row.R.Denot). KeepsWorld R.fits R.last R.passed step k w) (sym c.self.view_is) keeps in
    ap Alerts (c.in_ok-list.ensures w.history w.groups w.reloaded k.groups)
