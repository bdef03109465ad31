use Rattle.std.proofs.Common.{arith}
use Rattle.spec_tests.specs.Verdict.{alert_check}
use Rattle.pr_unit.proofs.Filling.{ends_filling}
use Rattle.pr_unit.proofs.checks.fill_alerts.Goals as goal

pub returns : goal.returns
returns g c = λ interval gs t s stands h.
    ends_filling (alert_check interval gs c.args.test t) (λ x. x.time) c.args.checks.now c.args.time c.checks.index c.checks.slots.items (omega (arith, c.checks-test.false)) (c.checks.invariant interval gs t s stands h)
