use Rattle.std.proofs.Common.{map, arith}
use Rattle.spec_tests.specs.pr_testfile.Checks.{plain_check}
use Rattle.std.proofs.lemmas.List.{length-map}
use Rattle.spec_tests.specs.Verdict.{expr_check}
use Rattle.pr_unit.proofs.Filling.{ends_filling}
use Rattle.pr_unit.proofs.checks.fill_exprs.Goals as goal

pub returns : goal.returns
returns g c = λ gs t s stands h.
    ends_filling (expr_check c.args.every gs c.args.test t) (λ x. x.time) (map plain_check c.args.checks.now) c.args.time c.checks.index c.checks.slots.items (omega (arith, c.checks-test.false, length-map c.args.checks.now plain_check)) (c.checks.invariant gs t s stands h)
