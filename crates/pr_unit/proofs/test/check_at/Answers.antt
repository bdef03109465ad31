use Rattle.std.proofs.Common.{ℕ, List, ◌+◌, ◌*◌, ◌<◌, Option, map, subst, sym, arith}
use Rattle.spec_tests.specs.pr_testfile.declared.tests.AlertCheck.{AlertCheck}
use Rattle.spec_tests.specs.pr_testfile.declared.tests.ExprCheck.{ExprCheck}
use Rattle.spec_tests.specs.pr_testfile.Checks.{plain_check}
use Rattle.spec_tests.specs.pr_testfile.Tests.{plain_test}
use Rattle.spec_tests.specs.Events.{last_check, settings_of}
use Rattle.spec_tests.specs.Verdict.{alert_check, expr_check}
use Rattle.pr_unit.specs.private.Run.{rounds_until}
use Rattle.pr_unit.specs.private.Slots.{AreFilled}
use Rattle.pr_unit.proofs.Answers.{on_ok}
use Rattle.pr_unit.proofs.Filling.{filled_until}
use Rattle.pr_unit.proofs.Runs.{before_end, time_goes, world_seen}
use Rattle.pr_unit.proofs.test.check_at.Goals as goal

pub returns : goal.returns
returns g c = λ gs from apart next run filled.
    let test = c.args.test.now in
    let t = plain_test test in
    let every = c.args.every in
    let time = c.args.time in
    let number = c.args.number in
    let s = settings_of every t in
    let rounds = rounds_until every (last_check t) in
    let beyond : time < rounds_until every (last_check t) * every =
    subst (λ (o : Option ℕ). time < rounds_until every o * every) (sym next.last) (before_end next.latest every time c.requires next.until) in
    let come = c.in_ok-advance.ensures.run gs s rounds from apart next.later beyond run in
    let stands = world_seen g.R.Ranges.fits g.R.Ranges.last g.R.Ranges.passed test every next.latest time gs c.advance.new.self next.last c.in_ok-advance.ensures.round c.in_ok-advance.ensures.place come in
    let alerts = filled_until (alert_check every gs number t) (λ x. x.time) t.alerts from time c.args.slots.now.alerts.items next.alerts filled.alerts_filled in
    let exprs = filled_until (expr_check every gs number t) (λ x. x.time) t.exprs from time c.args.slots.now.exprs.items next.exprs filled.exprs_filled in
    let alerts_now =
    subst (λ (l : List AlertCheck). AreFilled (alert_check every gs number t) (λ x. x.time) l (time + 1) c.fill_alerts.new.slots.items) c.as_slice.ensures
    (c.in_ok-fill_alerts.ensures every gs t s stands
    (subst (λ (l : List AlertCheck). AreFilled (alert_check every gs number t) (λ x. x.time) l time c.args.slots.now.alerts.items) (sym c.as_slice.ensures) alerts)) in
    on_ok c.fill_exprs.result _ _
    (λ e. (
      time_goes g.R.Ranges.fits g.R.Ranges.last g.R.Ranges.passed test.input every gs s rounds time (time + 1) c.advance.new.self (omega arith) come,
      record {
        alerts_filled = alerts_now;
        exprs_filled = subst (λ (l : List ExprCheck). AreFilled (expr_check every gs number t) (λ x. x.time) (map plain_check l) (time + 1) c.fill_exprs.new.slots.items) c.as_slice-2.ensures e;
      },
    ))
    (c.fill_exprs.ensures gs t s stands
    (subst (λ (l : List ExprCheck). AreFilled (expr_check every gs number t) (λ x. x.time) (map plain_check l) time c.args.slots.now.exprs.items) (sym c.as_slice-2.ensures) exprs))
