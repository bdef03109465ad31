use Rattle.std.proofs.Common.{◌≡◌, ℕ, ◌+◌, ◌≤◌, ◌<◌, Some, None, sym, ap, subst, ◌∙◌, arith}
use Rattle.spec_tests.specs.pr_testfile.Tests.{plain_test}
use Rattle.spec_tests.specs.Verdict.{alert_check, expr_check}
use Rattle.pr_unit.specs.private.Run.{HasRunTest}
use Rattle.pr_unit.specs.private.Slots.{HasFilled}
use Rattle.pr_unit.specs.private.Times.{next_time}
use Rattle.pr_unit.proofs.Filling.{all_filled}
use Rattle.pr_unit.proofs.NextTimes.{next_check, no_time_left, of_alerts, of_exprs, test_times}
use Rattle.pr_unit.proofs.test.check_all.Goals as goal

pub times-smaller : goal.times-smaller
times-smaller g c =
    let test = c.args.test.now in
    let from = c.times.from in
    let list : test_times test ≡ c.deref.result.now = sym (c.deref.ensures.value ∙ c.in_ok-times.ensures) in
    let is : next_time from (test_times test) ≡ Some c.in-Some.time = ap (next_time from) list ∙ sym c.in-Some.ensures in
    let later : from ≤ c.in-Some.time = (next_check test from c.in-Some.time is).later in
    omega (arith, c.get-from.ensures.value, c.get-from.ensures.small)

pub times-preserved : goal.times-preserved
times-preserved g c =
    let test = c.args.test.now in
    let from = c.times.from in
    let time = c.in-Some.time in
    let list : test_times test ≡ c.deref.result.now = sym (c.deref.ensures.value ∙ c.in_ok-times.ensures) in
    let is : next_time from (test_times test) ≡ Some time = ap (next_time from) list ∙ sym c.in-Some.ensures in
    let next = next_check test from time is in
    record {
      low = omega (arith, c.get-from.ensures.value, c.get-from.ensures.small);
      run = λ gs apart h.
          subst (λ (m : ℕ). HasRunTest g.R.Ranges.fits g.R.Ranges.last g.R.Ranges.passed test c.args.every gs (m + 1) c.check_at.new.run) (sym c.get-from.ensures.value)
          (c.in_ok-check_at.ensures gs from apart next (c.times.invariant.run gs apart h) (c.times.invariant.filled gs apart h)).0;
      filled = λ gs apart h.
          subst (λ (m : ℕ). HasFilled c.args.every gs c.args.number (plain_test test) (m + 1) c.check_at.new.slots.alerts.items c.check_at.new.slots.exprs.items) (sym c.get-from.ensures.value)
          (c.in_ok-check_at.ensures gs from apart next (c.times.invariant.run gs apart h) (c.times.invariant.filled gs apart h)).1;
    }

pub returns : goal.returns
returns g c = λ gs apart h.
    let test = c.args.test.now in
    let t = plain_test test in
    let from = c.times.from in
    let list : test_times test ≡ c.deref.result.now = sym (c.deref.ensures.value ∙ c.in_ok-times.ensures) in
    let none : next_time from (test_times test) ≡ None = ap (next_time from) list ∙ sym c.in_default.ensures in
    let early = no_time_left from (test_times test) none in
    let filled = c.times.invariant.filled gs apart h in
    record {
      alerts_found = all_filled (alert_check c.args.every gs c.args.number t) (λ x. x.time) t.alerts from c.times.slots.alerts.items (of_alerts (λ x. x < from) test early) filled.alerts_filled;
      exprs_found = all_filled (expr_check c.args.every gs c.args.number t) (λ x. x.time) t.exprs from c.times.slots.exprs.items (of_exprs (λ x. x < from) test early) filled.exprs_filled;
    }
