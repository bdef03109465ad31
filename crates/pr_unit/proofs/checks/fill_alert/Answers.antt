use Rattle.std.proofs.Common.{◌≡◌, ℕ, ◌+◌, length, slice_get, Some, refl, sym, ap, ◌∙◌}
use Rattle.std.proofs.lemmas.Option.{slice_get_read}
use Rattle.spec_tests.specs.pr_testfile.declared.tests.AlertCheck.{AlertCheck}
use Rattle.spec_tests.specs.Events.{world_at}
use Rattle.spec_tests.specs.Verdict.{alert_check, alert_failure, firing}
use Rattle.pr_unit.proofs.Filling.{one_filled, same_time}
use Rattle.pr_unit.proofs.Lists.{same_there}
use Rattle.pr_unit.proofs.checks.fill_alert.Goals as goal

pub returns : goal.returns
returns g c = λ interval gs t s stands h.
    let checks = c.args.checks.now in
    let n = c.args.index in
    let time = c.args.time in
    let first = c.index-checks-index.result in
    let x = c.index-checks-index-2.result in
    let there1 : slice_get checks n ≡ Some first = slice_get_read checks (length checks) n first refl c.requires c.index-checks-index.is in
    let there : slice_get checks n ≡ Some x = slice_get_read checks (length checks) n x refl c.requires c.index-checks-index-2.is in
    let same : x ≡ first = same_there checks n x first there there1 in
    let now : x.time ≡ time = ap (λ (y : AlertCheck). y.time) (same ∙ c.index-checks-index.is) ∙ same_time _ _ (sym c.ne.ensures ∙ c.if-ne.false) in
    one_filled (alert_check interval gs c.args.test t) (λ y. y.time) checks time n c.args.slots.now.items x c.in_ok-slots.field-0 there
    (c.in_ok-slots.ensures s (world_at interval gs t time) stands ∙ ap (λ (m : ℕ). alert_failure c.args.test (n + 1) x.expected (firing x.name (world_at interval gs t m))) (sym now)) h
