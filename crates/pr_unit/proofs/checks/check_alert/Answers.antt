use Rattle.std.proofs.Common.{◌≡◌, ℕ, List, ap, subst, sym, ◌∙◌}
use Rattle.pr_group.specs.spec_alerts.declared.found.RuleElement.{RuleElement}
use Rattle.spec_tests.specs.Verdict.{alert_failure, firing}
use Rattle.pr_unit.specs.private.Kept.{KeepsGroups}
use Rattle.pr_unit.proofs.Answers.{if_ok}
use Rattle.pr_unit.proofs.checks.check_alert.Goals as goal

pub returns : goal.returns
returns g c = λ s w h.
    let test = c.args.test in
    let expected = c.args.check.now.expected in
    let found = c.in_ok-found.found in
    let keeps = subst (λ ks. KeepsGroups g.R.Ranges.fits g.R.Ranges.last g.R.Ranges.passed ks w.history s w.groups) (sym c.deref.ensures.value) h.groups in
    let is : found ≡ firing c.args.check.now.name w = c.in_ok-found.ensures w.history s w.groups keeps ∙ ap (λ (name : List ℕ). firing name w) c.as_str.ensures in
    if_ok c.alert_failure.result _ _
    (λ list e.
    e ∙ ap (λ (l : List RuleElement). alert_failure test c.args.number l found) c.as_slice.ensures
    ∙ ap (λ (l : List RuleElement). alert_failure test c.args.number expected l) is)
    c.alert_failure.ensures
