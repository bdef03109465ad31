use Rattle.std.proofs.Common.{◌≡◌, List, ◌++◌, ◌<◌, ◌≤◌, length, subst, ap, ◌∙◌, arith}
use Rattle.std.specs.List.{flat_map}
use Rattle.pr_group.specs.spec_rules.declared.definitions.RuleDef.{RuleDef}
use Rattle.pr_group.specs.spec_rules.Groups.{RuleState}
use Rattle.spec_tests.specs.Verdict.{firing_of}
use Rattle.pr_unit.proofs.Alerts.{as_many_rules, one_more_found, rule_exists}
use Rattle.pr_unit.proofs.Lists.{take_whole}
use Rattle.pr_unit.proofs.firing.push_group.Goals as goal

pub rules-preserved : goal.rules-preserved
rules-preserved g c = λ history group h.
    let k = c.args.group.now in
    let n = c.rules.number in
    let same : c.as_slice-number-end.result.now ≡ k.def.rules = c.as_slice-number-end.ensures ∙ ap (λ d. d.rules) c.def.ensures.same in
    let low : n < length k.def.rules = subst (λ (l : List RuleDef). n < length l) same c.rules-test.true in
    let r = rule_exists g.R.Ranges.fits g.R.Ranges.last g.R.Ranges.passed k history group n h low in
    one_more_found (firing_of c.args.name.now) c.args.founds.now.items c.rules.founds.items c.push_rule.new.founds.items group.rules n r.element r.there
    (c.rules.invariant history group h) (c.in_ok-push_rule.ensures history group r.element h r.there)

pub returns : goal.returns
returns g c = λ history group h.
    let k = c.args.group.now in
    let n = c.rules.number in
    let same : c.as_slice-number-end.result.now ≡ k.def.rules = c.as_slice-number-end.ensures ∙ ap (λ d. d.rules) c.def.ensures.same in
    let high : length k.def.rules ≤ n = subst (λ (l : List RuleDef). length l ≤ n) same c.rules-test.false in
    let all : length group.rules ≤ n = omega (arith, as_many_rules g.R.Ranges.fits g.R.Ranges.last g.R.Ranges.passed k history group h) in
    c.rules.invariant history group h ∙ ap (λ (l : List RuleState). c.args.founds.now.items ++ flat_map (firing_of c.args.name.now) l) (take_whole group.rules n all)
