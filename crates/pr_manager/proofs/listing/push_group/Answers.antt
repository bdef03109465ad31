use Rattle.std.proofs.Common.{◌++◌, ◌<◌, ◌≤◌, length, map, ap, ◌∙◌, arith}
use Rattle.spec_world.specs.spec_rules.declared.definitions.GroupDef.{GroupDef}
use Rattle.spec_world.specs.Rounds.{alert_line, group_alerts}
use Rattle.pr_manager.proofs.Listed.{as_many_rules, rules_end, rules_then}
use Rattle.pr_manager.proofs.listing.push_group.Goals as goal

pub rules-preserved : goal.rules-preserved
rules-preserved g c = λ history it keeps.
    let many = as_many_rules g.R.Ranges.fits g.R.Ranges.last g.R.Ranges.passed history c.args.group.now it keeps in
    let size = ap length c.as_slice-size.ensures ∙ ap (λ (d : GroupDef). length d.rules) c.def.ensures.same in
    let test = c.rules-test.true in
    let less : c.rules.rule < length it.rules = omega (arith, many, size, test) in
    rules_then it c.rules.rule c.rules.lines c.push_rule.new.lines (c.args.lines.now ++ map alert_line (group_alerts it)) less (λ r at. c.in_ok-push_rule.ensures history it r keeps at) (c.rules.invariant history it keeps)

pub returns : goal.returns
returns g c = λ history it keeps.
    let many = as_many_rules g.R.Ranges.fits g.R.Ranges.last g.R.Ranges.passed history c.args.group.now it keeps in
    let size = ap length c.as_slice-size.ensures ∙ ap (λ (d : GroupDef). length d.rules) c.def.ensures.same in
    let test = c.rules-test.false in
    let past : length it.rules ≤ c.rules.rule = omega (arith, many, size, test) in
    rules_end it c.rules.rule c.rules.lines (c.args.lines.now ++ map alert_line (group_alerts it)) past (c.rules.invariant history it keeps)
