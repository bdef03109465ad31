use Rattle.std.proofs.Common.{List, take, ◌+◌, sym, subst}
use Rattle.pr_rule.specs.declared.rule_result.templates.NamedTemplate.{NamedTemplate}
use Rattle.pr_rule.specs.private.Templates.{AreTemplatesOf}
use Rattle.pr_rule.proofs.Templated.{taken_more}
use Rattle.pr_rule.proofs.rule_result.templates.named_templates.Goals as goal

pub loop-pair-preserved : goal.loop-pair-preserved
loop-pair-preserved c =
    subst (λ (ts : List NamedTemplate). AreTemplatesOf ts (take (c.loop-pair.pair-index + 1) c.args.pairs.now)) (sym c.in_ok-push.ensures.ok)
    (taken_more c.loop-pair.templates c.args.pairs.now c.loop-pair.pair-index c.in_ok-named_template.field-0 c.pair-item.result c.loop-pair-test.true c.pair-item.is c.loop-pair.invariant c.in_ok-named_template.ensures)
