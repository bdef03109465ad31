use Rattle.std.proofs.Common.{take}
use Rattle.pr_rule.specs.private.Templates.{AreTemplatesOf}
use Rattle.pr_rule.proofs.rule_result.templates.named_templates.Given as goal

-- those of the first pairs
abbrev pub invariant-loop-pair : goal.invariant-loop-pair
invariant-loop-pair l = AreTemplatesOf l.templates (take l.pair-index l.pairs)
