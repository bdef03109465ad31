use Rattle.std.proofs.Common.{◌≡◌, take}
use Rattle.pr_rule.specs.private.Templates.{all_expanded_by}
use Rattle.pr_rule.proofs.rule_result.labels.expanded_pairs.Given as goal

-- the first ones are expanded
abbrev pub invariant-loop-named : goal.invariant-loop-named
invariant-loop-named l = l.pairs ≡ all_expanded_by l.external l.item (take l.named-index l.templates)
