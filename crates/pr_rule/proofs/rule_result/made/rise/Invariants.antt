use Rattle.std.proofs.Common.{take}
use Rattle.pr_labels.specs.Rising.{IsRising}
use Rattle.pr_rule.specs.private.Making.{sets_made}
use Rattle.pr_rule.proofs.rule_result.made.rise.Given as goal

-- the first ones rise
abbrev pub invariant-loop-place : goal.invariant-loop-place
invariant-loop-place l = IsRising (take l.place (sets_made l.made))
