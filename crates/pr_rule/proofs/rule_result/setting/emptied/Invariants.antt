use Rattle.std.proofs.Common.{◌≡◌, take}
use Rattle.pr_rule.specs.private.Setting.{emptied}
use Rattle.pr_rule.proofs.rule_result.setting.emptied.Given as goal

-- the names so far are those among the pairs that were gone over
abbrev pub invariant-loop-pair : goal.invariant-loop-pair
invariant-loop-pair l = l.names.items ≡ emptied (take l.pair-index l.over)
