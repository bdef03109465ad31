use Rattle.std.proofs.Common.{◌≡◌, fold, take}
use Rattle.pr_labels.specs.Edits.{set_pair}
use Rattle.pr_rule.proofs.rule_result.setting.set_each.Given as goal

-- the first pairs were set
abbrev pub invariant-loop-pair : goal.invariant-loop-pair
invariant-loop-pair l = l.labels ≡ fold set_pair l.initial.labels (take l.pair-index l.over)
