use Rattle.std.proofs.Common.{◌≡◌, ◌+◌, length, take}
use Rattle.std.specs.Prelude.{sum_by}
use Rattle.pr_manager.proofs.reloading.rules_of_groups.Given as goal

-- the rules of the first groups
abbrev pub invariant-loop-group : goal.invariant-loop-group
invariant-loop-group g l = length l.rules.items ≡ sum_by (λ k. length k.def.rules) (take l.group-index l.groups)

-- and the first ones of the next group
abbrev pub invariant-loop-rule : goal.invariant-loop-rule
invariant-loop-rule g l = length l.rules.items ≡ length l.initial.rules.items + l.rule-index
