use Rattle.std.proofs.Common.{◌≡◌, ◌++◌, map, Some}
use Rattle.pr_group.proofs.carried.to_take.Given as goal

-- those so far, and those to come
abbrev pub invariant-loop-rule : goal.invariant-loop-rule
invariant-loop-rule g l = l.all.items ++ map Some l.rule-iterator.rest.items ≡ map Some l.fn.rules.items
