use Rattle.std.proofs.Common.{◌≡◌, ◌++◌}
use Rattle.pr_group.proofs.written.listed.Given as goal

-- those so far, and those to come
abbrev pub invariant-loop-labels : goal.invariant-loop-labels
invariant-loop-labels l = l.list.items ++ l.labels-iterator ≡ l.fn.sets.keys
