use Rattle.std.proofs.Common.{◌≡◌, ◌++◌}
use Rattle.pr_manager.proofs.gone.push_all.Given as goal

-- the label sets so far, and those to come
abbrev pub invariant-loop-labels : goal.invariant-loop-labels
invariant-loop-labels l = l.sets.items ++ l.labels-iterator.rest.items ≡ l.initial.sets.items ++ l.fn.more.items
