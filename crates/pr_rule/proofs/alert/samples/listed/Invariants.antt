use Rattle.std.proofs.Common.{◌≡◌, ◌++◌}
use Rattle.pr_rule.specs.private.Sampling.{items_of}
use Rattle.pr_rule.proofs.alert.samples.listed.Given as goal

-- the elements so far, and those to come
abbrev pub invariant-loop-labels : goal.invariant-loop-labels
invariant-loop-labels l = l.items.items ++ items_of l.labels-iterator ≡ items_of l.fn.entries.entries
