use Rattle.std.proofs.Common.{◌≡◌, ◌++◌}
use Rattle.pr_labels.specs.private.Entries.{items_of}
use Rattle.pr_labels.proofs.ordered.places.with_placed.Given as goal

-- the items so far, and those to come
abbrev pub invariant-loop-labels : goal.invariant-loop-labels
invariant-loop-labels g l = l.all.items ++ items_of l.labels-iterator ≡ l.fn.items.items ++ items_of l.fn.placed.entries
