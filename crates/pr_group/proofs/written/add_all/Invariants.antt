use Rattle.std.proofs.Common.{◌≡◌, drop, fold}
use Rattle.pr_ast.specs.pr_labels.Rising.{with_labels}
use Rattle.pr_group.proofs.written.add_all.Given as goal

-- what is there, and what is to come
abbrev pub invariant-loop-labels : goal.invariant-loop-labels
invariant-loop-labels l = fold with_labels l.sets.keys (drop l.labels-index l.more) ≡ fold with_labels l.fn.sets.keys l.more
