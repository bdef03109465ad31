use Rattle.std.proofs.Common.{◌≡◌, fold, take, []}
use Rattle.pr_labels.specs.Rising.{with_labels}
use Rattle.pr_head.proofs.intake.marking.set_of.Given as goal

abbrev pub invariant-loop-labels : goal.invariant-loop-labels
invariant-loop-labels l = l.sets.keys ≡ fold with_labels [] (take l.labels-index l.list)
