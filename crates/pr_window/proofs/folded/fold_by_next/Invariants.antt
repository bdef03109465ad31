use Rattle.std.proofs.Common.{◌≡◌, ◌≤◌, ◌+◌, drop, fold}
use Rattle.pr_window.specs.private.Folding.{and_item}
use Rattle.pr_window.proofs.folded.fold_by_next.Given as goal

-- the summary so far and what is to be folded give the whole, and each item so far weighs at most
-- one
abbrev pub invariant-loop-item : goal.invariant-loop-item
invariant-loop-item g l = record {
  folds : fold (and_item g.M.Fold.lift g.M.Fold.combine) l.so_far (drop l.item-index l.others) ≡ fold (and_item g.M.Fold.lift g.M.Fold.combine) l.initial.so_far l.others;
  weight : g.M.Fold.weight l.so_far ≤ l.item-index + 1;
}
