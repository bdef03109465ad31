use Rattle.std.proofs.Common.{◌≡◌, drop}
use Rattle.pr_labels.specs.Order.{labels_eq}
use Rattle.pr_agg.specs.private.Chosen.{pairs_at}
use Rattle.pr_agg.proofs.chosen.are_pairs.Given as goal

-- what is left is compared as all was
abbrev pub invariant-loop-place : goal.invariant-loop-place
invariant-loop-place l = labels_eq (pairs_at (drop l.place-index l.places)) l.rest ≡ labels_eq (pairs_at l.fn.places) l.fn.pairs
