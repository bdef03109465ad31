use Rattle.std.proofs.Common.{◌≡◌, vec_len}
use Rattle.pr_labels.specs.private.Entries.{entries_of}
use Rattle.pr_labels.proofs.ordered.places.move_all.Given as goal

-- the entries stay
abbrev pub invariant-loop-item : goal.invariant-loop-item
invariant-loop-item g l = entries_of l.rising.items l.placed.entries ≡ entries_of l.fn.rising.items l.fn.placed.entries

abbrev pub decreases-loop-item : goal.decreases-loop-item
decreases-loop-item g l = vec_len l.rising
