use Rattle.std.proofs.Common.{◌≡◌, take}
use Rattle.pr_queue.proofs.queue.first_copies.Given as goal

-- copies of so many
abbrev pub invariant-loop-place : goal.invariant-loop-place
invariant-loop-place l = l.copies.items ≡ take l.place l.ring.items
