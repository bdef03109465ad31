use Rattle.std.proofs.Common.{◌≡◌, ◌++◌}
use Rattle.circular_buffer.specs.Buffer.{buffer, keep_last}
use Rattle.pr_queue.proofs.queue.append.Given as goal

-- the last of what there was and of those that were gone over
abbrev pub invariant-loop-notice : goal.invariant-loop-notice
invariant-loop-notice l = l.ring ≡ buffer (keep_last l.fn.ring.capacity (l.fn.ring.items ++ l.yielded)) l.fn.ring.capacity
