use Rattle.std.proofs.Common.{◌≡◌, ◌++◌, take, drop, map}
use Rattle.pr_queue.specs.private.Queues.{taken_in}
use Rattle.pr_queue.proofs.notifier.take_in_all.Given as goal

-- those that were gone over have taken theirs in
abbrev pub invariant-loop-queue : goal.invariant-loop-queue
invariant-loop-queue l = l.queues ≡ map (taken_in l.count) (take l.queue-index l.fn.queues) ++ drop l.queue-index l.fn.queues
