use Rattle.std.proofs.Common.{◌≡◌, ◌++◌, take, drop, map}
use Rattle.pr_queue.specs.private.Queues.{with_coming}
use Rattle.pr_queue.proofs.notifier.prepare_all.Given as goal

-- those that were gone over have theirs
abbrev pub invariant-loop-queue : goal.invariant-loop-queue
invariant-loop-queue l = l.queues ≡ map (with_coming l.notices) (take l.queue-index l.fn.queues) ++ drop l.queue-index l.fn.queues
