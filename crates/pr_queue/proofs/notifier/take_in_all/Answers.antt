use Rattle.pr_queue.specs.private.Queues.{taken_in}
use Rattle.pr_queue.proofs.Lists.{set_next}
use Rattle.pr_queue.proofs.notifier.take_in_all.Goals as goal

pub loop-queue-preserved : goal.loop-queue-preserved
loop-queue-preserved c =
    set_next (taken_in c.args.count) c.args.queues.now c.loop-queue.queues c.loop-queue.queue-index c.queue-item.result c.take_in.new.self c.loop-queue.invariant
    c.loop-queue-test.true c.queue-item.is c.take_in.ensures
