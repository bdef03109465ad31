use Rattle.std.proofs.Common.{◌∙◌, ap, take, drop}
use Rattle.std.proofs.lemmas.List.{take-append-drop}
use Rattle.pr_queue.specs.private.Queues.{waiting_in, with_coming}
use Rattle.pr_queue.proofs.Lists.{set_next, set_same}
use Rattle.pr_queue.proofs.Rings.{unprepared}
use Rattle.pr_queue.proofs.notifier.prepare_all.Goals as goal

pub returns-in_err-prepare-clause-waiting : goal.returns-in_err-prepare-clause-waiting
returns-in_err-prepare-clause-waiting c =
    ap waiting_in (set_same c.loop-queue.queues c.loop-queue.queue-index c.prepare.new.self c.queue-item.result c.in_err-prepare.ensures.err)
    ∙ ap waiting_in c.loop-queue.invariant ∙ unprepared c.args.notices.now (take c.loop-queue.queue-index c.args.queues.now) (drop c.loop-queue.queue-index c.args.queues.now)
    ∙ ap waiting_in (take-append-drop c.loop-queue.queue-index c.args.queues.now)

pub loop-queue-preserved : goal.loop-queue-preserved
loop-queue-preserved c =
    set_next (with_coming c.args.notices.now) c.args.queues.now c.loop-queue.queues c.loop-queue.queue-index c.queue-item.result c.prepare.new.self c.loop-queue.invariant
    c.loop-queue-test.true c.queue-item.is c.in_ok-prepare.ensures.ok

pub returns-clause-waiting : goal.returns-clause-waiting
returns-clause-waiting c =
    ap waiting_in c.loop-queue.invariant ∙ unprepared c.args.notices.now (take c.loop-queue.queue-index c.args.queues.now) (drop c.loop-queue.queue-index c.args.queues.now)
    ∙ ap waiting_in (take-append-drop c.loop-queue.queue-index c.args.queues.now)
