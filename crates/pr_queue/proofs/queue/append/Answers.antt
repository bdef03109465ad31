use Rattle.pr_queue.proofs.Rings.{one_more}
use Rattle.pr_queue.proofs.queue.append.Goals as goal

pub loop-notice-preserved-in-Some : goal.loop-notice-preserved-in-Some
loop-notice-preserved-in-Some c =
    one_more c.loop-notice.ring c.push_back.new.self c.args.ring.now.capacity c.args.ring.now.items c.loop-notice.yielded c.in-Some.notice c.loop-notice.invariant c.push_back.ensures.items

pub loop-notice-preserved : goal.loop-notice-preserved
loop-notice-preserved c =
    one_more c.loop-notice.ring c.push_back.new.self c.args.ring.now.capacity c.args.ring.now.items c.loop-notice.yielded c.in-Some.notice c.loop-notice.invariant c.push_back.ensures.items
