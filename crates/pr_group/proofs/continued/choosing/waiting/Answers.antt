use Rattle.pr_group.specs.private.Waiting.{key_of}
use Rattle.pr_group.proofs.Taking.{one_waits}
use Rattle.pr_group.proofs.continued.choosing.waiting.Goals as goal

pub loop-number-preserved : goal.loop-number-preserved
loop-number-preserved c =
    one_waits key_of c.args.old.now c.loop-number.number c.index-old-number.result c.loop-number.waiting c.push.new.self c.in_ok-key.field-0 c.loop-number-test.true c.index-old-number.is c.in_ok-key.ensures c.loop-number.invariant c.in_ok-push.ensures
