use Rattle.pr_rule.specs.spec_rules.private.Carried.{same_use}
use Rattle.pr_group.specs.private.Waiting.{key_of}
use Rattle.pr_group.proofs.ContinuedKeys.{same_keys}
use Rattle.pr_group.proofs.Taking.{one_taken, others_wait}
use Rattle.pr_group.proofs.continued.choosing.continued.Goals as goal

pub loop-source-preserved : goal.loop-source-preserved
loop-source-preserved c = record {
  taken = one_taken same_use key_of same_keys c.args.new.now c.args.old.now c.loop-source.source-index c.source-item.result c.loop-source.numbers.items c.push.new.self.items c.take.result c.loop-source.waiting c.in_ok-key.field-0 c.loop-source-test.true c.source-item.is c.in_ok-key.ensures c.loop-source.invariant.taken c.loop-source.invariant.waiting
      c.take.ensures.first c.in_ok-push.ensures.items;
  waiting = others_wait same_use key_of same_keys c.args.new.now c.args.old.now c.loop-source.source-index c.source-item.result c.loop-source.waiting c.take.new.self c.in_ok-key.field-0 c.loop-source-test.true c.source-item.is c.in_ok-key.ensures c.loop-source.invariant.waiting c.take.ensures.rest;
}
