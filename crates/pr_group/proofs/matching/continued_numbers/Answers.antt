use Rattle.pr_group.proofs.Taking.{one_taken, others_wait}
use Rattle.pr_group.specs.private.Matching.{continues_def, key_of}
use Rattle.pr_group.proofs.Keys.{same_keys}
use Rattle.pr_group.proofs.matching.continued_numbers.Goals as goal

pub loop-rule-preserved : goal.loop-rule-preserved
loop-rule-preserved c = record {
  taken = one_taken continues_def key_of same_keys c.args.new.now c.args.old.now c.loop-rule.rule-index c.rule-item.result c.loop-rule.numbers.items c.push.new.self.items c.take.result c.loop-rule.waiting c.in_ok-key.field-0 c.loop-rule-test.true c.rule-item.is c.in_ok-key.ensures c.loop-rule.invariant.taken c.loop-rule.invariant.waiting
      c.take.ensures.first c.in_ok-push.ensures.items;
  waiting = others_wait continues_def key_of same_keys c.args.new.now c.args.old.now c.loop-rule.rule-index c.rule-item.result c.loop-rule.waiting c.take.new.self c.in_ok-key.field-0 c.loop-rule-test.true c.rule-item.is c.in_ok-key.ensures c.loop-rule.invariant.waiting c.take.ensures.rest;
}
