use Rattle.std.proofs.Common.{ap}
use Rattle.spec_rules.specs.spec_alerts.declared.found.RuleElement.{RuleElement}
use Rattle.pr_rule.specs.private.Making.{sets_made}
use Rattle.pr_rule.proofs.Remembering.{one_more_found, one_more_set}
use Rattle.pr_rule.proofs.rule_result.made.recorded_again.Goals as goal

pub loop-place-preserved : goal.loop-place-preserved
loop-place-preserved c =
    let front = c.loop-place.founds.items in
    let pushed = c.push.new.self.items in
    let place = c.loop-place.place in
    let item = c.index-items-place.result in
    let f = c.in_ok-recorded_as-in-Some.field-0 in
    record {
      founds = λ name labels h.
          one_more_found name labels front pushed f c.args.items.now place item c.in-Some.to.now c.loop-place-test.true c.index-items-place.is c.in_ok-push-in-Some.ensures.items
          c.in_ok-recorded_as-in-Some.ensures (c.in-Some.ensures.made name labels h) (c.loop-place.invariant.founds name labels h);
      sets = one_more_set front pushed f (sets_made c.args.made.now) place c.in-Some.to.now c.in_ok-push-in-Some.ensures.items
          (ap (λ (f : RuleElement). f.labels) c.in_ok-recorded_as-in-Some.ensures) c.in-Some.ensures.there c.loop-place.invariant.sets;
    }
