use Rattle.std.proofs.Common.{◌+◌, ◌<◌, length, drop, arith}
use Rattle.pr_run.specs.Replies.{all_sent}
use Rattle.pr_run.proofs.Offering.{offers_begin, offers_on, sent_next}
use Rattle.pr_run.proofs.receivers.offer_sent.Goals as goal

pub loop-rule-init : goal.loop-rule-init
loop-rule-init c = offers_begin c.args.notifier.now (all_sent c.args.rules.now)

pub loop-rule-preserved : goal.loop-rule-preserved
loop-rule-preserved c =
    let rules = c.args.rules.now in
    let i = c.loop-rule.rule-index in
    let rule = c.rule-item.result in
    let within : i < length rules = omega arith in
    offers_on c.args.notifier.now c.loop-rule.notifier c.offer.new.self c.as_slice.result.now (all_sent (drop (i + 1) rules)) (all_sent (drop i rules)) (all_sent rules)
    (sent_next rules i rule c.as_slice.result.now within c.rule-item.is c.as_slice.ensures) c.loop-rule.invariant c.in_ok-offer.ensures.stands
