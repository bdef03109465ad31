use Rattle.std.proofs.Common.{arith, ap, length, ◌≡◌, ◌<◌}
use Rattle.pr_rule.proofs.Marking.{sends_next, sent_all, still_within}
use Rattle.pr_rule.proofs.sending.send_due.Goals as goal

pub send_if_due-requires-clause-in_range : goal.send_if_due-requires-clause-in_range
send_if_due-requires-clause-in_range c =
    let within : c.loop-index.index < length c.args.records.now = omega (arith, ap length c.list-index-end.ensures) in
    still_within c.args.at.now.tells c.args.interval c.args.at.now.time c.loop-index.index c.args.records.now c.loop-index.records c.loop-index.sent.items c.loop-index.invariant within

pub loop-index-preserved : goal.loop-index-preserved
loop-index-preserved c =
    let within : c.loop-index.index < length c.args.records.now = omega (arith, ap length c.list-index-end.ensures) in
    sends_next c.args.at.now.tells c.args.interval c.args.at.now.time c.loop-index.index c.args.records.now c.loop-index.records c.send_if_due.new.records c.loop-index.sent.items c.send_if_due.new.sent.items
    c.loop-index.invariant within c.in_ok-send_if_due.ensures.sent c.in_ok-send_if_due.ensures.marked

pub returns-clause-sent : goal.returns-clause-sent
returns-clause-sent c =
    let all : c.loop-index.index ≡ length c.args.records.now = omega (arith, ap length c.list-index-end.ensures) in
    (sent_all c.args.at.now.tells c.args.interval c.args.at.now.time c.loop-index.index c.args.records.now c.loop-index.records c.loop-index.sent.items c.loop-index.invariant all).0

pub returns-clause-marked : goal.returns-clause-marked
returns-clause-marked c =
    let all : c.loop-index.index ≡ length c.args.records.now = omega (arith, ap length c.list-index-end.ensures) in
    (sent_all c.args.at.now.tells c.args.interval c.args.at.now.time c.loop-index.index c.args.records.now c.loop-index.records c.loop-index.sent.items c.loop-index.invariant all).1
