use Rattle.pr_rule.proofs.Marking.{HasSent}
use Rattle.pr_rule.proofs.sending.send_due.Given as goal

-- what is due of the first ones was sent
abbrev pub invariant-loop-index : goal.invariant-loop-index
invariant-loop-index l = HasSent l.at.tells l.interval l.at.time l.index l.initial.records l.records l.sent.items
