use Rattle.std.proofs.Common.{drop}
use Rattle.pr_run.specs.Replies.{all_sent}
use Rattle.pr_run.proofs.Offering.{HasOffered}
use Rattle.pr_run.proofs.receivers.offer_sent.Given as goal

-- what was offered, and what is to come
abbrev pub invariant-loop-rule : goal.invariant-loop-rule
invariant-loop-rule l = HasOffered l.fn.notifier l.notifier (all_sent (drop l.rule-index l.rules)) (all_sent l.rules)
