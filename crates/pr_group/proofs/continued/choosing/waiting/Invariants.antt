use Rattle.std.proofs.Common.{take}
use Rattle.pr_rule.specs.spec_rules.private.Laws.{numbered}
use Rattle.pr_group.specs.private.Waiting.{AreWaiting, key_of}
use Rattle.pr_group.proofs.continued.choosing.waiting.Given as goal

-- those so far wait
abbrev pub invariant-loop-number : goal.invariant-loop-number
invariant-loop-number l = AreWaiting key_of l.waiting (numbered (take l.number l.old))
