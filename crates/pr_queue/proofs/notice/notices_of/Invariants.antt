use Rattle.std.proofs.Common.{◌≡◌, take}
use Rattle.pr_queue.proofs.notice.notices_of.Given as goal

-- copies of those that were gone over
abbrev pub invariant-loop-sending : goal.invariant-loop-sending
invariant-loop-sending l = l.notices.items ≡ take l.sending-index l.sendings
