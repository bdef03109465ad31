use Rattle.std.proofs.Common.{◌≡◌, take}
use Rattle.pr_queue.proofs.notice.shares_of.Given as goal

-- shares of those that were gone over
abbrev pub invariant-loop-notice : goal.invariant-loop-notice
invariant-loop-notice l = l.shares.items ≡ take l.notice-index l.notices
