use Rattle.std.proofs.Common.{◌-◌, ◌^◌, ◌≤◌}
use Rattle.pr_outside.proofs.status.words.word_at.Given as goal

abbrev pub invariant-growing : goal.invariant-growing
invariant-growing g l = 256 ≤ l.size

abbrev pub decreases-growing : goal.decreases-growing
decreases-growing g l = 2 ^ 33 - l.size
