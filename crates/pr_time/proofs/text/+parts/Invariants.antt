use Rattle.std.proofs.Common.{◌+◌, ◌*◌, length}
use Rattle.pr_time.proofs.text.+parts.Given as goal

abbrev pub decreases-amount_in : goal.decreases-amount_in
decreases-amount_in l = 2 * length l.text.now + 1

abbrev pub decreases-parts_after : goal.decreases-parts_after
decreases-parts_after l = 2 * length l.text.now
