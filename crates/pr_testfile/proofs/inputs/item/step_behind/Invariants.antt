use Rattle.std.proofs.Common.{◌≡◌, ◌≤◌, length}
use Rattle.pr_testfile.specs.Items.{step_behind}
use Rattle.pr_testfile.proofs.inputs.item.step_behind.Given as goal

-- what begins with a step in what is left begins with it in all
abbrev pub invariant-bytes : goal.invariant-bytes
invariant-bytes l = (step_behind l.last l.rest ≡ step_behind l.before l.text) × (length l.rest ≤ length l.text)

abbrev pub decreases-bytes : goal.decreases-bytes
decreases-bytes l = length l.rest
