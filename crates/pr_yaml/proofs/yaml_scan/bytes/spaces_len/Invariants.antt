use Rattle.std.proofs.Common.{◌≡◌, ℕ, ◌-◌, ◌<◌, ◌≤◌, get_or, length, true}
use Rattle.pr_yaml.specs.Bytes.{is_space}
use Rattle.pr_yaml.proofs.yaml_scan.bytes.spaces_len.Given as goal

abbrev pub invariant-loop-at : goal.invariant-loop-at
invariant-loop-at l = (l.at ≤ length l.line) × ((k : ℕ) → k < l.at → is_space (get_or l.line k 0) ≡ true)

abbrev pub decreases-loop-at : goal.decreases-loop-at
decreases-loop-at l = length l.line - l.at
