use Rattle.std.proofs.Common.{◌≡◌, ◌+◌, ◌-◌, ◌≤◌, drop, length, false}
use Rattle.pr_yaml.specs.Plain.{plain_len}
use Rattle.pr_yaml.proofs.yaml_scan.plain.plain_len.Given as goal

abbrev pub invariant-loop-at : goal.invariant-loop-at
invariant-loop-at l = record {
  within : l.at ≤ length l.here;
  value : plain_len l.inside false l.here ≡ l.at + plain_len l.inside l.after_blank (drop l.at l.here);
}

abbrev pub decreases-loop-at : goal.decreases-loop-at
decreases-loop-at l = length l.here - l.at
