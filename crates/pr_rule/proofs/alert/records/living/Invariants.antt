use Rattle.std.proofs.Common.{◌≡◌, ◌+◌, ◌≤◌, drop}
use Rattle.spec_rules.specs.spec_alerts.Records.{living_count}
use Rattle.pr_rule.proofs.alert.records.living.Given as goal

abbrev pub invariant-loop-r : goal.invariant-loop-r
invariant-loop-r l = record {
  counted : l.count + living_count (drop l.r-index l.list) ≡ living_count l.list;
  small : l.count ≤ l.r-index;
}
