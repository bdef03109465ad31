use Rattle.std.proofs.Common.{◌≡◌, ◌+◌, ◌≤◌, drop}
use Rattle.pr_text.specs.Evaluated.{fault_count}
use Rattle.pr_text.proofs.evaluated.fault_count.Given as goal

-- how many failed so far, and of those to come
abbrev pub invariant-loop-rule : goal.invariant-loop-rule
invariant-loop-rule l = record {
  counted : l.count + fault_count (drop l.rule-index l.rules) ≡ fault_count l.rules;
  within : l.count ≤ l.rule-index;
}
