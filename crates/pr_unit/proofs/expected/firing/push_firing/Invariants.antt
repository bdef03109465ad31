use Rattle.std.proofs.Common.{◌≡◌, ◌++◌, filter, length, map}
use Rattle.pr_group.specs.spec_alerts.Records.{is_firing}
use Rattle.spec_tests.specs.Verdict.{found_of}
use Rattle.pr_unit.proofs.expected.firing.push_firing.Given as goal

-- what was put behind, with what is left, is all
abbrev pub invariant-alerts : goal.invariant-alerts
invariant-alerts l =
    l.founds.items ++ map found_of (filter (λ r. is_firing r.state) l.rest) ≡ l.fn.founds.items ++ map found_of (filter (λ r. is_firing r.state) l.records)

abbrev pub decreases-alerts : goal.decreases-alerts
decreases-alerts l = length l.rest
