use Rattle.std.proofs.Common.{◌≡◌, ◌++◌, length, map}
use Rattle.std.specs.Prelude.{filter}
use Rattle.spec_world.specs.spec_alerts.Records.{is_living}
use Rattle.spec_world.specs.Rounds.{alert_line}
use Rattle.pr_manager.proofs.listing.push_living.Given as goal

abbrev pub invariant-listing : goal.invariant-listing
invariant-listing l = l.lines ++ map alert_line (filter is_living l.rest) ≡ l.initial.lines ++ map alert_line (filter is_living l.records)

abbrev pub decreases-listing : goal.decreases-listing
decreases-listing l = length l.rest
