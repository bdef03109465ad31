use Rattle.std.proofs.Common.{List, length, map}
use Rattle.std.specs.Prelude.{flat_map}
use Rattle.spec_world.specs.spec_history.declared.entry.Entry.{Entry}
use Rattle.spec_world.specs.spec_rules.Groups.{Group}
use Rattle.spec_world.specs.spec_rules.Settings.{Settings}
use Rattle.spec_world.specs.Rounds.{alert_line, group_alerts}
use Rattle.pr_manager.specs.private.Keeping.{KeepEach}
use Rattle.pr_manager.proofs.Listed.{GroupsLeft}
use Rattle.pr_manager.proofs.manager.Manager.alerts.Given as goal

abbrev pub invariant-listing : goal.invariant-listing
invariant-listing g l = (s : Settings) (history : List Entry) (groups : List Group) → KeepEach g.R.Ranges.fits g.R.Ranges.last g.R.Ranges.passed s history l.self.groups groups
    → GroupsLeft g.R.Ranges.fits g.R.Ranges.last g.R.Ranges.passed s history l.rest l.lines (map alert_line (flat_map group_alerts groups))

abbrev pub decreases-listing : goal.decreases-listing
decreases-listing g l = length l.rest
