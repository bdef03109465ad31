use Rattle.std.proofs.Common.{◌-◌, ◌++◌, List, map}
use Rattle.spec_world.specs.spec_history.declared.entry.Entry.{Entry}
use Rattle.spec_world.specs.spec_rules.Groups.{Group}
use Rattle.pr_group.specs.private.Keeping.{KeepsGroup}
use Rattle.spec_world.specs.Rounds.{alert_line, group_alerts}
use Rattle.pr_manager.proofs.Listed.{RulesLeft}
use Rattle.pr_manager.proofs.listing.push_group.Given as goal

abbrev pub invariant-rules : goal.invariant-rules
invariant-rules g l = (history : List Entry) (it : Group) → KeepsGroup g.R.Ranges.fits g.R.Ranges.last g.R.Ranges.passed l.group history it
    → RulesLeft it l.rule l.lines (l.initial.lines ++ map alert_line (group_alerts it))

abbrev pub decreases-rules : goal.decreases-rules
decreases-rules g l = l.size - l.rule
