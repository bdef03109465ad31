use Rattle.std.proofs.Common.{List, map}
use Rattle.spec_rules.specs.spec_history.declared.entry.Entry.{Entry}
use Rattle.spec_rules.specs.Groups.{Group}
use Rattle.spec_rules.specs.Settings.{of_a_run}
use Rattle.pr_engine.proofs.ManagerLoaded.{AreKeptSoFar}
use Rattle.pr_backfill.specs.Filled.{group_of_file}
use Rattle.pr_backfill.proofs.fresh.push_groups.Given as goal

-- the groups so far are kept
abbrev pub invariant-loop-group : goal.invariant-loop-group
invariant-loop-group g l = (history : List Entry) (all : List Group)
    → AreKeptSoFar g.R.Ranges.fits g.R.Ranges.last g.R.Ranges.passed of_a_run history l.initial.kept.items (map group_of_file l.fn.groups.items) all
    → AreKeptSoFar g.R.Ranges.fits g.R.Ranges.last g.R.Ranges.passed of_a_run history l.kept.items (map group_of_file l.group-iterator.rest.items) all
