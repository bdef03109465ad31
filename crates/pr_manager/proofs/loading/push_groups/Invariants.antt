use Rattle.std.proofs.Common.{List, map}
use Rattle.std.specs.List.{All}
use Rattle.spec_world.specs.spec_history.declared.entry.Entry.{Entry}
use Rattle.pr_group.specs.pr_rule.private.Templates.{HaveTemplates}
use Rattle.spec_world.specs.spec_rules.Definitions.{group_of_def}
use Rattle.spec_world.specs.spec_rules.Groups.{Group, fresh}
use Rattle.pr_group.specs.private.Keeping.{waits_of}
use Rattle.pr_manager.specs.private.Keeping.{settings_with}
use Rattle.pr_manager.specs.private.Loading.{HasPassedNothing}
use Rattle.pr_manager.proofs.Loaded.{AreKeptSoFar}
use Rattle.pr_manager.proofs.loading.push_groups.Given as goal

abbrev pub invariant-loop-def : goal.invariant-loop-def
invariant-loop-def g l = record {
  templates : All HaveTemplates l.def-iterator.rest.items;
  unpassed : All (HasPassedNothing g.R.Ranges.passed) l.initial.news.items → All (HasPassedNothing g.R.Ranges.passed) l.news.items;
  keeps : (history : List Entry) (all : List Group)
      → AreKeptSoFar g.R.Ranges.fits g.R.Ranges.last g.R.Ranges.passed (settings_with l.making.step l.making.external.now) history l.initial.news.items (map (fresh (waits_of l.making.waits) l.name) (map group_of_def l.fn.defs.items)) all
      → AreKeptSoFar g.R.Ranges.fits g.R.Ranges.last g.R.Ranges.passed (settings_with l.making.step l.making.external.now) history l.news.items (map (fresh (waits_of l.making.waits) l.name) (map group_of_def l.def-iterator.rest.items)) all;
}
