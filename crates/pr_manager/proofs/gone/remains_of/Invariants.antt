use Rattle.std.proofs.Common.{List, length}
use Rattle.std.specs.Prelude.{flat_map}
use Rattle.spec_world.specs.spec_history.declared.entry.Entry.{Entry}
use Rattle.spec_world.specs.spec_rules.Groups.{Group}
use Rattle.spec_world.specs.spec_rules.Reloads.{remains}
use Rattle.spec_world.specs.spec_rules.Settings.{Settings}
use Rattle.pr_manager.specs.private.Keeping.{KeepEach}
use Rattle.pr_manager.proofs.Remaining.{AreLeft}
use Rattle.pr_manager.proofs.gone.remains_of.Given as goal

abbrev pub invariant-remaining : goal.invariant-remaining
invariant-remaining g l = (s : Settings) (history : List Entry) (groups : List Group) → KeepEach g.R.Ranges.fits g.R.Ranges.last g.R.Ranges.passed s history l.gone groups
    → AreLeft g.R.Ranges.fits g.R.Ranges.last g.R.Ranges.passed s history l.rest l.sets.items (flat_map remains groups)

abbrev pub decreases-remaining : goal.decreases-remaining
decreases-remaining g l = length l.rest
