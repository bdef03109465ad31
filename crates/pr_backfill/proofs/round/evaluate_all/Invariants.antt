use Rattle.std.proofs.Common.{◌≡◌, List, length}
use Rattle.spec_rules.specs.spec_history.declared.entry.Entry.{Entry}
use Rattle.spec_rules.specs.Groups.{Group}
use Rattle.spec_rules.specs.Settings.{Settings}
use Rattle.spec_rules.specs.private.Times.{IsAfterAll}
use Rattle.pr_engine.specs.pr_group.private.Keeping.{MayEvaluateOver}
use Rattle.pr_engine.specs.pr_manager.private.Keeping.{KeepEach}
use Rattle.pr_backfill.specs.private.Rounds.{HasFilled}
use Rattle.pr_backfill.proofs.round.evaluate_all.Given as goal

-- the first groups were evaluated
abbrev pub invariant-groups : goal.invariant-groups
invariant-groups g l = record {
  filled : (s : Settings) (history : List Entry) (gs : List Group) → KeepEach g.R.Ranges.fits g.R.Ranges.last g.R.Ranges.passed s history l.initial.groups.items gs → MayEvaluateOver l.initial.head history l.time → IsAfterAll l.time gs
      → HasFilled g.R.Ranges.fits g.R.Ranges.last g.R.Ranges.passed s l.time history gs l.initial.head l.head l.groups.items l.told.items l.place;
  many : length l.groups.items ≡ length l.initial.groups.items;
}
