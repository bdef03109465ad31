use Rattle.std.proofs.Common.{◌≡◌, List, length, map, take}
use Rattle.pr_group.specs.spec_rules.Groups.{Group}
use Rattle.pr_group.specs.spec_rules.Settings.{Settings}
use Rattle.spec_tests.specs.spec_world.Step.{world_after}
use Rattle.spec_tests.specs.spec_world.World.{World}
use Rattle.spec_tests.specs.Events.{eval_at}
use Rattle.spec_tests.specs.private.Rounds.{AreApart, IsInRound}
use Rattle.pr_unit.specs.private.Kept.{StandsForWorld}
use Rattle.pr_unit.proofs.round.evaluate_all.Given as goal

-- the first groups were evaluated
abbrev pub invariant-groups : goal.invariant-groups
invariant-groups g l = record {
  stands : (s : Settings) (w : World) (gs : List Group) → AreApart gs → StandsForWorld g.R.Ranges.fits g.R.Ranges.last g.R.Ranges.passed l.initial.head l.initial.groups.items s w → IsInRound gs l.time 0 w
      → StandsForWorld g.R.Ranges.fits g.R.Ranges.last g.R.Ranges.passed l.head l.groups.items s (world_after s w (map (eval_at l.time) (take l.number gs)));
  round : (s : Settings) (w : World) (gs : List Group) → AreApart gs → StandsForWorld g.R.Ranges.fits g.R.Ranges.last g.R.Ranges.passed l.initial.head l.initial.groups.items s w → IsInRound gs l.time 0 w
      → IsInRound gs l.time l.number (world_after s w (map (eval_at l.time) (take l.number gs)));
  many : length l.groups.items ≡ length l.initial.groups.items;
}
