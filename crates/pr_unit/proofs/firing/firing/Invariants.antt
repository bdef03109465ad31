use Rattle.std.proofs.Common.{◌≡◌, List, take}
use Rattle.std.specs.List.{flat_map}
use Rattle.pr_slide.specs.spec_history.declared.entry.Entry.{Entry}
use Rattle.pr_group.specs.spec_rules.Groups.{Group}
use Rattle.pr_group.specs.spec_rules.Settings.{Settings}
use Rattle.spec_tests.specs.Verdict.{firing_of}
use Rattle.pr_unit.specs.private.Kept.{KeepsGroups}
use Rattle.pr_unit.proofs.firing.firing.Given as goal

-- those of the first groups
abbrev pub invariant-groups : goal.invariant-groups
invariant-groups g l = (history : List Entry) (s : Settings) (gs : List Group) → KeepsGroups g.R.Ranges.fits g.R.Ranges.last g.R.Ranges.passed l.groups history s gs
    → l.founds.items ≡ flat_map (λ group. flat_map (firing_of l.name) group.rules) (take l.number gs)
