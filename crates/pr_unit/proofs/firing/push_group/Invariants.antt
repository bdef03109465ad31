use Rattle.std.proofs.Common.{◌≡◌, ◌++◌, List, take}
use Rattle.std.specs.List.{flat_map}
use Rattle.pr_slide.specs.spec_history.declared.entry.Entry.{Entry}
use Rattle.pr_group.specs.spec_rules.Groups.{Group}
use Rattle.spec_tests.specs.Verdict.{firing_of}
use Rattle.pr_group.specs.private.Keeping.{KeepsGroup}
use Rattle.pr_unit.proofs.firing.push_group.Given as goal

-- those of the first rules
abbrev pub invariant-rules : goal.invariant-rules
invariant-rules g l = (history : List Entry) (group : Group) → KeepsGroup g.R.Ranges.fits g.R.Ranges.last g.R.Ranges.passed l.group history group
    → l.founds.items ≡ l.initial.founds.items ++ flat_map (firing_of l.name) (take l.number group.rules)
