use Rattle.std.proofs.Common.{◌++◌, List, length, map}
use Rattle.std.specs.Prelude.{All}
use Rattle.std.specs.Rc.{rc_value}
use Rattle.pr_slide.specs.spec_history.declared.entry.Entry.{Entry}
use Rattle.pr_group.specs.spec_rules.Definitions.{group_of_def}
use Rattle.pr_group.specs.pr_rule.private.Templates.{HaveTemplates}
use Rattle.pr_group.specs.spec_rules.Groups.{Group, fresh}
use Rattle.pr_unit.specs.private.Kept.{KeepsGroups}
use Rattle.pr_unit.proofs.Building.{KeepsPart}
use Rattle.pr_unit.proofs.groups.put_groups.Given as goal

-- the groups of the definitions so far are kept
abbrev pub invariant-groups : goal.invariant-groups
invariant-groups g l = record {
  templates : All HaveTemplates (map rc_value l.rest);
  kept : (history : List Entry) (gs : List Group)
      → KeepsGroups g.R.Ranges.fits g.R.Ranges.last g.R.Ranges.passed l.initial.groups.items history (record { subquery_step = l.step; external = l.external }) gs
      → KeepsPart g.R.Ranges.fits g.R.Ranges.last g.R.Ranges.passed l.groups.items history (record { subquery_step = l.step; external = l.external }) l.file (map rc_value l.rest)
      (gs ++ map (fresh 0 l.file) (map group_of_def (map rc_value l.defs)));
}

abbrev pub decreases-groups : goal.decreases-groups
decreases-groups g l = length l.rest
