use Rattle.std.proofs.Common.{◌≡◌, ◌++◌, map}
use Rattle.spec_rules.specs.Definitions.{group_of_def}
use Rattle.pr_backfill.specs.Filled.{group_of_file, group_to_fill}
use Rattle.pr_backfill.proofs.backfill_command.groups.push_groups.Given as goal

-- the groups so far, and those of the rest
abbrev pub invariant-loop-def : goal.invariant-loop-def
invariant-loop-def l =
    map group_of_file l.groups.items ++ map (group_to_fill l.name) (map group_of_def l.def-iterator.rest.items)
    ≡ map group_of_file l.initial.groups.items ++ map (group_to_fill l.name) (map group_of_def l.fn.defs.items)
