use Rattle.std.proofs.Common.{◌≡◌, ◌++◌, map}
use Rattle.pr_backfill.specs.Filled.{group_of_file, groups_to_fill}
use Rattle.pr_checks.specs.private.RulesTaken.{loaded_of}
use Rattle.pr_backfill.proofs.backfill_command.groups.file_groups.Given as goal

-- the groups so far, and those of the rest
abbrev pub invariant-loop-file : goal.invariant-loop-file
invariant-loop-file l =
    map group_of_file l.groups.items ++ groups_to_fill (map loaded_of l.file-iterator.rest.items) ≡ groups_to_fill (map loaded_of l.fn.files.items)
