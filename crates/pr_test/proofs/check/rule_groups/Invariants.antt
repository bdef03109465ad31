use Rattle.std.proofs.Common.{◌≡◌, ◌++◌, map}
use Rattle.pr_checks.specs.private.RulesTaken.{loaded_of}
use Rattle.pr_unit.specs.private.Loaded.{file_of}
use Rattle.pr_test.proofs.check.rule_groups.Given as goal

-- the files so far, and those that are left
abbrev pub invariant-loop-file : goal.invariant-loop-file
invariant-loop-file l = map file_of l.rules.items ++ map loaded_of l.file-iterator.rest.items ≡ map loaded_of l.fn.files
