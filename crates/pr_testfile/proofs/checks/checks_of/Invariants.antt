use Rattle.std.proofs.Common.{◌≡◌, ◌++◌, [], map, length}
use Rattle.std.specs.List.{filter_map}
use Rattle.pr_yaml.specs.Tree.{tree_of}
use Rattle.pr_testfile.specs.Checks.{check_of, plain_check}
use Rattle.pr_testfile.proofs.checks.checks_of.Given as goal

abbrev pub invariant-items : goal.invariant-items
invariant-items l = map plain_check l.exprs ++ filter_map check_of (map tree_of l.rest) ≡ filter_map check_of (map tree_of l.items)

abbrev pub decreases-items : goal.decreases-items
decreases-items l = length l.rest
