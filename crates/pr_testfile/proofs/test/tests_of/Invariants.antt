use Rattle.std.proofs.Common.{◌≡◌, ◌++◌, [], map, length}
use Rattle.std.specs.List.{filter_map}
use Rattle.pr_yaml.specs.Tree.{tree_of}
use Rattle.pr_testfile.specs.Tests.{test_of, plain_test}
use Rattle.pr_testfile.proofs.test.tests_of.Given as goal

abbrev pub invariant-items : goal.invariant-items
invariant-items l = map plain_test l.tests ++ filter_map (test_of l.default) (map tree_of l.rest) ≡ filter_map (test_of l.default) (map tree_of l.items)

abbrev pub decreases-items : goal.decreases-items
decreases-items l = length l.rest
