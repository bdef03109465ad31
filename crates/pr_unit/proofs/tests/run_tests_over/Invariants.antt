use Rattle.std.proofs.Common.{◌≡◌, map, take}
use Rattle.std.specs.List.{enumerate_from, flat_map}
use Rattle.pr_group.specs.spec_rules.Replays.{unwaiting_groups}
use Rattle.spec_tests.specs.pr_testfile.Tests.{plain_test}
use Rattle.spec_tests.specs.Events.{by_names}
use Rattle.spec_tests.specs.Verdict.{test_verdict}
use Rattle.pr_unit.specs.private.Loaded.{file_of}
use Rattle.pr_unit.proofs.tests.run_tests_over.Given as goal

-- the failures of the first tests
abbrev pub invariant-tests : goal.invariant-tests
invariant-tests g l =
    l.failures.items ≡ flat_map (test_verdict l.file.interval (by_names l.file.order (unwaiting_groups (map file_of l.rules)))) (enumerate_from 1 (map plain_test (take l.index l.tests)))
