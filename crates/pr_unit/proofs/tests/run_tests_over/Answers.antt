use Rattle.std.proofs.Common.{◌≡◌, List, length, map, slice_get, Some, refl, ap, ◌∙◌}
use Rattle.std.specs.List.{enumerate_from, flat_map}
use Rattle.std.proofs.lemmas.Option.{slice_get_read}
use Rattle.pr_group.specs.spec_rules.Replays.{unwaiting_groups}
use Rattle.spec_tests.specs.pr_testfile.declared.tests.Test.{Test}
use Rattle.spec_tests.specs.pr_testfile.Tests.{plain_test}
use Rattle.spec_tests.specs.Events.{by_names}
use Rattle.spec_tests.specs.Verdict.{test_verdict, verdict}
use Rattle.pr_unit.specs.private.Loaded.{file_of}
use Rattle.pr_unit.proofs.Filling.{next_test}
use Rattle.pr_unit.proofs.Lists.{take_whole}
use Rattle.pr_unit.proofs.Loading.{told_apart}
use Rattle.pr_unit.proofs.tests.run_tests_over.Goals as goal

pub tests-preserved : goal.tests-preserved
tests-preserved g c =
    let file = c.args.file.now in
    let rules = c.args.rules.now in
    let tests = c.as_slice-tests.result.now in
    let n = c.tests.index in
    let x = c.index-tests-index.result in
    let there : slice_get tests n ≡ Some x = slice_get_read tests (length tests) n x refl c.tests-test.true c.index-tests-index.is in
    next_test (test_verdict file.interval (by_names file.order (unwaiting_groups (map file_of rules)))) plain_test n tests x c.tests.failures.items c.run_test.new.failures.items there
    c.tests.invariant (c.in_ok-run_test.ensures (told_apart rules c.requires.sound c.requires.names))

pub returns : goal.returns
unfolding verdict
returns g c =
    let file = c.args.file.now in
    let f = test_verdict file.interval (by_names file.order (unwaiting_groups (map file_of c.args.rules.now))) in
    c.tests.invariant
    ∙ ap (λ (l : List Test). flat_map f (enumerate_from 1 (map plain_test l))) (take_whole c.as_slice-tests.result.now c.tests.index c.tests-test.false ∙ c.as_slice-tests.ensures)
