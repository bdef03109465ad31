use Rattle.std.proofs.Common.{◌≡◌, ◌++◌, drop, flat_map}
use Rattle.pr_testfile.specs.File.{plain_file}
use Rattle.pr_test.specs.FailureText.{failure_text}
use Rattle.pr_test.proofs.check.failure_lines.Given as goal

-- what is written, and what is to come
abbrev pub invariant-loop-failure : goal.invariant-loop-failure
invariant-loop-failure l =
    l.lines.items ++ flat_map (failure_text (plain_file l.test)) (drop l.failure-index l.failures) ≡ flat_map (failure_text (plain_file l.test)) l.failures
