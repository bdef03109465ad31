use Rattle.std.proofs.Common.{◌≡◌, length}
use Rattle.pr_text.specs.FileNames.{have_distinct_names}
use Rattle.pr_text.proofs.script.file_names.have_distinct_names.Given as goal

abbrev pub invariant-testing : goal.invariant-testing
invariant-testing l = have_distinct_names l.rest ≡ have_distinct_names l.files

abbrev pub decreases-testing : goal.decreases-testing
decreases-testing l = length l.rest
