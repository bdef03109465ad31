-- What is made of the files that are loaded.
use Rattle.std.specs.Prelude.{◌<◌}
use Rattle.pr_testfile.specs.File.{plain_file}
use Rattle.pr_test.specs.TestsTold.{TestsFound, these_tests, no_tests}
use Rattle.pr_test.specs.declared.reading.Tests.{Tests}
use Rattle.pr_test.specs.declared.reading.Tests.TheVariants.{These, Wrong}

abbrev pub found_of : Tests → TestsFound
found_of (These file) = these_tests (plain_file file)
found_of (Wrong lines) = no_tests lines

-- the groups of a test file are evaluated at an interval above 0
abbrev pub HasInterval : Tests → Type 0
HasInterval (These file) = 0 < file.interval
HasInterval (Wrong lines) = Unit {0}
