-- What takes the places of samples apart.
use Rattle.std.specs.Prelude.{⊤}
use Rattle.spec_tests.specs.pr_testfile.Series.{places}

unfoldable pub placing : ⊤
unfolding places
placing = tt
