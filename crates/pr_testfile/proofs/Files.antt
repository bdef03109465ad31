-- What is told of a file: its tests, or all that is wrong.
use Rattle.std.proofs.Common.{◌≡◌, ◌<◌, ℕ, length, arith, List, [], ◌∷◌, refl}
use Rattle.pr_rulefile.specs.declared.fields.problem.Problem.{Problem}
use Rattle.pr_rulefile.specs.Order.{in_order}
use Rattle.pr_testfile.specs.File.{PlainFile}
use Rattle.pr_testfile.specs.Reading.{by_problems, gives_problems}

-- where something is wrong, all that is wrong is told
pub some_problems : (ps : List Problem) (file : PlainFile) → 0 < length ps → by_problems ps file ≡ gives_problems (in_order ps)
some_problems [] file h = absurd (omega arith)
some_problems (p ∷ ps) file h = refl
