-- What a text is as a test file: its tests, or all that is wrong with it.
use Rattle.std.specs.Prelude.{◌≡◌, ℕ, List, [], ◌∷◌}
use Rattle.pr_yaml.specs.Tree.{Tree}
use Rattle.pr_yaml.specs.Read.{Reading, gives_tree, gives_fault, read_of}
use Rattle.pr_rulefile.specs.declared.fields.problem.Problem.{Problem}
use Rattle.pr_rulefile.specs.declared.fields.problem.ProblemKind.TheVariants.{Yaml}
use Rattle.pr_rulefile.specs.Nodes.{fields_in}
use Rattle.pr_rulefile.specs.Problems.{problem}
use Rattle.pr_rulefile.specs.Order.{in_order}
use Rattle.pr_testfile.specs.declared.fault.TestError.{TestError}
use Rattle.pr_testfile.specs.declared.fault.TestError.TheVariants.{Problems, Memory}
use Rattle.pr_testfile.specs.File.{file_problems, PlainFile, file_in}

pub data TestReading : Type 0 where
  -- the tests of a test file
  gives_file : PlainFile → TestReading
  -- all that is wrong, in its order
  gives_problems : List Problem → TestReading

-- a file is one where nothing is wrong
abbrev pub by_problems : List Problem → PlainFile → TestReading
by_problems [] file = gives_file file
by_problems (p ∷ ps) file = gives_problems (in_order (p ∷ ps))

abbrev pub by_reading : Reading → TestReading
by_reading (gives_tree t) = by_problems (file_problems t) (file_in (fields_in t))
by_reading (gives_fault line kind) = gives_problems (problem line (Yaml kind) ∷ [])

-- The test file of a text, or what is wrong with it. What has no tree has that one fault alone.
unfoldable pub test_file_of : List ℕ → TestReading
test_file_of text = by_reading (read_of text)

-- The error is the one that the text gives. Nothing is said where memory runs out.
abbrev pub IsErrorOf : TestReading → TestError → Type 0
IsErrorOf r (Problems list) = r ≡ gives_problems list
IsErrorOf r Memory = Unit {0}
