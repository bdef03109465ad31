-- A text that is no test file has a problem that can be told.
use Rattle.std.proofs.Common.{◌≡◌, ◌≢◌, ℕ, Bool, true, false, cond, List, [], ◌∷◌, subst}
use Rattle.pr_yaml.specs.Read.{Reading, gives_tree, gives_fault, read_of}
use Rattle.pr_rulefile.specs.declared.fields.problem.Problem.{Problem}
use Rattle.pr_rulefile.specs.Nodes.{fields_in}
use Rattle.pr_rulefile.specs.Order.{in_order, inserted, is_told_before, ordered}
use Rattle.pr_testfile.specs.File.{PlainFile, file_in, file_problems}
use Rattle.pr_testfile.specs.Reading.{TestReading, by_problems, by_reading, gives_file, gives_problems, test_file_of}

placed_one : (p : Problem) (ps : List Problem) → inserted is_told_before p ps ≢ []
placed_one p [] = λ e. cc
placed_one p (q ∷ qs) = by (is_told_before q p) where
  by : (b : Bool) → cond b (q ∷ inserted is_told_before p qs) (p ∷ q ∷ qs) ≢ []
  by true = λ e. cc
  by false = λ e. cc

ordered_one : (p : Problem) (ps : List Problem) → in_order (p ∷ ps) ≢ []
unfolding in_order
ordered_one p ps = placed_one p (ordered is_told_before ps)

abbrev TellsOne : TestReading → Type 0
TellsOne (gives_file file) = Unit {0}
TellsOne (gives_problems list) = list ≢ []

of_problems : (ps : List Problem) (file : PlainFile) → TellsOne (by_problems ps file)
of_problems [] file = tt
of_problems (p ∷ ps) file = ordered_one p ps

of_reading : (r : Reading) → TellsOne (by_reading r)
of_reading (gives_tree t) = of_problems (file_problems t) (file_in (fields_in t))
of_reading (gives_fault line kind) = λ e. cc

pub problem_is_told : (text : List ℕ) (list : List Problem) → test_file_of text ≡ gives_problems list → list ≢ []
unfolding test_file_of
problem_is_told text list h = subst TellsOne h (of_reading (read_of text))
