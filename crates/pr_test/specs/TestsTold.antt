-- What `test rules` tells of a file.
use Rattle.std.specs.Prelude.{ℕ, Bool, true, false, List, [], ◌∷◌, ◌++◌, codes, flat_map}
use Rattle.pr_outside.specs.Outside.{Held}
use Rattle.pr_outside.specs.FileChecks.{Told}
use Rattle.pr_outside.specs.Loading.{Holding, holds, is_missing, is_too_large, holding_by}
use Rattle.pr_checks.specs.Problems.{problem_line}
use Rattle.pr_checks.specs.RuleFiles.{problems_text, missing, too_large}
use Rattle.pr_text.specs.spec_rules.Reloads.{LoadedFile}
use Rattle.pr_testfile.specs.File.{PlainFile}
use Rattle.pr_testfile.specs.Reading.{TestReading, gives_file as reads_file, gives_problems as has_problems, test_file_of}
use Rattle.pr_unit.specs.spec_tests.RuleFiles.{rule_file_names}
use Rattle.pr_unit.specs.spec_tests.Verdict.{verdict}
use Rattle.pr_test.specs.FailureText.{failure_text}
use Rattle.pr_checks.specs.RulesLoaded.{RulesLoaded, all_rules}

-- The test file

-- what a name of a test file comes to: its tests, or the lines of what is wrong
pub data TestsFound : Type 0 where
  these_tests : PlainFile → TestsFound
  no_tests : List ℕ → TestsFound

abbrev pub tests_by : List ℕ → TestReading → TestsFound
tests_by name (reads_file f) = these_tests f
tests_by name (has_problems list) = no_tests (flat_map (problem_line name) list)

abbrev pub tests_in : List ℕ → Holding → TestsFound
tests_in name is_missing = no_tests (name ++ missing)
tests_in name is_too_large = no_tests (name ++ too_large)
tests_in name (holds bytes) = tests_by name (test_file_of bytes)

-- The test file and its rule files

-- No test is run where something is wrong with a rule file.
abbrev pub lines_by : PlainFile → List LoadedFile → List ℕ → List ℕ
lines_by f files [] = flat_map (failure_text f) (verdict f files)
lines_by f files (b ∷ wrong) = b ∷ wrong

abbrev pub lines_with : PlainFile → RulesLoaded → List ℕ
lines_with f r = lines_by f r.files r.wrong

-- the rule files that are asked for, and the lines that are told
abbrev pub rule_names : List ℕ → TestsFound → List (List ℕ)
rule_names name (these_tests f) = rule_file_names name f.rule_files
rule_names name (no_tests lines) = []

abbrev pub lines_of : Held → List ℕ → TestsFound → List ℕ
lines_of held name (these_tests f) = lines_with f (all_rules held (rule_file_names name f.rule_files))
lines_of held name (no_tests lines) = lines

unfoldable pub success_line : List ℕ
success_line = codes "  SUCCESS\n"

-- Lines are a failure.
abbrev pub lines_text : List ℕ → List ℕ
lines_text [] = success_line
lines_text (b ∷ lines) = problems_text (b ∷ lines)

abbrev pub are_failures : List ℕ → Bool
are_failures [] = false
are_failures (b ∷ lines) = true

unfoldable pub testing_text : List ℕ → List ℕ
testing_text name = codes "Unit Testing:  " ++ (name ++ codes "\n")

abbrev pub told_of : Held → List ℕ → TestsFound → Told
told_of held name found = record {
  text = testing_text name ++ lines_text (lines_of held name found);
  refused = are_failures (lines_of held name found);
  asks = name ∷ rule_names name found;
}

-- The name of the file on a line, and then that all expectations are met, or what is wrong. The file
-- is asked for, and then its rule files, where it is a test file.
abbrev pub tests_told : Held → List ℕ → Told
tests_told held name = told_of held name (tests_in name (holding_by (held name)))
