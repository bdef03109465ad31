-- SUCCESS is told of a name exactly where it holds a test file of which all is met.
use Rattle.std.proofs.Common.{◌≡◌, ◌≢◌, ℕ, true, false, List, [], ◌∷◌, ◌++◌, flat_map, refl, sym, ap, ◌∙◌}
use Rattle.std.proofs.lemmas.List.{append_cancel_left}
use Rattle.pr_outside.specs.Outside.{Held}
use Rattle.pr_outside.specs.Loading.{Holding, holds, is_missing, is_too_large, holding_by}
use Rattle.pr_checks.specs.Problems.{problem_line}
use Rattle.pr_checks.specs.RuleFiles.{failed_line, missing, too_large}
use Rattle.pr_checks.specs.RulesLoaded.{RulesLoaded, all_rules, and_rules, rules_by, rules_held}
use Rattle.pr_text.specs.pr_rulefile.File.{RuleReading, gives_file, gives_problems, rule_file_of}
use Rattle.pr_text.specs.pr_rulefile.declared.fields.problem.Problem.{Problem}
use Rattle.pr_text.specs.spec_rules.Reloads.{LoadedFile}
use Rattle.pr_testfile.specs.File.{PlainFile}
use Rattle.pr_testfile.specs.Reading.{TestReading, gives_file as reads_file, gives_problems as has_problems, test_file_of}
use Rattle.pr_testfile.proofs.RulefileSomeProblems.{problem_is_told as rule_problem_is_told}
use Rattle.pr_testfile.proofs.SomeProblems.{problem_is_told}
use Rattle.pr_unit.specs.spec_tests.RuleFiles.{rule_file_names}
use Rattle.pr_unit.specs.spec_tests.declared.failure.Failure.{Failure}
use Rattle.pr_unit.specs.spec_tests.Verdict.{verdict}
use Rattle.pr_test.specs.FailureText.{failure_text}
use Rattle.pr_test.specs.TestsTold.{are_failures, lines_by, lines_of, lines_text, lines_with, success_line, testing_text, tests_by, tests_in, tests_told}
use Rattle.pr_test.specs.private.Successes.{HoldsRuleFile, HoldRuleFiles, IsMet}

-- Lines

-- there is a line where there is a first byte
none_there : (lines : List ℕ) → are_failures lines ≡ false → lines ≡ []
none_there [] h = refl
none_there (b ∷ lines) h = absurd (let z : true ≡ false = h in cc)

some_there : (lines : List ℕ) → are_failures lines ≡ true → lines ≢ []
some_there [] h = absurd (let z : false ≡ true = h in cc)
some_there (b ∷ lines) h = λ e. cc

in_front : (a b : List ℕ) → are_failures a ≡ true → are_failures (a ++ b) ≡ true
in_front [] b h = absurd (let z : false ≡ true = h in cc)
in_front (x ∷ a) b h = refl

behind : (a b : List ℕ) → are_failures b ≡ true → are_failures (a ++ b) ≡ true
behind [] b h = h
behind (x ∷ a) b h = refl

both_none : (a b : List ℕ) → a ++ b ≡ [] → (a ≡ []) × (b ≡ [])
both_none [] b h = (refl, h)
both_none (x ∷ a) b h = absurd cc

problem_told : (name : List ℕ) (p : Problem) → are_failures (problem_line name p) ≡ true
unfolding problem_line
problem_told name p = behind name _ refl

problems_told : (name : List ℕ) (list : List Problem) → list ≢ [] → flat_map (problem_line name) list ≢ []
problems_told name [] h = absurd (h refl)
problems_told name (p ∷ ps) h = some_there _ (in_front (problem_line name p) (flat_map (problem_line name) ps) (problem_told name p))

missing_told : (name : List ℕ) → name ++ missing ≢ []
unfolding missing
missing_told name = some_there _ (behind name missing refl)

large_told : (name : List ℕ) → name ++ too_large ≢ []
unfolding too_large
large_told name = some_there _ (behind name too_large refl)

-- what is told of a check that differs has a first byte
no_failure : (f : PlainFile) (list : List Failure) → flat_map (failure_text f) list ≡ [] → list ≡ []
unfolding failure_text
no_failure f [] h = refl
no_failure f (x ∷ list) h = absurd (some_there (flat_map (failure_text f) (x ∷ list)) refl h)

-- Rule files

one_file : (held : Held) (name : List ℕ) (names : List (List ℕ)) (rest : RulesLoaded) → (holding : Holding) → holding_by (held name) ≡ holding
    → (and_rules (rules_held name holding) rest).wrong ≡ [] → (rest.wrong ≡ [] → HoldRuleFiles held names rest.files)
    → HoldRuleFiles held (name ∷ names) (and_rules (rules_held name holding) rest).files
one_file held name names rest is_missing is fine later = absurd (missing_told name (both_none (name ++ missing) rest.wrong fine).0)
one_file held name names rest is_too_large is fine later = absurd (large_told name (both_none (name ++ too_large) rest.wrong fine).0)
one_file held name names rest (holds bytes) is fine later = by (rule_file_of bytes) refl fine
  where
    by : (r : RuleReading) → rule_file_of bytes ≡ r → (and_rules (rules_by name r) rest).wrong ≡ [] → HoldRuleFiles held (name ∷ names) (and_rules (rules_by name r) rest).files
    by (gives_file groups) reads fine = (record { bytes = bytes; found = is; reads = reads; named = refl }, later fine)
    by (gives_problems list) reads fine =
        absurd (problems_told name list (rule_problem_is_told bytes list reads) (both_none (flat_map (problem_line name) list) rest.wrong fine).0)

pub all_read : (held : Held) (names : List (List ℕ)) → (all_rules held names).wrong ≡ [] → HoldRuleFiles held names (all_rules held names).files
all_read held [] fine = tt
all_read held (name ∷ names) fine = one_file held name names (all_rules held names) (holding_by (held name)) refl fine (λ e. all_read held names e)

one_loaded : (held : Held) (name : List ℕ) (file : LoadedFile) → HoldsRuleFile held name file → rules_held name (holding_by (held name)) ≡ record { wrong = []; files = file ∷ [] }
one_loaded held name file h =
    ap (rules_held name) h.found ∙ ap (rules_by name) h.reads
    ∙ ap (λ (n : List ℕ). record { wrong = []; files = record { name = n; groups = file.groups } ∷ [] }) (sym h.named)

pub all_loaded : (held : Held) (names : List (List ℕ)) (files : List LoadedFile) → HoldRuleFiles held names files → all_rules held names ≡ record { wrong = []; files = files }
all_loaded held [] [] h = refl
all_loaded held [] (file ∷ files) h = absurd h
all_loaded held (name ∷ names) [] h = absurd h
all_loaded held (name ∷ names) (file ∷ files) h =
    ap (λ (r : RulesLoaded). and_rules r (all_rules held names)) (one_loaded held name file h.0)
    ∙ ap (λ (r : RulesLoaded). and_rules (record { wrong = []; files = file ∷ [] }) r) (all_loaded held names files h.1)

-- Test files

met_by : (f : PlainFile) (files : List LoadedFile) (wrong : List ℕ) → lines_by f files wrong ≡ [] → (wrong ≡ []) × (verdict f files ≡ [])
met_by f files [] h = (refl, no_failure f (verdict f files) h)
met_by f files (b ∷ wrong) h = absurd cc

met_file : (held : Held) (name : List ℕ) → (holding : Holding) → holding_by (held name) ≡ holding → lines_of held name (tests_in name holding) ≡ [] → IsMet held name
met_file held name is_missing is h = absurd (missing_told name h)
met_file held name is_too_large is h = absurd (large_told name h)
met_file held name (holds bytes) is h = by (test_file_of bytes) refl h
  where
    by : (r : TestReading) → test_file_of bytes ≡ r → lines_of held name (tests_by name r) ≡ [] → IsMet held name
    by (reads_file f) reads none =
        let names = rule_file_names name f.rule_files in
        let met = met_by f (all_rules held names).files (all_rules held names).wrong none in
        record {
          bytes = bytes;
          file = f;
          rules = (all_rules held names).files;
          found = is;
          reads = reads;
          rules_read = all_read held names met.0;
          as_expected = met.1;
        }
    by (has_problems list) reads none = absurd (problems_told name list (problem_is_told bytes list reads) none)

no_lines : (held : Held) (name : List ℕ) → IsMet held name → lines_of held name (tests_in name (holding_by (held name))) ≡ []
no_lines held name m =
    ap (λ (h : Holding). lines_of held name (tests_in name h)) m.found ∙ ap (λ (r : TestReading). lines_of held name (tests_by name r)) m.reads
    ∙ ap (lines_with m.file) (all_loaded held (rule_file_names name m.file.rule_files) m.rules m.rules_read)
    ∙ ap (λ (list : List Failure). flat_map (failure_text m.file) list) m.as_expected

-- The line

-- the third byte, which differs
abbrev third : List ℕ → ℕ
third [] = 0
third (a ∷ []) = 0
third (a ∷ b ∷ []) = 0
third (a ∷ b ∷ c ∷ more) = c

success_alone : (lines : List ℕ) → lines_text lines ≡ success_line → lines ≡ []
unfolding failed_line success_line
success_alone [] h = refl
success_alone (b ∷ lines) h = absurd (let z : 70 ≡ 83 = ap third h in cc)

pub success_is_met : (held : Held) (name : List ℕ) → (tests_told held name).text ≡ testing_text name ++ success_line → IsMet held name
success_is_met held name h =
    met_file held name (holding_by (held name)) refl (success_alone _ (append_cancel_left (testing_text name) _ success_line h))

pub met_is_success : (held : Held) (name : List ℕ) → IsMet held name → (tests_told held name).text ≡ testing_text name ++ success_line
met_is_success held name m = ap (λ (lines : List ℕ). testing_text name ++ lines_text lines) (no_lines held name m)

pub refused_else : (held : Held) (name : List ℕ) → (tests_told held name).refused ≡ false → IsMet held name
refused_else held name h = met_file held name (holding_by (held name)) refl (none_there _ h)

pub met_is_taken : (held : Held) (name : List ℕ) → IsMet held name → (tests_told held name).refused ≡ false
met_is_taken held name m = ap are_failures (no_lines held name m)
