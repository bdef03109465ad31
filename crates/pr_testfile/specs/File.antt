-- Test files.
use Rattle.std.specs.Prelude.{ℕ, List, codes, map, Option, Some, unwrap_or}
use Rattle.std.specs.List.{filter_map}
use Rattle.std.specs.Option.{option_map}
use Rattle.pr_yaml.specs.Tree.{Tree, EntryTree}
use Rattle.pr_rulefile.specs.declared.fields.problem.Problem.{Problem}
use Rattle.pr_rulefile.specs.Nodes.{text_of, fields_in, field, items_under}
use Rattle.pr_rulefile.specs.Problems.{unless_absent}
use Rattle.pr_rulefile.specs.Maps.{none_missing, map_problems, list_problems, texts_problems}
use Rattle.pr_testfile.specs.declared.fields.FileField.{FileField}
use Rattle.pr_testfile.specs.declared.fields.FileField.TheVariants.{RuleFiles, EvaluationInterval, GroupEvalOrder, FuzzyCompare, Tests}
use Rattle.pr_testfile.specs.declared.tests.TestFile.{TestFile}
use Rattle.pr_testfile.specs.Words.{evaluation_interval, group_eval_order}
use Rattle.pr_testfile.specs.Fields.{file_field}
use Rattle.pr_testfile.specs.Scalars.{interval_problems, interval_or, fuzzy_problems}
use Rattle.pr_testfile.specs.Tests.{test_problems, PlainTest, plain_test, test_of}

-- what is wrong with a file whose groups are evaluated at an interval where one is told
abbrev pub file_value_problems : Option ℕ → FileField → Tree → List Problem
file_value_problems interval RuleFiles t = texts_problems t
file_value_problems interval EvaluationInterval t = interval_problems t
file_value_problems interval GroupEvalOrder t = texts_problems t
file_value_problems interval FuzzyCompare t = fuzzy_problems t
file_value_problems interval Tests t = list_problems (test_problems interval) t

abbrev pub file_fields : Option ℕ → List ℕ → Option (Tree → List Problem)
file_fields interval key = option_map (file_value_problems interval) (file_field key)

-- a minute, where no interval is written
abbrev pub minute : ℕ
minute = 60000

abbrev pub file_interval : List EntryTree → Option ℕ
file_interval es = interval_or (Some minute) (field evaluation_interval es)

-- All that is wrong with the tree of a file. A file that says nothing has no tests.
unfoldable pub file_problems : Tree → List Problem
file_problems t = unless_absent t (map_problems none_missing (file_fields (file_interval (fields_in t))) t)

-- A file: the names of its rule files and of the groups that come first, as it writes them, the
-- interval of evaluations, and its tests.
pub record PlainFile : Type 0 where
  pub rule_files : List (List ℕ)
  pub interval : ℕ
  pub order : List (List ℕ)
  pub tests : List PlainTest

abbrev pub plain_file : TestFile → PlainFile
plain_file f = record { rule_files = f.rule_files; interval = f.interval; order = f.order; tests = map plain_test f.tests }

abbrev pub interval_under : List EntryTree → ℕ
interval_under es = unwrap_or (file_interval es) minute

unfoldable pub file_in : List EntryTree → PlainFile
file_in es = record {
  rule_files = filter_map text_of (items_under (field (codes "rule_files") es));
  interval = interval_under es;
  order = filter_map text_of (items_under (field group_eval_order es));
  tests = filter_map (test_of (interval_under es)) (items_under (field (codes "tests") es));
}
