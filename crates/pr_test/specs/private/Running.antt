-- What is known of a test file and its rule files where its tests are run.
use Rattle.std.specs.Prelude.{◌<◌, List, map}
use Rattle.std.specs.List.{AllByRecursion, IsDistinct}
use Rattle.std.specs.Str.{bytes_eq}
use Rattle.pr_testfile.specs.declared.tests.TestFile.{TestFile}
use Rattle.pr_checks.specs.declared.loaded.LoadedRules.{LoadedRules}
use Rattle.pr_checks.specs.private.RulesTaken.{IsRuleFile}

-- Tests can be run over rule files whose names differ, where the groups are evaluated at an interval
-- above 0.
pub record CanRun (test : TestFile) (files : List LoadedRules) : Type 0 where
  pub interval : 0 < test.interval
  pub rules : AllByRecursion IsRuleFile files
  pub apart : IsDistinct bytes_eq (map (λ f. f.name) files)
