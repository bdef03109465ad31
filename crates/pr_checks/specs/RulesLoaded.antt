-- Rule files that are loaded by their names: what is wrong with them, and those with which nothing is.
use Rattle.std.specs.Prelude.{ℕ, List, [], ◌∷◌, ◌++◌, flat_map}
use Rattle.spec_world.specs.pr_rulefile.File.{RuleReading, gives_file, gives_problems, rule_file_of}
use Rattle.spec_world.specs.spec_rules.Reloads.{LoadedFile}
use Rattle.pr_outside.specs.Outside.{Held}
use Rattle.pr_outside.specs.Loading.{Holding, holds, is_missing, is_too_large, holding_by}
use Rattle.pr_checks.specs.Problems.{problem_line}
use Rattle.pr_checks.specs.RuleFiles.{missing, too_large}

-- the lines of what is wrong with rule files, and the groups of those with which nothing is
pub record RulesLoaded : Type 0 where
  pub wrong : List ℕ
  pub files : List LoadedFile

abbrev pub none_loaded : List ℕ → RulesLoaded
none_loaded wrong = record { wrong = wrong; files = [] }

abbrev pub rules_by : List ℕ → RuleReading → RulesLoaded
rules_by name (gives_file groups) = record { wrong = []; files = record { name = name; groups = groups } ∷ [] }
rules_by name (gives_problems list) = none_loaded (flat_map (problem_line name) list)

abbrev pub rules_held : List ℕ → Holding → RulesLoaded
rules_held name is_missing = none_loaded (name ++ missing)
rules_held name is_too_large = none_loaded (name ++ too_large)
rules_held name (holds bytes) = rules_by name (rule_file_of bytes)

abbrev pub and_rules : RulesLoaded → RulesLoaded → RulesLoaded
and_rules a b = record { wrong = a.wrong ++ b.wrong; files = a.files ++ b.files }

-- all rule files are read before any is told of
abbrev pub all_rules : Held → List (List ℕ) → RulesLoaded
all_rules held [] = none_loaded []
all_rules held (name ∷ names) = and_rules (rules_held name (holding_by (held name))) (all_rules held names)
