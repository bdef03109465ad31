-- What is made of the rule files that are found.
use Rattle.std.specs.Prelude.{◌≡◌, ℕ, List, ◌++◌, map}
use Rattle.std.specs.List.{AllByRecursion, IsDistinct}
use Rattle.std.specs.Str.{bytes_eq}
use Rattle.spec_world.specs.pr_rulefile.File.{gives_file, rule_file_of}
use Rattle.spec_world.specs.spec_rules.Definitions.{group_of_def}
use Rattle.spec_world.specs.spec_rules.Reloads.{LoadedFile}
use Rattle.pr_checks.specs.RulesLoaded.{RulesLoaded}
use Rattle.pr_checks.specs.declared.loaded.LoadedRules.{LoadedRules}
use Rattle.pr_checks.specs.declared.loaded.Rules.{Rules}

-- a rule file with its groups
abbrev pub loaded_of : LoadedRules → LoadedFile
loaded_of f = record { name = f.name; groups = map group_of_def f.groups }

abbrev pub rules_of : Rules → RulesLoaded
rules_of r = record { wrong = r.wrong; files = map loaded_of r.files }

-- What is wrong with a rule file comes behind what was wrong before it.
abbrev pub with_wrong : Rules → List ℕ → Rules
with_wrong r lines = record { wrong = r.wrong ++ lines; files = r.files }

-- Nothing is wrong with it: its groups are those of a text.
pub record IsRuleFile (f : LoadedRules) : Type 0 where
  pub text : List ℕ
  pub good : rule_file_of text ≡ gives_file (map group_of_def f.groups)

-- Nothing is wrong with the rule files that are kept of these names. Where all names differ, theirs
-- differ from each other and from those that are still to be read.
pub record AreKept (names : List (List ℕ)) (files : List LoadedRules) (rest : List (List ℕ)) : Type 0 where
  pub rules : AllByRecursion IsRuleFile files
  pub apart : IsDistinct bytes_eq names → IsDistinct bytes_eq (map (λ f. f.name) files ++ rest)
