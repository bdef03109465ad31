-- Test files of which all is met: they read, their rule files read, and what they expect comes.
use Rattle.std.specs.Prelude.{◌≡◌, ℕ, List, [], ◌∷◌}
use Rattle.pr_outside.specs.Outside.{Held}
use Rattle.pr_outside.specs.Loading.{holds, holding_by}
use Rattle.pr_text.specs.pr_rulefile.File.{gives_file, rule_file_of}
use Rattle.pr_text.specs.spec_rules.Reloads.{LoadedFile}
use Rattle.pr_testfile.specs.File.{PlainFile}
use Rattle.pr_testfile.specs.Reading.{gives_file as reads_file, test_file_of}
use Rattle.pr_unit.specs.spec_tests.RuleFiles.{rule_file_names}
use Rattle.pr_unit.specs.spec_tests.Verdict.{verdict}

-- A name holds a rule file, which loads as this.
pub record HoldsRuleFile (held : Held) (name : List ℕ) (file : LoadedFile) : Type 0 where
  pub bytes : List ℕ
  pub found : holding_by (held name) ≡ holds bytes
  pub reads : rule_file_of bytes ≡ gives_file file.groups
  pub named : file.name ≡ name

-- Each of these names does, and they load as these.
abbrev pub HoldRuleFiles : Held → List (List ℕ) → List LoadedFile → Type 0
HoldRuleFiles held [] [] = Unit {0}
HoldRuleFiles held [] (file ∷ files) = ⊥
HoldRuleFiles held (name ∷ names) [] = ⊥
HoldRuleFiles held (name ∷ names) (file ∷ files) = HoldsRuleFile held name file × HoldRuleFiles held names files

-- A name holds a test file, each name of a rule file in it holds one, and over these no check of it
-- differs.
pub record IsMet (held : Held) (name : List ℕ) : Type 0 where
  pub bytes : List ℕ
  pub file : PlainFile
  pub rules : List LoadedFile
  pub found : holding_by (held name) ≡ holds bytes
  pub reads : test_file_of bytes ≡ reads_file file
  pub rules_read : HoldRuleFiles held (rule_file_names name file.rule_files) rules
  pub as_expected : verdict file rules ≡ []
