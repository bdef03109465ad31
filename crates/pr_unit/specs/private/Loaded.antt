-- The rule files of tests, as they are read.
use Rattle.std.specs.Prelude.{◌≡◌, ◌^◌, ◌<◌, All, List, length, map}
use Rattle.std.specs.List.{AllByRecursion, AllZip, IsDistinct}
use Rattle.std.specs.Rc.{rc_value}
use Rattle.std.specs.Str.{bytes_eq}
use Rattle.spec_tests.specs.pr_rulefile.File.{gives_file, rule_file_of}
use Rattle.pr_group.specs.spec_rules.declared.definitions.GroupDef.{GroupDef}
use Rattle.pr_group.specs.spec_rules.Definitions.{group_of_def}
use Rattle.pr_group.specs.pr_rule.private.Templates.{HaveTemplates}
use Rattle.pr_group.specs.spec_rules.Reloads.{LoadedFile}
use Rattle.spec_tests.specs.spec_world.declared.event.NamedFile.{NamedFile}
use Rattle.pr_unit.specs.declared.rules.RuleGroups.{RuleGroups}

-- a text of a file may be read
abbrev pub AreShort : List NamedFile → Type 0
AreShort files = AllByRecursion (λ f. length f.bytes < 2 ^ 32) files

-- the file is one, and has these groups
pub record LoadsAs (f : NamedFile) (loaded : LoadedFile) : Type 0 where
  pub name : loaded.name ≡ f.name
  pub groups : rule_file_of f.bytes ≡ gives_file loaded.groups

-- so of each file, one after the other
abbrev pub LoadAs : List NamedFile → List LoadedFile → Type 0
LoadAs files loaded = AllZip LoadsAs files loaded

-- what was read of a file
abbrev pub definitions_of : RuleGroups → List GroupDef
definitions_of r = map rc_value r.groups

abbrev pub file_of : RuleGroups → LoadedFile
file_of r = record { name = r.name; groups = map group_of_def (definitions_of r) }

-- The alerts of groups have templates, and their names differ.
pub record AreSound (defs : List GroupDef) : Type 0 where
  pub templates : All HaveTemplates defs
  pub apart : IsDistinct bytes_eq (map (λ g. g.name) (map group_of_def defs))

-- so of what was read of each file
abbrev pub AreAllSound : List RuleGroups → Type 0
AreAllSound rules = AllByRecursion (λ r. AreSound (definitions_of r)) rules

-- It was read of the file, where that is one.
pub record IsRead (f : NamedFile) (r : RuleGroups) : Type 0 where
  pub name : r.name ≡ f.name
  pub sound : AreSound (definitions_of r)
  pub loads : (l : LoadedFile) → LoadsAs f l → file_of r ≡ l
