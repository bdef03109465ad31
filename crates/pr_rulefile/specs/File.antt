-- What a text is as a rule file: its groups, or all that is wrong with it.
use Rattle.std.specs.Prelude.{◌≡◌, ℕ, List, [], ◌∷◌, Option, Some, None, codes, map, if◌then◌else◌}
use Rattle.std.specs.List.{flat_map, filter_map}
use Rattle.std.specs.Str.{bytes_eq}
use Rattle.pr_yaml.specs.Tree.{Tree, EntryTree}
use Rattle.pr_yaml.specs.Read.{Reading, gives_tree, gives_fault, read_of}
use Rattle.pr_rulefile.specs.declared.fields.problem.Problem.{Problem}
use Rattle.pr_rulefile.specs.declared.fields.problem.ProblemKind.TheVariants.{Yaml, UnknownField}
use Rattle.pr_rulefile.specs.Nodes.{line_of, items_of, items_in, fields_of, fields_in}
use Rattle.pr_rulefile.specs.Problems.{problem, by_items, by_fields, unless_absent}
use Rattle.pr_rulefile.specs.Order.{in_order}
use Rattle.pr_rulefile.specs.declared.fault.RuleError.{RuleError}
use Rattle.pr_rulefile.specs.declared.fault.RuleError.TheVariants.{Problems, Memory}
use Rattle.pr_rulefile.specs.declared.rule_file.RuleFile.{RuleFile}
use Rattle.pr_rulefile.specs.Groups.{no_name, groups_problems, group_of}
use Rattle.spec_rules.specs.Definitions.{Group, rule_count, group_of_def}

-- A file has one field, `groups`.
abbrev pub groups_value_problems : Tree → List Problem
groups_value_problems t = by_items (groups_problems no_name) (line_of t) (items_of t)

unfoldable pub file_field_problems : EntryTree → List Problem
file_field_problems e =
    if bytes_eq e.key (codes "groups") then unless_absent e.value (groups_value_problems e.value) else problem e.line (UnknownField e.key) ∷ []

-- All that is wrong with the tree of a file. A file that says nothing has no groups.
unfoldable pub file_problems : Tree → List Problem
file_problems t = unless_absent t (by_fields (flat_map file_field_problems) (line_of t) (fields_of t))

-- the groups under a field of a file
unfoldable pub groups_under : EntryTree → List Group
groups_under e = if bytes_eq e.key (codes "groups") then filter_map group_of (items_in e.value) else []

unfoldable pub file_groups : Tree → List Group
file_groups t = flat_map groups_under (fields_in t)

abbrev pub groups_of_file : RuleFile → List Group
groups_of_file f = map group_of_def f.groups

pub data RuleReading : Type 0 where
  -- the groups of a rule file
  gives_file : List Group → RuleReading
  -- all that is wrong, in its order
  gives_problems : List Problem → RuleReading

-- a file is one where nothing is wrong
abbrev pub by_problems : List Problem → List Group → RuleReading
by_problems [] groups = gives_file groups
by_problems (p ∷ ps) groups = gives_problems (in_order (p ∷ ps))

abbrev pub by_reading : Reading → RuleReading
by_reading (gives_tree t) = by_problems (file_problems t) (file_groups t)
by_reading (gives_fault line kind) = gives_problems (problem line (Yaml kind) ∷ [])

-- The rule file of a text, or what is wrong with it. What has no tree has that one fault alone.
unfoldable pub rule_file_of : List ℕ → RuleReading
rule_file_of text = by_reading (read_of text)

-- the groups of a rule file; one that is none has none
abbrev pub groups_given : RuleReading → List Group
groups_given (gives_file groups) = groups
groups_given (gives_problems list) = []

-- how many rules a rule file has
abbrev pub rules_given : RuleReading → Option ℕ
rules_given (gives_file groups) = Some (rule_count groups)
rules_given (gives_problems list) = None

-- what comes of the groups of a file: all of them, or how many rules they have
pub data Gathered : Type 0 where
  these_groups : List Group → Gathered
  so_many_rules : ℕ → Gathered

-- The error is the one that the text gives. Nothing is said where memory runs out.
abbrev pub IsErrorOf : RuleReading → RuleError → Type 0
IsErrorOf r (Problems list) = r ≡ gives_problems list
IsErrorOf r Memory = Unit {0}
