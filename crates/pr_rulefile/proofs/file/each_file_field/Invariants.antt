use Rattle.std.proofs.Common.{◌≡◌, ◌++◌, List, map, length}
use Rattle.std.specs.List.{flat_map}
use Rattle.pr_yaml.specs.Tree.{entry_tree_of}
use Rattle.spec_rules.specs.Definitions.{Group}
use Rattle.pr_rulefile.specs.File.{file_field_problems, groups_under}
use Rattle.pr_rulefile.proofs.file.each_file_field.Given as goal

-- what was found so far, and what is in the fields that are left, is all
abbrev pub invariant-fields : goal.invariant-fields
invariant-fields g l =
    (l.found.items ++ flat_map file_field_problems (map entry_tree_of l.rest) ≡ l.initial.found.items ++ flat_map file_field_problems (map entry_tree_of l.entries))
    × ((more : List Group) → g.G.GroupSink.comes_to l.groups (flat_map groups_under (map entry_tree_of l.rest) ++ more) ≡ g.G.GroupSink.comes_to l.initial.groups (flat_map groups_under (map entry_tree_of l.entries) ++ more))

abbrev pub decreases-fields : goal.decreases-fields
decreases-fields g l = length l.rest
