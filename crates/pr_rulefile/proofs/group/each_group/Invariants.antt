use Rattle.std.proofs.Common.{◌≡◌, ◌++◌, List, map, length}
use Rattle.std.specs.List.{filter_map}
use Rattle.pr_words.specs.Names.{knows}
use Rattle.pr_yaml.specs.Tree.{tree_of}
use Rattle.spec_rules.specs.Definitions.{Group}
use Rattle.pr_rulefile.specs.Groups.{no_name, groups_problems, group_of}
use Rattle.pr_rulefile.proofs.group.each_group.Given as goal

-- what was found so far, and what is in the groups that are left, is all
abbrev pub invariant-items : goal.invariant-items
invariant-items g l =
    (l.found.items ++ groups_problems (knows l.names) (map tree_of l.rest) ≡ l.initial.found.items ++ groups_problems no_name (map tree_of l.items))
    × ((more : List Group) → g.G.GroupSink.comes_to l.groups (filter_map group_of (map tree_of l.rest) ++ more) ≡ g.G.GroupSink.comes_to l.initial.groups (filter_map group_of (map tree_of l.items) ++ more))

abbrev pub decreases-items : goal.decreases-items
decreases-items g l = length l.rest
