use Rattle.std.proofs.Common.{◌≡◌, ◌++◌, map, length}
use Rattle.std.specs.List.{flat_map}
use Rattle.pr_yaml.specs.Tree.{entry_tree_of}
use Rattle.spec_rules.specs.Definitions.{rule_of_def}
use Rattle.pr_rulefile.specs.Groups.{group_field_problems, rules_under}
use Rattle.pr_rulefile.proofs.group.each_group_field.Given as goal

-- what was found so far, and what is in the fields that are left, is all
abbrev pub invariant-fields : goal.invariant-fields
invariant-fields l =
    (l.found.items ++ flat_map (group_field_problems l.alerts) (map entry_tree_of l.rest) ≡ l.initial.found.items ++ flat_map (group_field_problems l.alerts) (map entry_tree_of l.group))
    × (map rule_of_def l.rules ++ flat_map (rules_under (map entry_tree_of l.group)) (map entry_tree_of l.rest) ≡ flat_map (rules_under (map entry_tree_of l.group)) (map entry_tree_of l.group))

abbrev pub decreases-fields : goal.decreases-fields
decreases-fields l = length l.rest
