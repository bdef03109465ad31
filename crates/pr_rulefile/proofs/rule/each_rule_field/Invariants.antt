use Rattle.std.proofs.Common.{◌≡◌, ◌++◌, map, length}
use Rattle.std.specs.List.{flat_map}
use Rattle.pr_yaml.specs.Tree.{entry_tree_of}
use Rattle.pr_rulefile.specs.Rules.{rule_field_problems}
use Rattle.pr_rulefile.proofs.rule.each_rule_field.Given as goal

-- the problems so far, and those of the fields that are left, are all
abbrev pub invariant-fields : goal.invariant-fields
invariant-fields l =
    l.found.items ++ flat_map (rule_field_problems l.naming) (map entry_tree_of l.rest) ≡ l.initial.found.items ++ flat_map (rule_field_problems l.naming) (map entry_tree_of l.entries)

abbrev pub decreases-fields : goal.decreases-fields
decreases-fields l = length l.rest
