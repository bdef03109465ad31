use Rattle.std.proofs.Common.{◌≡◌, ◌++◌, map, length}
use Rattle.std.specs.List.{flat_map, filter_map}
use Rattle.pr_yaml.specs.Tree.{tree_of, entry_tree_of}
use Rattle.pr_rulefile.specs.Rules.{rule_problems, rule_of}
use Rattle.spec_rules.specs.Definitions.{rule_of_def}
use Rattle.pr_rulefile.proofs.group.each_rule.Given as goal

-- what was found so far, and what is in the rules that are left, is all
abbrev pub invariant-items : goal.invariant-items
invariant-items l =
    (l.found.items ++ flat_map rule_problems (map tree_of l.rest) ≡ l.initial.found.items ++ flat_map rule_problems (map tree_of l.items))
    × (map rule_of_def l.rules ++ filter_map (rule_of (map entry_tree_of l.group)) (map tree_of l.rest) ≡ map rule_of_def l.initial.rules ++ filter_map (rule_of (map entry_tree_of l.group)) (map tree_of l.items))

abbrev pub decreases-items : goal.decreases-items
decreases-items l = length l.rest
