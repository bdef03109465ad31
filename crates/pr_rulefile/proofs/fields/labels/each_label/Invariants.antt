use Rattle.std.proofs.Common.{◌≡◌, ◌++◌, map, length}
use Rattle.std.specs.List.{flat_map}
use Rattle.pr_yaml.specs.Tree.{entry_tree_of}
use Rattle.pr_rulefile.specs.Labels.{label_problems}
use Rattle.pr_rulefile.proofs.fields.labels.each_label.Given as goal

-- the problems so far, and those of the labels that are left, are all
abbrev pub invariant-fields : goal.invariant-fields
invariant-fields l =
    l.found.items ++ flat_map (label_problems l.templates) (map entry_tree_of l.rest) ≡ l.initial.found.items ++ flat_map (label_problems l.templates) (map entry_tree_of l.entries)

abbrev pub decreases-fields : goal.decreases-fields
decreases-fields l = length l.rest
