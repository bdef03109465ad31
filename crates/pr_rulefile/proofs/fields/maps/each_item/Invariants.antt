use Rattle.std.proofs.Common.{◌≡◌, ◌++◌, map, length}
use Rattle.std.specs.List.{flat_map}
use Rattle.pr_yaml.specs.Tree.{tree_of}
use Rattle.pr_rulefile.proofs.fields.maps.each_item.Given as goal

-- the problems so far, and those of the items that are left, are all
abbrev pub invariant-items : goal.invariant-items
invariant-items g l =
    l.found.items ++ flat_map (g.F.ItemForm.wrong l.form) (map tree_of l.rest)
    ≡ l.initial.found.items ++ flat_map (g.F.ItemForm.wrong l.form) (map tree_of l.items)

abbrev pub decreases-items : goal.decreases-items
decreases-items g l = length l.rest
