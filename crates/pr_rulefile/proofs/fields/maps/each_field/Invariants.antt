use Rattle.std.proofs.Common.{◌≡◌, ◌++◌, map, length}
use Rattle.std.specs.List.{flat_map}
use Rattle.pr_yaml.specs.Tree.{entry_tree_of}
use Rattle.pr_rulefile.specs.Maps.{form_problems}
use Rattle.pr_rulefile.proofs.fields.maps.each_field.Given as goal

-- the problems so far, and those of the fields that are left, are all
abbrev pub invariant-fields : goal.invariant-fields
invariant-fields g l =
    l.found.items ++ flat_map (form_problems (g.F.MapForm.fields l.form)) (map entry_tree_of l.rest)
    ≡ l.initial.found.items ++ flat_map (form_problems (g.F.MapForm.fields l.form)) (map entry_tree_of l.entries)

abbrev pub decreases-fields : goal.decreases-fields
decreases-fields g l = length l.rest
