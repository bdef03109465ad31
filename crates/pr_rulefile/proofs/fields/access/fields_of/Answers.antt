use Rattle.std.proofs.Common.{◌≡◌, map, rules, refl}
use Rattle.pr_yaml.specs.Tree.{tree_of, entry_tree_of, map_node, entries_from}
use Rattle.pr_yaml.specs.declared.node.NodeKind.TheFolds.{the_lemmas}
use Rattle.pr_rulefile.proofs.FieldsTrees.{entries_again}
use Rattle.pr_rulefile.proofs.fields.access.fields_of.Goals as goal

pub returns-in-Map : goal.returns-in-Map
returns-in-Map c =
    let e : tree_of c.args.node.now ≡ map_node c.args.node.now.line (entries_from (map entry_tree_of c.in-Map.entries.items)) = rw c.in-Map.is (search (rules, the_lemmas)) in
    rw (e, entries_again, c.as_slice.ensures.value) refl
