use Rattle.std.proofs.Common.{◌≡◌, map, rules, refl}
use Rattle.pr_yaml.specs.Tree.{tree_of, list_node, trees_from}
use Rattle.pr_yaml.specs.declared.node.NodeKind.TheFolds.{the_lemmas}
use Rattle.pr_rulefile.proofs.FieldsTrees.{trees_again}
use Rattle.pr_rulefile.proofs.fields.access.items_of.Goals as goal

pub returns-in-List : goal.returns-in-List
returns-in-List c =
    let e : tree_of c.args.node.now ≡ list_node c.args.node.now.line (trees_from (map tree_of c.in-List.items.items)) = rw c.in-List.is (search (rules, the_lemmas)) in
    rw (e, trees_again, c.as_slice.ensures.value) refl
