-- Lists of trees, and of entries, there and back.
use Rattle.std.proofs.Common.{◌≡◌, true, List, [], ◌∷◌, refl, ap}
use Rattle.pr_yaml.specs.Tree.{Tree, text_node, list_node, map_node, EntryTree, trees_in, trees_from, entries_in, entries_from, is_absent}
use Rattle.pr_rulefile.specs.Nodes.{items_in, fields_in}

pub trees_again : (ts : List Tree) → trees_in (trees_from ts) ≡ ts
trees_again [] = refl
trees_again (t ∷ ts) = ap (λ us. t ∷ us) (trees_again ts)

pub entries_again : (es : List EntryTree) → entries_in (entries_from es) ≡ es
entries_again [] = refl
entries_again (e ∷ es) = ap (λ us. e ∷ us) (entries_again es)

-- an absent value has neither items nor fields
pub no_items : (t : Tree) → is_absent t ≡ true → items_in t ≡ []
no_items (text_node line text quoted) h = refl
no_items (list_node line ts) h = cc
no_items (map_node line es) h = refl

pub no_fields : (t : Tree) → is_absent t ≡ true → fields_in t ≡ []
no_fields (text_node line text quoted) h = refl
no_fields (list_node line ts) h = refl
no_fields (map_node line es) h = cc
