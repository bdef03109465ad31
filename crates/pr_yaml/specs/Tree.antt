-- The trees of YAML texts, with the lines of their nodes.
use Rattle.std.specs.Prelude.{ℕ, Bool, false, ◌||◌, codes, List, [], ◌∷◌}
use Rattle.std.specs.Str.{bytes_eq}
use Rattle.pr_yaml.specs.declared.node.Node.{Node}
use Rattle.pr_yaml.specs.declared.node.MapEntry.{MapEntry}
use Rattle.pr_yaml.specs.declared.node.NodeKind.TheFolds.{fold-Node, fold-MapEntry}
use Rattle.pr_yaml.specs.declared.node.NodeKind.TheOpen.{NodeKind-F, Node-F, MapEntry-F, Text, List as ListKind, Map as MapKind}

mutual
  pub data Tree : Type 0 where
    -- a scalar: its line, its text, and whether it is quoted or a block scalar
    text_node : ℕ → List ℕ → Bool → Tree
    -- a list and a map, with their lines
    list_node : ℕ → Trees → Tree
    map_node : ℕ → EntryTrees → Tree

  pub data Trees : Type 0 where
    no_trees : Trees
    tree_then : Tree → Trees → Trees

  -- a key, its line and its value, and the entries after it
  pub data EntryTrees : Type 0 where
    no_entries : EntryTrees
    entry_then : List ℕ → ℕ → Tree → EntryTrees → EntryTrees

-- an entry of a map: its key, the line of the key, and its value
pub record EntryTree : Type 0 where
  pub key : List ℕ
  pub line : ℕ
  pub value : Tree

-- the items of a list and the entries of a map, as lists
abbrev pub trees_from : List Tree → Trees
trees_from [] = no_trees
trees_from (t ∷ ts) = tree_then t (trees_from ts)

abbrev pub entries_from : List EntryTree → EntryTrees
entries_from [] = no_entries
entries_from (e ∷ es) = entry_then e.key e.line e.value (entries_from es)

abbrev pub trees_in : Trees → List Tree
trees_in no_trees = []
trees_in (tree_then t ts) = t ∷ trees_in ts

abbrev pub entries_in : EntryTrees → List EntryTree
entries_in no_entries = []
entries_in (entry_then key line value es) = record { key = key; line = line; value = value } ∷ entries_in es

-- An absent value is the text of no byte that is not quoted, on the line of its dash or key.
abbrev pub absent_node : ℕ → Tree
absent_node line = text_node line [] false

-- Whether a node says that there is no value: it is no quoted text, and it is empty, `~` or `null`.
unfoldable pub is_absent_text : List ℕ → Bool
is_absent_text text = bytes_eq text [] || (bytes_eq text (codes "~") || bytes_eq text (codes "null"))

abbrev pub is_absent : Tree → Bool
is_absent (text_node line text false) = is_absent_text text
is_absent _ = false

-- what the code's nodes are
abbrev pub kind_step : NodeKind-F (ℕ → Tree) EntryTree Tree → ℕ → Tree
kind_step (Text text quoted) line = text_node line text quoted
kind_step (ListKind items) line = list_node line (trees_from items.items)
kind_step (MapKind entries) line = map_node line (entries_from entries.items)

abbrev pub entry_step : MapEntry-F (ℕ → Tree) EntryTree Tree → EntryTree
entry_step e = record { key = e.key; line = e.line; value = e.value }

abbrev pub node_step : Node-F (ℕ → Tree) EntryTree Tree → Tree
node_step n = n.kind n.line

-- the tree of a node, and of an entry
abbrev pub tree_of : Node → Tree
tree_of = fold-Node (ℕ → Tree) EntryTree Tree kind_step entry_step node_step

abbrev pub entry_tree_of : MapEntry → EntryTree
entry_tree_of = fold-MapEntry (ℕ → Tree) EntryTree Tree kind_step entry_step node_step
