-- How deep a tree is: how many maps and lists stand in one another at most.
use Rattle.std.specs.Prelude.{ℕ, zero, suc, max}
use Rattle.pr_yaml.specs.Tree.{Tree, text_node, list_node, map_node, Trees, no_trees, tree_then, EntryTrees, no_entries, entry_then}

abbrev mutual
  pub height : Tree → ℕ
  height (text_node line text quoted) = zero
  height (list_node line ts) = suc (trees_height ts)
  height (map_node line es) = suc (entries_height es)

  pub trees_height : Trees → ℕ
  trees_height no_trees = zero
  trees_height (tree_then t ts) = max (height t) (trees_height ts)

  pub entries_height : EntryTrees → ℕ
  entries_height no_entries = zero
  entries_height (entry_then key line value es) = max (height value) (entries_height es)
