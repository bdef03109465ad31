-- Maps whose keys are distinct.
use Rattle.std.specs.Prelude.{ℕ, Bool, true, ◌&&◌, not, List, [], ◌∷◌, ◌++◌}
use Rattle.pr_words.specs.Names.{is_among}
use Rattle.pr_yaml.specs.Tree.{Tree, text_node, list_node, map_node, Trees, no_trees, tree_then, EntryTrees, no_entries, entry_then}

-- In no map of the tree a key stands among those before it.
abbrev mutual
  pub has_distinct_keys : Tree → Bool
  has_distinct_keys (text_node line text quoted) = true
  has_distinct_keys (list_node line ts) = have_distinct_keys ts
  has_distinct_keys (map_node line es) = are_distinct [] es

  pub have_distinct_keys : Trees → Bool
  have_distinct_keys no_trees = true
  have_distinct_keys (tree_then t ts) = has_distinct_keys t && have_distinct_keys ts

  -- entries after others with these keys
  pub are_distinct : List (List ℕ) → EntryTrees → Bool
  are_distinct keys no_entries = true
  are_distinct keys (entry_then key line value es) =
      not (is_among key keys) && (has_distinct_keys value && are_distinct (keys ++ key ∷ []) es)
