-- The height of a tree: how many nodes the longest path from its root has.
use Rattle.std.specs.Prelude.{ℕ, ◌+◌, max}
use Rattle.pr_ast.specs.Tree.{Tree, number, text, select, range, sub, neg, binary, call, aggregate, none, more}

abbrev pub tree_height : Tree → ℕ
tree_height (number p v) = 1
tree_height (text p t) = 1
tree_height (select p s) = 1
tree_height (range p s span) = 1
tree_height (sub p t span step offset) = 1 + tree_height t
tree_height (neg p t) = 1 + tree_height t
tree_height (binary p o b m l r) = 1 + max (tree_height l) (tree_height r)
tree_height (call p f ts) = 1 + tree_height ts
tree_height (aggregate p o g ts) = 1 + tree_height ts
tree_height none = 0
tree_height (more ts t) = max (tree_height ts) (tree_height t)
