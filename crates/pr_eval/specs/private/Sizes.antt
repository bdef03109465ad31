-- How many nodes a tree has, and which trees are ranges.
use Rattle.std.specs.Prelude.{ℕ, suc, ◌+◌, Bool, true, false}
use Rattle.pr_ast.specs.Tree.{Tree, number, text, select, range, sub, neg, binary, call, aggregate, none, more}

-- A part has fewer nodes than the whole, which is why an evaluation ends.
abbrev pub node_count : Tree → ℕ
node_count (number p v) = 0
node_count (text p u) = 0
node_count (select p s) = 0
node_count (range p s d) = 0
node_count (sub p t d i o) = suc (node_count t)
node_count (neg p t) = suc (node_count t)
node_count (binary p o b m l r) = suc (node_count l + node_count r)
node_count (call p f ts) = suc (node_count ts)
node_count (aggregate p o g ts) = suc (node_count ts)
node_count none = 0
node_count (more ts t) = suc (node_count ts + node_count t)

-- a range selector, or a subquery
abbrev pub is_range_node : Tree → Bool
is_range_node (range p s d) = true
is_range_node (sub p t d i o) = true
is_range_node _ = false
