-- A tree of the type of a range is a range selector or a subquery.
use Rattle.std.proofs.Common.{◌≡◌, true, Ok, refl}
use Rattle.pr_ast.specs.Tree.{Tree, number, text, select, range, sub, neg, binary, call, aggregate, none, more}
use Rattle.spec_meaning.specs.pr_types.declared.kind.ValueType.TheVariants.{Range}
use Rattle.spec_meaning.specs.pr_types.Typed.{typed}
use Rattle.spec_meaning.proofs.TypesParts.{node_tells}
use Rattle.pr_eval.specs.private.Sizes.{is_range_node}

pub range_node : (t : Tree) → typed t ≡ Ok Range → is_range_node t ≡ true
range_node (range p s d) h = refl
range_node (sub p u d i o) h = refl
range_node (number p v) h = let tells = node_tells (number p v) Range h in absurd cc
range_node (text p u) h = let tells = node_tells (text p u) Range h in absurd cc
range_node (select p s) h = let tells = node_tells (select p s) Range h in absurd cc
range_node (neg p u) h = let tells = node_tells (neg p u) Range h in absurd cc
range_node (binary p o b m l r) h = let tells = node_tells (binary p o b m l r) Range h in absurd cc
range_node (call p f ts) h = let tells = node_tells (call p f ts) Range h in absurd cc
range_node (aggregate p o g ts) h = let tells = node_tells (aggregate p o g ts) Range h in absurd cc
range_node none h = let tells = node_tells none Range h in absurd cc
range_node (more ts u) h = let tells = node_tells (more ts u) Range h in absurd cc
