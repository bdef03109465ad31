use Rattle.std.proofs.Common.{◌≡◌, suc, ap, arith}
use Rattle.pr_eval.specs.private.Sizes.{node_count}
use Rattle.pr_ast.specs.Tree.{tree_of}
use Rattle.pr_eval.proofs.Trees.{sub_valued}
use Rattle.pr_eval.proofs.parts.lemma_is_sub.Goals as goal

pub returns-clause-valued : goal.returns-clause-valued
returns-clause-valued c = sub_valued (tree_of c.args.e.now) c.args.e.now.place (tree_of c.args.inner.now) c.args.span c.args.step c.args.offset c.requires

pub returns-clause-smaller : goal.returns-clause-smaller
returns-clause-smaller c =
    let is : node_count (tree_of c.args.e.now) ≡ suc (node_count (tree_of c.args.inner.now)) = ap node_count c.requires in
    omega (arith, is)
