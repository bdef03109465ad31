use Rattle.std.proofs.Common.{◌≡◌, suc, ap, arith}
use Rattle.pr_ast.specs.Tree.{tree_of}
use Rattle.pr_eval.specs.private.Sizes.{node_count}
use Rattle.pr_eval.proofs.Trees.{counts_of_one, neg_valued, neg_of, one_part}
use Rattle.pr_eval.proofs.parts.lemma_is_neg.Goals as goal

pub returns-clause-one : goal.returns-clause-one
returns-clause-one c = neg_of (tree_of c.args.e.now) c.args.e.now.place (tree_of c.args.inner.now) c.requires

pub returns-clause-part : goal.returns-clause-part
returns-clause-part c = λ whole n. one_part whole n (tree_of c.args.e.now) (tree_of c.args.inner.now) _ _ (neg_of (tree_of c.args.e.now) c.args.e.now.place (tree_of c.args.inner.now) c.requires)

pub returns-clause-valued : goal.returns-clause-valued
returns-clause-valued c = neg_valued (tree_of c.args.e.now) c.args.e.now.place (tree_of c.args.inner.now) c.requires

pub returns-clause-count : goal.returns-clause-count
returns-clause-count c = λ n m. counts_of_one n m (tree_of c.args.e.now) (tree_of c.args.inner.now) _ (neg_of (tree_of c.args.e.now) c.args.e.now.place (tree_of c.args.inner.now) c.requires)

pub returns-clause-smaller : goal.returns-clause-smaller
returns-clause-smaller c =
    let is : node_count (tree_of c.args.e.now) ≡ suc (node_count (tree_of c.args.inner.now)) = ap node_count c.requires in
    omega (arith, is)
