use Rattle.std.proofs.Common.{refl, ◌≡◌, ◌+◌, suc, ap, arith}
use Rattle.pr_ast.specs.Tree.{more, none, tree_of}
use Rattle.pr_eval.specs.private.Sizes.{node_count}
use Rattle.pr_eval.proofs.Trees.{aggregate_of, aggregated_valued, counts_no_values, counts_of_one, one_part}
use Rattle.pr_eval.proofs.parts.lemma_is_aggregate.Goals as goal

pub returns-clause-one : goal.returns-clause-one
returns-clause-one c = aggregate_of (tree_of c.args.e.now) c.args.e.now.place c.args.op c.args.by.now (tree_of c.args.inner.now) c.requires

pub returns-clause-part : goal.returns-clause-part
returns-clause-part c = λ whole n. one_part whole n (tree_of c.args.e.now) (tree_of c.args.inner.now) _ _ (aggregate_of (tree_of c.args.e.now) c.args.e.now.place c.args.op c.args.by.now (tree_of c.args.inner.now) c.requires)

pub returns-clause-valued : goal.returns-clause-valued
returns-clause-valued c = λ h. aggregated_valued (tree_of c.args.e.now) c.args.e.now.place c.args.op c.args.by.now (more none (tree_of c.args.inner.now)) c.requires h 0 (tree_of c.args.inner.now) refl

pub returns-clause-count : goal.returns-clause-count
returns-clause-count c = λ n m. counts_of_one n m (tree_of c.args.e.now) (tree_of c.args.inner.now) _ (aggregate_of (tree_of c.args.e.now) c.args.e.now.place c.args.op c.args.by.now (tree_of c.args.inner.now) c.requires)

pub returns-clause-op : goal.returns-clause-op
returns-clause-op c = counts_no_values (tree_of c.args.e.now) c.args.e.now.place c.args.op c.args.by.now (tree_of c.args.inner.now) c.requires

pub returns-clause-smaller : goal.returns-clause-smaller
returns-clause-smaller c =
    let is : node_count (tree_of c.args.e.now) ≡ suc (suc (0 + node_count (tree_of c.args.inner.now))) = ap node_count c.requires in
    omega (arith, is)
