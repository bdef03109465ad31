use Rattle.std.proofs.Common.{refl, ◌≡◌, ◌+◌, suc, ap, arith}
use Rattle.pr_ast.specs.Tree.{more, none, tree_of}
use Rattle.pr_eval.specs.private.Sizes.{node_count}
use Rattle.pr_eval.proofs.Trees.{aggregate_by_of, aggregated_valued, counted_label, counts_of_two, first_part, second_part}
use Rattle.pr_eval.proofs.parts.lemma_is_aggregate_by.Goals as goal

pub returns-clause-two : goal.returns-clause-two
returns-clause-two c = aggregate_by_of (tree_of c.args.e.now) c.args.e.now.place c.args.op c.args.by.now (tree_of c.args.param.now) (tree_of c.args.inner.now) c.requires

pub returns-clause-param_part : goal.returns-clause-param_part
returns-clause-param_part c = λ whole n. first_part whole n (tree_of c.args.e.now) (tree_of c.args.param.now) (tree_of c.args.inner.now) (aggregate_by_of (tree_of c.args.e.now) c.args.e.now.place c.args.op c.args.by.now (tree_of c.args.param.now) (tree_of c.args.inner.now) c.requires)

pub returns-clause-inner_part : goal.returns-clause-inner_part
returns-clause-inner_part c = λ whole n m. second_part whole n m (tree_of c.args.e.now) (tree_of c.args.param.now) (tree_of c.args.inner.now) (aggregate_by_of (tree_of c.args.e.now) c.args.e.now.place c.args.op c.args.by.now (tree_of c.args.param.now) (tree_of c.args.inner.now) c.requires)

pub returns-clause-param_valued : goal.returns-clause-param_valued
returns-clause-param_valued c = λ h. aggregated_valued (tree_of c.args.e.now) c.args.e.now.place c.args.op c.args.by.now (more (more none (tree_of c.args.param.now)) (tree_of c.args.inner.now)) c.requires h 0 (tree_of c.args.param.now) refl

pub returns-clause-inner_valued : goal.returns-clause-inner_valued
returns-clause-inner_valued c = λ h. aggregated_valued (tree_of c.args.e.now) c.args.e.now.place c.args.op c.args.by.now (more (more none (tree_of c.args.param.now)) (tree_of c.args.inner.now)) c.requires h 1 (tree_of c.args.inner.now) refl

pub returns-clause-count : goal.returns-clause-count
returns-clause-count c = λ n m k. counts_of_two n m k (tree_of c.args.e.now) (tree_of c.args.param.now) (tree_of c.args.inner.now) (aggregate_by_of (tree_of c.args.e.now) c.args.e.now.place c.args.op c.args.by.now (tree_of c.args.param.now) (tree_of c.args.inner.now) c.requires)

pub returns-clause-label : goal.returns-clause-label
returns-clause-label c = counted_label (tree_of c.args.e.now) c.args.e.now.place c.args.op c.args.by.now (more (more none (tree_of c.args.param.now)) (tree_of c.args.inner.now)) c.requires

pub returns-clause-param_smaller : goal.returns-clause-param_smaller
returns-clause-param_smaller c =
    let is : node_count (tree_of c.args.e.now) ≡ suc (suc (suc (0 + node_count (tree_of c.args.param.now)) + node_count (tree_of c.args.inner.now))) = ap node_count c.requires in
    omega (arith, is)

pub returns-clause-inner_smaller : goal.returns-clause-inner_smaller
returns-clause-inner_smaller c =
    let is : node_count (tree_of c.args.e.now) ≡ suc (suc (suc (0 + node_count (tree_of c.args.param.now)) + node_count (tree_of c.args.inner.now))) = ap node_count c.requires in
    omega (arith, is)
