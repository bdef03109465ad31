use Rattle.std.proofs.Common.{◌≡◌, suc, ap, arith}
use Rattle.pr_ast.specs.Tree.{tree_of, trees_of}
use Rattle.pr_eval.specs.private.Sizes.{node_count}
use Rattle.pr_eval.proofs.Plainly.{args_valued, joined_label, own_pattern, replaced_label}
use Rattle.pr_eval.proofs.Trees.{call_of, counts_of_own, one_part}
use Rattle.pr_eval.proofs.parts.lemma_is_call.Goals as goal

pub returns-clause-one : goal.returns-clause-one
returns-clause-one c = call_of (tree_of c.args.e.now) c.args.e.now.place c.args.func (trees_of c.args.args.now) c.requires

pub returns-clause-part : goal.returns-clause-part
returns-clause-part c = λ whole n. one_part whole n (tree_of c.args.e.now) (trees_of c.args.args.now) _ _ (call_of (tree_of c.args.e.now) c.args.e.now.place c.args.func (trees_of c.args.args.now) c.requires)

pub returns-clause-valued : goal.returns-clause-valued
returns-clause-valued c = args_valued (tree_of c.args.e.now) c.args.e.now.place c.args.func c.args.args.now c.requires

pub returns-clause-count : goal.returns-clause-count
returns-clause-count c = λ n m k. counts_of_own n m k (tree_of c.args.e.now) (trees_of c.args.args.now) _ _ (call_of (tree_of c.args.e.now) c.args.e.now.place c.args.func (trees_of c.args.args.now) c.requires)

pub returns-clause-replaced : goal.returns-clause-replaced
returns-clause-replaced c = replaced_label (tree_of c.args.e.now) c.args.e.now.place c.args.func c.args.args.now c.requires

pub returns-clause-joined : goal.returns-clause-joined
returns-clause-joined c = joined_label (tree_of c.args.e.now) c.args.e.now.place c.args.func c.args.args.now c.requires

pub returns-clause-pattern : goal.returns-clause-pattern
returns-clause-pattern c = own_pattern (tree_of c.args.e.now) c.args.e.now.place c.args.func c.args.args.now c.requires

pub returns-clause-smaller : goal.returns-clause-smaller
returns-clause-smaller c =
    let is : node_count (tree_of c.args.e.now) ≡ suc (node_count (trees_of c.args.args.now)) = ap node_count c.requires in
    omega (arith, is)
