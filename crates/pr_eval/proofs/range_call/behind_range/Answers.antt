use Rattle.std.proofs.Common.{◌<◌, length, arith}
use Rattle.pr_ast.specs.Tree.{tree_of}
use Rattle.spec_meaning.specs.pr_types.private.Built.{tests_in}
use Rattle.pr_eval.proofs.range_call.behind_range.Goals as goal

pub overflow_add-result : goal.overflow_add-result
overflow_add-result c =
    let within : c.args.at.selectors < length (tests_in (tree_of c.args.scope.now.checked.now)) = c.lemma_is_range.ensures.within (tree_of c.args.scope.now.checked.now) c.args.at c.requires.part in
    omega (arith, within, c.requires.few)

pub overflow_add-result-2 : goal.overflow_add-result-2
overflow_add-result-2 c =
    let within : c.args.at.ranges < length (tests_in (tree_of c.args.scope.now.checked.now)) = c.lemma_is_range.ensures.ranges (tree_of c.args.scope.now.checked.now) c.args.at c.requires.part in
    omega (arith, within, c.requires.few)
