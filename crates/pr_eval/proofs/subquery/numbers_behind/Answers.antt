use Rattle.std.proofs.Common.{arith}
use Rattle.pr_ast.specs.Tree.{tree_of}
use Rattle.pr_eval.proofs.Subqueries.{numbers_behind, patterns_fit, ranges_fit, selectors_fit}
use Rattle.pr_eval.proofs.subquery.numbers_behind.Goals as goal

pub overflow_add-result : goal.overflow_add-result
overflow_add-result c =
    let fit = selectors_fit (tree_of c.args.checked.now) (tree_of c.args.e.now) c.args.at c.requires.part c.requires.few c.requires.few_patterns c.counts_in-own.result c.counts_in-own.ensures (omega arith) in
    omega (arith, fit)

pub overflow_add-result-2 : goal.overflow_add-result-2
overflow_add-result-2 c =
    let fit = ranges_fit (tree_of c.args.checked.now) (tree_of c.args.e.now) c.args.at c.requires.part c.requires.few c.requires.few_patterns c.counts_in-own.result c.counts_in-own.ensures in
    omega (arith, fit)

pub overflow_add-result-3 : goal.overflow_add-result-3
overflow_add-result-3 c =
    let fit = patterns_fit (tree_of c.args.checked.now) (tree_of c.args.e.now) c.args.at c.requires.part c.requires.few c.requires.few_patterns c.counts_in-own.result c.counts_in-own.ensures (omega arith) in
    omega (arith, fit)

pub returns : goal.returns
returns c = numbers_behind (tree_of c.args.checked.now) (tree_of c.args.e.now) c.args.at c.requires.part c.requires.few c.requires.few_patterns c.counts_in-own.result c.counts_in-own.ensures
