use Rattle.std.proofs.Common.{◌+◌, take, arith}
use Rattle.pr_ast.specs.Tree.{tree_of, trees_of}
use Rattle.pr_ast.proofs.Args.{trees_of-next}
use Rattle.pr_types.proofs.CountLemmas.{counts_more}
use Rattle.pr_types.proofs.counting.+counting.Goals as goal

pub counts_of-loop-arg-preserved : goal.counts_of-loop-arg-preserved
counts_of-loop-arg-preserved t c =
    let es = c.args.args.now in
    let i = c.loop-arg.arg-index in
    let e = c.arg-item.result in
    let next = trees_of-next i (i + 1) es e (omega arith) c.loop-arg-test.true c.arg-item.is in
    counts_more (trees_of (take (i + 1) es)) (trees_of (take i es)) (tree_of e) c.loop-arg.found c.counts_in.result c.counts_together-found.result next c.loop-arg.invariant c.counts_in.ensures c.counts_together-found.ensures
