use Rattle.std.proofs.Common.{◌+◌, take, arith}
use Rattle.pr_ast.specs.Tree.{tree_of, trees_of}
use Rattle.pr_ast.proofs.Args.{trees_of-next}
use Rattle.pr_group.proofs.Sourcing.{one_more}
use Rattle.pr_group.proofs.continued.gathering.+sources.Goals as goal

pub push_all-loop-arg-preserved : goal.push_all-loop-arg-preserved
push_all-loop-arg-preserved t c =
    let next = trees_of-next c.loop-arg.arg-index (c.loop-arg.arg-index + 1) c.args.args.now c.arg-item.result (omega arith) c.loop-arg-test.true c.arg-item.is in
    one_more c.args.func (trees_of (take (c.loop-arg.arg-index + 1) c.args.args.now)) (trees_of (take c.loop-arg.arg-index c.args.args.now)) (tree_of c.arg-item.result) c.args.out.now.items c.loop-arg.out.items c.push_sources.new.out.items
    next c.loop-arg.invariant c.in_ok-push_sources.ensures
