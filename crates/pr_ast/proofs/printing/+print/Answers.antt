use Rattle.std.proofs.Common.{◌+◌, take, arith}
use Rattle.pr_ast.specs.Tree.{tree_of, trees_of}
use Rattle.pr_ast.specs.private.Print.{comma_unless}
use Rattle.pr_ast.proofs.printing.+print.Goals as goal
use Rattle.pr_ast.proofs.Args.{trees_of-next, args_text, comma_after}

pub push_args-loop-arg-preserved : goal.push_args-loop-arg-preserved
push_args-loop-arg-preserved t c =
    let now = trees_of (take (c.loop-arg.arg-index + 1) c.args.args.now) in
    let before = trees_of (take c.loop-arg.arg-index c.args.args.now) in
    let next = trees_of-next c.loop-arg.arg-index (c.loop-arg.arg-index + 1) c.args.args.now c.arg-item.result (omega arith) c.loop-arg-test.true c.arg-item.is in
    record {
      text = args_text now before (tree_of c.arg-item.result) c.args.out.now.items c.loop-arg.out.items c.push_comma.new.out.items c.print.new.out.items (comma_unless c.loop-arg.first) next
          c.loop-arg.invariant.comma c.loop-arg.invariant.text c.in_ok-push_comma.ensures c.in_ok-print.ensures;
      comma = comma_after now before (tree_of c.arg-item.result) next;
    }
