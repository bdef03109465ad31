use Rattle.std.proofs.Common.{◌≡◌, take}
use Rattle.pr_ast.specs.Tree.{trees_of}
use Rattle.pr_types.specs.private.Numbers.{counts_in}
use Rattle.pr_types.proofs.counting.+counting.Given as goal

abbrev pub invariant-counts_of-loop-arg : goal.invariant-counts_of-loop-arg
invariant-counts_of-loop-arg l = l.found ≡ counts_in (trees_of (take l.arg-index l.args))
