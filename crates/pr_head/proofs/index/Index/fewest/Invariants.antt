use Rattle.std.proofs.Common.{List}
use Rattle.pr_labels.specs.declared.pair.Pair.{Pair}
use Rattle.pr_head.specs.private.Index.{IsEnough, IsIndexed}
use Rattle.pr_head.proofs.index.Index.fewest.Given as goal

-- the fewest so far are enough
abbrev pub invariant-loop-label : goal.invariant-loop-label
invariant-loop-label l = (sets : List (List Pair)) → IsIndexed l.self.all l.self.by_label sets → IsEnough l.equal sets l.fewest
