use Rattle.std.proofs.Common.{◌≡◌, ◌++◌, drop}
use Rattle.std.specs.List.{filter_map}
use Rattle.pr_eval.specs.private.Equalities.{asked_pair}
use Rattle.pr_eval.proofs.range_calls.choose.asked_pairs.Given as goal

abbrev pub invariant-loop-matcher : goal.invariant-loop-matcher
invariant-loop-matcher l = l.pairs.items ++ filter_map asked_pair (drop l.matcher-index l.matcher-items) ≡ l.initial.pairs.items ++ filter_map asked_pair l.matcher-items
