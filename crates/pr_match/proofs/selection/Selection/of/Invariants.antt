use Rattle.std.proofs.Common.{◌≡◌, ◌++◌, drop}
use Rattle.pr_match.proofs.selection.Selection.of.Given as goal

abbrev pub invariant-loop-matcher : goal.invariant-loop-matcher
invariant-loop-matcher l = l.searchers.items ++ drop l.matcher-index l.matchers ≡ l.matchers
