use Rattle.std.proofs.Common.{◌≡◌, ◌++◌, [], take, drop}
use Rattle.spec_meaning.specs.Absence.{told_pairs}
use Rattle.pr_eval.proofs.values.absence.told_pairs.Given as goal

-- the pairs so far, and those to come
abbrev pub invariant-loop-i : goal.invariant-loop-i
invariant-loop-i l = l.pairs.items ++ told_pairs (take l.i l.matchers) (drop l.i l.matchers) ≡ told_pairs [] l.matchers
