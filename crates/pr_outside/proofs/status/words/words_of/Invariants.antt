use Rattle.std.proofs.Common.{◌-◌, ◌^◌, length, IfSome}
use Rattle.pr_outside.proofs.WordTexts.{AreTaken}
use Rattle.pr_outside.proofs.status.words.words_of.Given as goal

-- the words so far, and those to come
abbrev pub invariant-taking : goal.invariant-taking
invariant-taking g l = IfSome (g.L.CommandLine.words l.line) (AreTaken l.words.items)

abbrev pub decreases-taking : goal.decreases-taking
decreases-taking g l = 2 ^ 64 - length l.words.items
