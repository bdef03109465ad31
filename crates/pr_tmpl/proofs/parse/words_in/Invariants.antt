use Rattle.std.proofs.Common.{length}
use Rattle.pr_tmpl.specs.private.Parsed.{IsWords}
use Rattle.pr_tmpl.proofs.parse.words_in.Given as goal

abbrev pub invariant-loop-pipe : goal.invariant-loop-pipe
invariant-loop-pipe l = IsWords l.text l.rest

abbrev pub decreases-loop-pipe : goal.decreases-loop-pipe
decreases-loop-pipe l = length l.rest
