use Rattle.std.proofs.Common.{◌≤◌, length}
use Rattle.std.specs.Str.{IsUtf8}
use Rattle.pr_tmpl.specs.private.Pipes.{CallsSoFar}
use Rattle.pr_tmpl.proofs.pipe.calls_in.Given as goal

abbrev pub invariant-loop-at : goal.invariant-loop-at
invariant-loop-at l = record { so_far : CallsSoFar l.fn.before l.text l.calls l.rest; shorter : length l.rest ≤ length l.text; text : IsUtf8 l.rest }

abbrev pub decreases-loop-at : goal.decreases-loop-at
decreases-loop-at l = length l.rest
