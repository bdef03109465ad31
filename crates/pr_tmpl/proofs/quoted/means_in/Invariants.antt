use Rattle.std.proofs.Common.{◌≤◌, ◌++◌, length}
use Rattle.std.specs.Str.{IsUtf8}
use Rattle.pr_tmpl.specs.private.Quotes.{ReachesAsOwn}
use Rattle.pr_tmpl.proofs.quoted.means_in.Given as goal

abbrev pub invariant-loop-bytes : goal.invariant-loop-bytes
invariant-loop-bytes l = record { reaches : ReachesAsOwn l.within l.text l.bytes.items l.rest; shorter : length l.rest ≤ length l.text; text : IsUtf8 (l.bytes.items ++ l.rest) }

abbrev pub decreases-loop-bytes : goal.decreases-loop-bytes
decreases-loop-bytes l = length l.rest
