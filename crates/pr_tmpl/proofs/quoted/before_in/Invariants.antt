use Rattle.std.proofs.Common.{◌≤◌, length}
use Rattle.std.specs.Prelude.{string_bytes}
use Rattle.std.specs.Str.{IsUtf8}
use Rattle.pr_tmpl.specs.declared.quoted.Within.TheVariants.{Before}
use Rattle.pr_tmpl.specs.private.Quotes.{ReachesAsOwn}
use Rattle.pr_tmpl.proofs.quoted.before_in.Given as goal

abbrev pub invariant-loop-before : goal.invariant-loop-before
invariant-loop-before l = record { reaches : ReachesAsOwn Before l.text (string_bytes l.before) l.rest; shorter : length l.rest ≤ length l.text; text : IsUtf8 l.rest }

abbrev pub decreases-loop-before : goal.decreases-loop-before
decreases-loop-before l = length l.rest
