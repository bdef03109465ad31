use Rattle.std.proofs.Common.{◌≤◌, length}
use Rattle.std.specs.Prelude.{string_bytes}
use Rattle.std.specs.Str.{IsUtf8}
use Rattle.pr_tmpl.specs.declared.quoted.Within.TheVariants.{After}
use Rattle.pr_tmpl.specs.private.Quotes.{ReachesAsOwn}
use Rattle.pr_tmpl.proofs.quoted.after_verb_in.Given as goal

abbrev pub invariant-loop-words : goal.invariant-loop-words
invariant-loop-words l = record { reaches : ReachesAsOwn After l.text (string_bytes l.words) l.rest; shorter : length l.rest ≤ length l.text; text : IsUtf8 l.rest }

abbrev pub decreases-loop-words : goal.decreases-loop-words
decreases-loop-words l = length l.rest
