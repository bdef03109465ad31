use Rattle.std.proofs.Common.{◌≡◌, length}
use Rattle.std.specs.Str.{IsUtf8, chars}
use Rattle.pr_expo.specs.declared.expo_line.place.LineCursor.TheVariants.{Start}
use Rattle.pr_expo.specs.Line.{way}
use Rattle.pr_expo.proofs.expo_line.line.way_of.Given as goal

-- where the characters left lead from here, the whole text leads from its start
abbrev pub invariant-loop-c : goal.invariant-loop-c
invariant-loop-c l = IsUtf8 l.rest × (way l.place (chars l.rest) ≡ way Start (chars l.fn.text))

abbrev pub decreases-loop-c : goal.decreases-loop-c
decreases-loop-c l = length l.rest
