use Rattle.std.proofs.Common.{length}
use Rattle.pr_expo.specs.declared.expo_line.place.LineCursor.TheVariants.{BeforeLabel}
use Rattle.pr_expo.specs.private.Runs.{LeadsTo}
use Rattle.pr_expo.proofs.expo_line.plain.plain_labels.Given as goal

-- the labels so far lead to where the next may begin
abbrev pub invariant-loop-name : goal.invariant-loop-name
invariant-loop-name l = LeadsTo (BeforeLabel l.fn.head) l.fn.text (BeforeLabel l.head) l.rest

abbrev pub decreases-loop-name : goal.decreases-loop-name
decreases-loop-name l = length l.rest
