use Rattle.std.proofs.Common.{List, take}
use Rattle.spec_history.specs.declared.entry.Entry.{Entry}
use Rattle.pr_head.specs.private.Holds.{Holds}
use Rattle.spec_history.specs.Puts.{markers}
use Rattle.pr_head.specs.private.Intake.{HasTaken}
use Rattle.pr_head.proofs.intake.untold.append_markers.Given as goal

-- markers for the first ones were taken
abbrev pub invariant-loop-labels : goal.invariant-loop-labels
invariant-loop-labels l = (history : List Entry) → Holds l.initial.head history → HasTaken l.initial.head l.head history (markers l.now (take l.labels-index l.old) l.new.keys)
