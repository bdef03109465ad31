use Rattle.std.proofs.Common.{List, take}
use Rattle.spec_history.specs.declared.entry.Entry.{Entry}
use Rattle.pr_head.specs.private.Holds.{Holds}
use Rattle.spec_history.specs.Puts.{markers}
use Rattle.pr_head.specs.private.Intake.{Puts}
use Rattle.pr_head.proofs.intake.marking.put_markers.Given as goal

-- markers for the first ones were put
abbrev pub invariant-loop-labels : goal.invariant-loop-labels
invariant-loop-labels l = (history : List Entry) → Holds l.initial.head history
    → Puts l.initial.head l.head l.initial.rows.items l.rows.items history (markers l.now (take l.labels-index l.old) l.new.keys)
