use Rattle.std.proofs.Common.{List, take}
use Rattle.pr_labels.specs.declared.pair.Pair.{Pair}
use Rattle.spec_history.specs.declared.entry.Entry.{Entry}
use Rattle.spec_history.specs.Admission.{put_all}
use Rattle.spec_history.specs.Puts.{markers}
use Rattle.pr_head.proofs.Markers.{markers_parts}
use Rattle.pr_head.proofs.IntakeIntake.{next_taken}
use Rattle.pr_head.proofs.intake.untold.append_markers.Goals as goal

pub loop-labels-preserved : goal.loop-labels-preserved
loop-labels-preserved c = λ history h.
    let g : List (List Pair) → List Entry = λ old. markers c.args.now old c.args.new.now.keys in
    let i = c.loop-labels.labels-index in
    let p = c.loop-labels.invariant history h in
    next_taken g (markers_parts c.args.now c.args.new.now.keys) c.args.old.now i c.labels-item.result c.loop-labels-test.true c.labels-item.is
    c.args.head.now c.loop-labels.head c.append_marker.new.head history p
    (c.in_ok-append_marker.ensures (put_all history (g (take i c.args.old.now))) p.holds)
