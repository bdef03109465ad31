use Rattle.std.proofs.Common.{List, take}
use Rattle.pr_labels.specs.declared.pair.Pair.{Pair}
use Rattle.spec_history.specs.declared.entry.Entry.{Entry}
use Rattle.spec_history.specs.Admission.{put_all}
use Rattle.spec_history.specs.Puts.{markers}
use Rattle.pr_head.proofs.Markers.{markers_parts}
use Rattle.pr_head.proofs.IntakeIntake.{front_if, next_front, next_puts}
use Rattle.pr_head.proofs.intake.marking.put_markers.Goals as goal

pub returns-in_err-put_marker-clause-front : goal.returns-in_err-put_marker-clause-front
returns-in_err-put_marker-clause-front c = λ history h.
    let g : List (List Pair) → List Entry = λ old. markers c.args.now old c.args.new.now.keys in
    let i = c.loop-labels.labels-index in
    let p = c.loop-labels.invariant history h in
    front_if c.from_residual.result c.args.head.now c.put_marker.new.head history (g c.args.old.now)
    (next_front g (markers_parts c.args.now c.args.new.now.keys) c.args.old.now i c.labels-item.result c.loop-labels-test.true c.labels-item.is
    c.args.head.now c.loop-labels.head c.put_marker.new.head history p.taken
    (c.in_err-put_marker.ensures.front (put_all history (g (take i c.args.old.now))) p.taken.holds))

pub loop-labels-preserved : goal.loop-labels-preserved
loop-labels-preserved c = λ history h.
    let g : List (List Pair) → List Entry = λ old. markers c.args.now old c.args.new.now.keys in
    let i = c.loop-labels.labels-index in
    let p = c.loop-labels.invariant history h in
    next_puts g (markers_parts c.args.now c.args.new.now.keys) c.args.old.now i c.labels-item.result c.loop-labels-test.true c.labels-item.is
    c.args.head.now c.loop-labels.head c.put_marker.new.head c.args.rows.now.items c.loop-labels.rows.items c.put_marker.new.rows.items history p
    (c.in_ok-put_marker.ensures.puts (put_all history (g (take i c.args.old.now))) p.taken.holds)
