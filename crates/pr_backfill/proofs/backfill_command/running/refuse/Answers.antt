use Rattle.std.proofs.Common.{Bool, Err, ap}
use Rattle.pr_outside.specs.Ends.{no_row}
use Rattle.pr_outside.specs.Outside.{Outside}
use Rattle.pr_outside.specs.declared.status.status.Stop.{Stop}
use Rattle.pr_outside.proofs.Endings.{ends_as}
use Rattle.pr_backfill.proofs.Loaded.{no_bad_row, refused, write_fine}
use Rattle.pr_backfill.proofs.backfill_command.running.refuse.Goals as goal

pub returns-in-Ok-clause-ends : goal.returns-in-Ok-clause-ends
returns-in-Ok-clause-ends g c = λ others. let e = c.in-Ok.ensures.ends others in record { cause = e.cause; input = e.input; files = e.files; out = e.out }

pub returns-in-Err-clause-refused : goal.returns-in-Err-clause-refused
returns-in-Err-clause-refused g c = λ others.
    let out = g.O.Sink.means in
    let stop = c.in-Err.stop in
    refused c.args.lines.now others (out c.args.out.now) (out c.send.new.out) (Err stop)
    (no_bad_row stop (λ index is. write_fine Unit (out c.args.out.now) (out c.send.new.out) (Err stop) c.in-Err.ensures.ends index (ap (λ (s : Stop). Err s) is)))
    tt c.in-Err.ensures.front

pub returns-in-Err-clause-ends : goal.returns-in-Err-clause-ends
returns-in-Err-clause-ends g c = λ others.
    let out = g.O.Sink.means in
    let before : Outside = record others { out = out c.args.out.now } in
    let now : Outside = record others { out = out c.send.new.out } in
    ends_as Unit Bool no_row ⊥ before now c.in-Err.stop (c.in-Err.ensures.ends others)
