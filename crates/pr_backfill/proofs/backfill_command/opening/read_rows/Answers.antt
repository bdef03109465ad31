use Rattle.std.proofs.Common.{Err, ap, subst, length, arith}
use Rattle.pr_engine.specs.private.StartCauses.{HasStartCause}
use Rattle.pr_engine.specs.declared.rows.fault.StartError.{StartError}
use Rattle.pr_text.specs.BadRows.{bad_row_text}
use Rattle.pr_text.proofs.Lines.{whole_front, write_row}
use Rattle.pr_outside.specs.declared.status.status.Stop.TheVariants.{BadRow}
use Rattle.pr_backfill.proofs.Unopened.{front_row, start_row, start_untold}
use Rattle.pr_backfill.proofs.Telling.{keeps_row}
use Rattle.pr_backfill.proofs.backfill_command.opening.read_rows.Goals as goal

-- the line could not be written

pub returns-in_err-tell_bad_row-in-Err-BadRow-clause-front : goal.returns-in_err-tell_bad_row-in-Err-BadRow-clause-front
returns-in_err-tell_bad_row-in-Err-BadRow-clause-front g c =
    let x = g.O.Sink.means c.args.out.now in
    let y = g.O.Sink.means c.tell_bad_row.new.out in
    let b = c.in-Err-BadRow in
    let e = c.in_err-tell_bad_row-in-Err-BadRow in
    front_row _ (g.K.Keeper.means c.load.new.keeper).rows x.taken y.taken c.from_residual.result b.index e.ensures.front.0 (b.ensures.bad b.index (ap (λ (e : StartError). Err e) b.field-0-is)) e.ensures.front.1
    (λ at is. absurd (write_row _ _ x y c.from_residual.result e.field-0.0 at c.from_residual.ensures.1 e.ensures.ends is))

pub returns-in_err-tell_bad_row-in-Err-BadRow-clause-bad : goal.returns-in_err-tell_bad_row-in-Err-BadRow-clause-bad
returns-in_err-tell_bad_row-in-Err-BadRow-clause-bad g c = λ at is.
    let e = c.in_err-tell_bad_row-in-Err-BadRow in
    absurd (write_row _ _ (g.O.Sink.means c.args.out.now) (g.O.Sink.means c.tell_bad_row.new.out) c.from_residual.result e.field-0.0 at c.from_residual.ensures.1 e.ensures.ends is)

pub returns-in_err-tell_bad_row-in-Err-BadRow-clause-ends : goal.returns-in_err-tell_bad_row-in-Err-BadRow-clause-ends
returns-in_err-tell_bad_row-in-Err-BadRow-clause-ends g c = λ others.
    let e = c.in_err-tell_bad_row-in-Err-BadRow in
    start_untold (g.K.Keeper.means c.args.keeper.now) (g.K.Keeper.means c.load.new.keeper) (g.O.Sink.means c.args.out.now) others _ _ (g.O.Sink.means c.tell_bad_row.new.out) c.from_residual.result e.field-0.0
    c.from_residual.ensures.1 (subst (λ (e : StartError). HasStartCause {T = Unit} (g.K.Keeper.means c.args.keeper.now).faults (g.K.Keeper.means c.load.new.keeper).faults (Err e)) c.in-Err-BadRow.field-0-is c.in-Err-BadRow.ensures.cause) e.ensures.ends

-- it was written

pub returns-in_ok-tell_bad_row-in-Err-BadRow-clause-front : goal.returns-in_ok-tell_bad_row-in-Err-BadRow-clause-front
returns-in_ok-tell_bad_row-in-Err-BadRow-clause-front g c =
    let x = g.O.Sink.means c.args.out.now in
    let y = g.O.Sink.means c.tell_bad_row.new.out in
    let b = c.in-Err-BadRow in
    front_row _ (g.K.Keeper.means c.load.new.keeper).rows x.taken y.taken (Err (BadRow b.index)) b.index (length (bad_row_text b.index)) (b.ensures.bad b.index (ap (λ (e : StartError). Err e) b.field-0-is))
    (whole_front x.taken y.taken (bad_row_text b.index) c.in_ok-tell_bad_row-in-Err-BadRow.ensures.text) (λ at is. omega arith)

pub returns-in_ok-tell_bad_row-in-Err-BadRow-clause-ends : goal.returns-in_ok-tell_bad_row-in-Err-BadRow-clause-ends
returns-in_ok-tell_bad_row-in-Err-BadRow-clause-ends g c = λ others.
    let b = c.in-Err-BadRow in
    start_row (g.K.Keeper.means c.args.keeper.now) (g.K.Keeper.means c.load.new.keeper) (g.O.Sink.means c.args.out.now) others _ _ (g.O.Sink.means c.tell_bad_row.new.out) tt b.index (subst (λ (e : StartError). HasStartCause {T = Unit} (g.K.Keeper.means c.args.keeper.now).faults (g.K.Keeper.means c.load.new.keeper).faults (Err e)) b.field-0-is b.ensures.cause)
    (b.ensures.bad b.index (ap (λ (e : StartError). Err e) b.field-0-is)) c.in_ok-tell_bad_row-in-Err-BadRow.ensures.ends

-- whether they are told

pub returns-in_err-tell_bad_row-in-Err-BadRow-clause-tells : goal.returns-in_err-tell_bad_row-in-Err-BadRow-clause-tells
returns-in_err-tell_bad_row-in-Err-BadRow-clause-tells g c =
    let keeper = g.K.Keeper.means in
    let b = c.in-Err-BadRow in
    keeps_row _ Unit (keeper c.args.keeper.now) (keeper c.load.new.keeper) c.from_residual.result b.field-0 b.index b.field-0-is b.ensures.sound b.ensures.tells

pub returns-in_ok-tell_bad_row-in-Err-BadRow-clause-tells : goal.returns-in_ok-tell_bad_row-in-Err-BadRow-clause-tells
returns-in_ok-tell_bad_row-in-Err-BadRow-clause-tells g c =
    let keeper = g.K.Keeper.means in
    let b = c.in-Err-BadRow in
    keeps_row _ Unit (keeper c.args.keeper.now) (keeper c.load.new.keeper) (Err (BadRow b.index)) b.field-0 b.index b.field-0-is b.ensures.sound b.ensures.tells
