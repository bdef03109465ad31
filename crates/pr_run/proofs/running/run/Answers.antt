use Rattle.std.proofs.Common.{List, [], Option, Result, Err, IsSome, refl, sym, ap, subst}
use Rattle.std.specs.Prelude.{is_some}
use Rattle.pr_outside.specs.spec_history.declared.row.Row.{Row}
use Rattle.pr_outside.specs.private.Kept.{StartsRows}
use Rattle.pr_queue.specs.spec_history.Histories.{history_of}
use Rattle.pr_outside.specs.Outside.{Outside}
use Rattle.pr_outside.specs.Status.{IsTooLong}
use Rattle.pr_outside.specs.declared.status.status.Stop.{Stop}
use Rattle.pr_outside.proofs.Ended.{ends_on, in_time_same, quiet}
use Rattle.pr_outside.proofs.Opening.{opened_on, opening_error}
use Rattle.pr_outside.proofs.Telling.{at_told, on_told}
use Rattle.pr_text.specs.spec_world.World.{start}
use Rattle.pr_outside.specs.Stores.{IsBadIn}
use Rattle.pr_run.specs.Runs.{EndsBy, EndsOver}
use Rattle.pr_outside.proofs.Endings.{ends_behind, bad_of, ends_wider, known_answer}
use Rattle.pr_outside.proofs.StoredRows.{over_history}
use Rattle.pr_run.proofs.Starts.{at_rows, begin_stop, on_rows, over_begun}
use Rattle.pr_run.proofs.Stops.{row_after, row_alone, row_of_stop}
use Rattle.pr_run.specs.Told.{told_of}
use Rattle.pr_run.proofs.Tellings.{starts_err, starts_on}
use Rattle.pr_run.proofs.running.run.Goals as goal

pub returns-in_err-session-clause-over : goal.returns-in_err-session-clause-over
returns-in_err-session-clause-over g c =
    let keeper = g.K.Keeper.means in
    let out = g.O.Sink.means in
    let before : Outside = record { input = g.I.Source.means c.args.input.now; files = g.F.Files.means c.args.files.now; store = keeper c.args.keeper.now; out = out c.args.out.now } in
    let now : Outside = record before { store = keeper c.begin.new.keeper; out = out c.begin.new.out } in
    let b = c.in_err-session.ensures in
    let e = c.in_err-session.field-0.0 in
    on_rows now.store.rows _ (λ all is. on_told before.input.left _ (λ bytes here.
    over_begun c.rows_decode_as_their_entries.ensures.only before now bytes all is refl c.from_residual.result e c.from_residual.ensures.1
    (subst (StartsRows before.store.rows) is b.rows) (at_rows now.store.rows _ all is b.front)
    (begin_stop _ _ (record quiet { store = before.store; out = before.out }) (record quiet { store = now.store; out = now.out }) e refl refl refl refl (b.ends quiet))
    (λ at row. at_rows now.store.rows _ all is (bad_of _ (IsBadIn now.store) ⊥ (record quiet { store = before.store; out = before.out }) (record quiet { store = now.store; out = now.out }) e at row (b.ends quiet)))
    (λ at row. b.bad at (ap (λ (s : Stop). Err s) row))))

pub returns-in_err-session-clause-row : goal.returns-in_err-session-clause-row
returns-in_err-session-clause-row g c = λ at is.
    let out = g.O.Sink.means in
    row_alone (out c.args.out.now).taken (out c.begin.new.out).taken at
    (c.in_err-session.ensures.bad at (ap (λ (s : Stop). Err s) (row_of_stop c.from_residual.result c.in_err-session.field-0.0 at c.from_residual.ensures.1 is)))

pub returns-clause-row : goal.returns-clause-row
returns-clause-row g c = λ at is.
    let out = g.O.Sink.means in
    let begun = c.in_ok-session.ensures.begins in
    row_after (out c.args.out.now).taken (out c.begin.new.out).taken (out c.answer_all.new.out).taken at (told_of begun.history []) begun.told (c.answer_all.ensures.row at is)

pub returns-in_err-session-clause-long : goal.returns-in_err-session-clause-long
returns-in_err-session-clause-long g c =
    known_answer _ _ _ (g.I.Source.means c.args.input.now) (g.I.Source.means c.args.input.now) _ _ c.from_residual.result c.in_err-session.field-0.0 c.from_residual.ensures.1 (c.in_err-session.ensures.ends quiet)

pub returns-in_err-session-clause-ends : goal.returns-in_err-session-clause-ends
returns-in_err-session-clause-ends g c =
    let keeper = g.K.Keeper.means in
    let out = g.O.Sink.means in
    let before : Outside = record { input = g.I.Source.means c.args.input.now; files = g.F.Files.means c.args.files.now; store = keeper c.args.keeper.now; out = out c.args.out.now } in
    let now : Outside = record before { store = keeper c.begin.new.keeper; out = out c.begin.new.out } in
    ends_on _ _ (IsBadIn now.store) (IsTooLong before.input before.input) before before now c.from_residual.result c.in_err-session.field-0.0 c.from_residual.ensures.1 (refl, refl, refl, refl)
    (in_time_same before.input.course) (λ e. e) (λ e. e)
    (ends_wider _ (IsBadIn now.store) (IsBadIn now.store) ⊥ (IsTooLong before.input before.input) before now (Err c.in_err-session.field-0.0) (λ i bad. bad) (λ never. absurd never) (c.in_err-session.ensures.ends before))

pub returns-clause-over : goal.returns-clause-over
returns-clause-over g c =
    let keeper = g.K.Keeper.means in
    let out = g.O.Sink.means in
    let before : Outside = record { input = g.I.Source.means c.args.input.now; files = g.F.Files.means c.args.files.now; store = keeper c.args.keeper.now; out = out c.args.out.now } in
    let now : Outside = record {
      input = g.I.Source.means c.answer_all.new.input;
      files = g.F.Files.means c.answer_all.new.files;
      store = keeper c.answer_all.new.keeper;
      out = out c.answer_all.new.out;
    } in
    let opened = keeper c.begin.new.keeper in
    let b = c.in_ok-session.ensures.begins in
    let all_of = c.answer_all.ensures in
    on_rows now.store.rows _ (λ all is. on_told before.input.left _ (λ bytes here.
    let some : IsSome now.store.rows = ap (λ (o : Option (List Row)). is_some o) is in
    let grown = all_of.grows (start b.history) b.keeps.world some in
    let over = at_told before.input.left (λ l. EndsOver b.history l before now c.answer_all.result) bytes here (all_of.over before b.history b.keeps b.told some) in
    over_history c.rows_decode_as_their_entries.ensures.only before.store.rows opened.rows all b.history grown.more
    (λ rows. EndsBy (history_of rows) rows bytes before now c.answer_all.result) c.in_ok-session.ensures.rows (all_of.told some)
    (g.met.E.Worlds.tells c.in_ok-session.session.kept opened (start b.history) b.keeps.world)
    (at_rows now.store.rows _ all is grown.tells)
    (λ rows h. subst (λ (r : Result _ _). EndsBy r rows bytes before now c.answer_all.result) (sym h) over)))

pub returns-clause-ends : goal.returns-clause-ends
returns-clause-ends g c =
    let keeper = g.K.Keeper.means in
    let out = g.O.Sink.means in
    let before : Outside = record { input = g.I.Source.means c.args.input.now; files = g.F.Files.means c.args.files.now; store = keeper c.args.keeper.now; out = out c.args.out.now } in
    let mid : Outside = record before { store = keeper c.begin.new.keeper; out = out c.begin.new.out } in
    let now : Outside = record {
      input = g.I.Source.means c.answer_all.new.input;
      files = g.F.Files.means c.answer_all.new.files;
      store = keeper c.answer_all.new.keeper;
      out = out c.answer_all.new.out;
    } in
    let l = c.in_ok-session.ensures.ends before in
    ends_behind (IsBadIn now.store) (IsTooLong before.input now.input) before mid now c.answer_all.result l.cause c.answer_all.ensures.ends.input l.files l.out c.answer_all.ensures.ends

pub returns-in_err-session-clause-opens : goal.returns-in_err-session-clause-opens
returns-in_err-session-clause-opens g c =
    let keeper = g.K.Keeper.means in
    opening_error Unit _ c.args.path.now (keeper c.args.keeper.now).paths (keeper c.begin.new.keeper).paths c.from_residual.result c.in_err-session.field-0.0 c.from_residual.ensures.1
    c.in_err-session.ensures.opens

pub returns-clause-opens : goal.returns-clause-opens
returns-clause-opens g c =
    let keeper = g.K.Keeper.means in
    opened_on _ c.args.path.now (keeper c.args.keeper.now).paths (keeper c.begin.new.keeper).paths (keeper c.answer_all.new.keeper).paths c.answer_all.result
    c.in_ok-session.ensures.opens c.answer_all.ensures.paths

pub returns-in_err-session-clause-tells : goal.returns-in_err-session-clause-tells
returns-in_err-session-clause-tells g c =
    let keeper = g.K.Keeper.means in
    starts_err _ _ (keeper c.args.keeper.now) (keeper c.begin.new.keeper) c.from_residual.result c.in_err-session.field-0.0 c.from_residual.ensures.1 c.in_err-session.ensures.tells

pub returns-clause-tells : goal.returns-clause-tells
returns-clause-tells g c =
    let keeper = g.K.Keeper.means in
    starts_on _ _ (keeper c.args.keeper.now) (keeper c.begin.new.keeper) (keeper c.answer_all.new.keeper) _ c.answer_all.result c.in_ok-session.ensures.tells c.answer_all.ensures.tells
