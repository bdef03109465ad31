use Rattle.std.proofs.Common.{◌≡◌, ◌∙◌, ℕ, List, [], ◌++◌, Option, Result, Ok, Err, IsSome, OnOk, take, refl, sym, ap, subst}
use Rattle.std.specs.Prelude.{is_some}
use Rattle.std.specs.Io.KnownBytes.{Appends}
use Rattle.pr_outside.specs.private.Kept.{StartsRows}
use Rattle.pr_outside.specs.Meant.{Output}
use Rattle.pr_outside.specs.spec_history.declared.row.Row.{Row}
use Rattle.pr_text.specs.spec_history.Histories.{history_of}
use Rattle.pr_exercise.specs.Exercise.{exercise_events}
use Rattle.pr_exercise.specs.Summary.{lines_told, summary_of}
use Rattle.pr_outside.specs.Ends.{no_row}
use Rattle.pr_outside.specs.Outside.{Outside}
use Rattle.pr_outside.specs.declared.status.status.Stop.{Stop}
use Rattle.pr_outside.proofs.Ended.{ends_on, in_time_same}
use Rattle.pr_outside.proofs.Opening.{opened_on, opening_error}
use Rattle.pr_outside.proofs.StatusStreams.{appends_none}
use Rattle.pr_text.specs.spec_world.World.{start}
use Rattle.pr_text.specs.BadRows.{bad_row_text}
use Rattle.pr_text.specs.spec_rules.Settings.{of_a_run}
use Rattle.pr_text.specs.spec_world.Step.{rows_of}
use Rattle.pr_outside.specs.Stores.{IsBadIn}
use Rattle.pr_outside.proofs.Endings.{bad_of, ends_as, ends_behind, ends_wider}
use Rattle.pr_outside.proofs.StoredRows.{over_history}
use Rattle.pr_exercise.specs.Means.{EndsBy}
use Rattle.pr_exercise.specs.declared.tally.Tally.{Tally}
use Rattle.pr_exercise.proofs.Tallies.{summary_is}
use Rattle.pr_exercise.proofs.Over.{at_rows, no_bad_row, on_rows, row_error, stopped, told, unopened, write_fine}
use Rattle.pr_exercise.proofs.Telling.{starts_any, starts_error, starts_on, starts_stop}
use Rattle.pr_exercise.proofs.running.run.Goals as goal

pub returns-in_err-kept-clause-over : goal.returns-in_err-kept-clause-over
returns-in_err-kept-clause-over g c = λ others.
    let keeper = g.K.Keeper.means in
    let out = g.O.Sink.means in
    let before : Outside = record others { store = keeper c.args.keeper.now; out = out c.args.out.now } in
    let now : Outside = record others { store = keeper c.open.new.keeper; out = out c.open.new.out } in
    let o = c.in_err-kept.ensures in
    let e = c.in_err-kept.field-0.0 in
    on_rows now.store.rows _ (λ all is.
    unopened before now all is c.rows_decode_as_their_entries.ensures.only c.args.rounds c.from_residual.result e c.from_residual.ensures.1
    (subst (StartsRows before.store.rows) is o.rows) (at_rows now.store.rows _ all is o.front)
    (λ at row. at_rows now.store.rows _ all is (bad_of _ (IsBadIn now.store) ⊥ before now e at row (o.ends others)))
    (λ at row. o.bad at (ap (λ (s : Stop). Err s) row)))

pub returns-in_err-kept-clause-ends : goal.returns-in_err-kept-clause-ends
returns-in_err-kept-clause-ends g c = λ others.
    let keeper = g.K.Keeper.means in
    let out = g.O.Sink.means in
    let before : Outside = record others { store = keeper c.args.keeper.now; out = out c.args.out.now } in
    let now : Outside = record others { store = keeper c.open.new.keeper; out = out c.open.new.out } in
    ends_on _ _ (IsBadIn now.store) ⊥ before before now c.from_residual.result c.in_err-kept.field-0.0 c.from_residual.ensures.1 (refl, refl, refl, refl)
    (in_time_same before.input.course) (λ e. e) (λ e. e) (c.in_err-kept.ensures.ends others)

-- an event could not be answered

pub returns-in-Err-clause-over : goal.returns-in-Err-clause-over
returns-in-Err-clause-over g c = λ others.
    let keeper = g.K.Keeper.means in
    let out = g.O.Sink.means in
    let before : Outside = record others { store = keeper c.args.keeper.now; out = out c.args.out.now } in
    let opened = keeper c.open.new.keeper in
    let now : Outside = record others { store = keeper c.answer_all.new.keeper; out = out c.told_stop.new.out } in
    let only = c.rows_decode_as_their_entries.ensures.only in
    let s = c.in_ok-kept.ensures.starts in
    let e = c.in-Err.stop in
    on_rows now.store.rows _ (λ all is.
    let some : IsSome now.store.rows = ap (λ (o : Option (List Row)). is_some o) is in
    let halts = c.in-Err.ensures.counts s.history s.stands s.count some in
    let fine = no_bad_row before now all is (s.history ++ rows_of of_a_run (start s.history) (take halts.answered (exercise_events c.args.rounds))) e halts.tells
    (λ at row. bad_of _ (IsBadIn now.store) ⊥ (record others { store = opened }) (record others { store = now.store }) e at row (c.in-Err.ensures.ends others)) in
    let other = c.told_stop.ensures.other fine in
    over_history only before.store.rows opened.rows all s.history _ (λ rows. EndsBy (history_of rows) c.args.rounds rows before now (Err c.told_stop.result))
    c.in_ok-kept.ensures.rows (c.in-Err.ensures.told some) (g.met.E.Worlds.tells c.in_ok-kept.kept opened (start s.history) s.stands)
    (at_rows now.store.rows _ all is halts.tells)
    (λ rows h. subst (λ (r : Result _ _). EndsBy r c.args.rounds rows before now (Err c.told_stop.result)) (sym h)
    (stopped before now all is only c.args.rounds s.history c.told_stop.result (λ at row. fine at (sym other.0 ∙ row)) halts
    (subst (λ (o : Output). Appends before.out.taken o.taken []) (sym (other.1 ∙ c.in_ok-kept.ensures.unwritten)) (appends_none before.out.taken)))))

pub returns-in-Err-clause-row : goal.returns-in-Err-clause-row
returns-in-Err-clause-row g c = λ at is.
    let out = g.O.Sink.means in
    subst (λ (o : Output). Appends o.taken (out c.told_stop.new.out).taken (bad_row_text at)) c.in_ok-kept.ensures.unwritten (c.told_stop.ensures.row at cc)

pub returns-in-Err-clause-ends : goal.returns-in-Err-clause-ends
returns-in-Err-clause-ends g c = λ others.
    let keeper = g.K.Keeper.means in
    let out = g.O.Sink.means in
    let before : Outside = record others { store = keeper c.args.keeper.now; out = out c.args.out.now } in
    let mid : Outside = record others { store = keeper c.open.new.keeper; out = out c.open.new.out } in
    let halted : Outside = record mid { store = keeper c.answer_all.new.keeper } in
    let now : Outside = record halted { out = out c.told_stop.new.out } in
    let l = c.in_ok-kept.ensures.ends others in
    ends_behind (IsBadIn now.store) ⊥ before mid now (Err c.told_stop.result) l.cause (in_time_same before.input.course) l.files l.out
    (c.told_stop.ensures.ends mid halted (ends_as Tally Unit (IsBadIn now.store) ⊥ mid halted c.in-Err.stop (c.in-Err.ensures.ends mid)))

pub returns-in-Err-clause-opens : goal.returns-in-Err-clause-opens
returns-in-Err-clause-opens g c =
    let keeper = g.K.Keeper.means in
    opened_on Unit [] (keeper c.args.keeper.now).paths (keeper c.open.new.keeper).paths (keeper c.answer_all.new.keeper).paths (Err c.told_stop.result)
    c.in_ok-kept.ensures.opens c.in-Err.ensures.paths

-- all were

pub returns-clause-over : goal.returns-clause-over
returns-clause-over g c = λ others.
    let keeper = g.K.Keeper.means in
    let out = g.O.Sink.means in
    let before : Outside = record others { store = keeper c.args.keeper.now; out = out c.args.out.now } in
    let opened = keeper c.open.new.keeper in
    let now : Outside = record others { store = keeper c.answer_all.new.keeper; out = out c.tell_summary.new.out } in
    let only = c.rows_decode_as_their_entries.ensures.only in
    let s = c.in_ok-kept.ensures.starts in
    let lines = lines_told s.history (exercise_events c.args.rounds) in
    let same : out c.open.new.out ≡ before.out = c.in_ok-kept.ensures.unwritten in
    let t = c.tell_summary.ensures in
    on_rows now.store.rows _ (λ all is.
    let some : IsSome now.store.rows = ap (λ (o : Option (List Row)). is_some o) is in
    let counted = c.in-Ok.ensures.counts s.history s.stands s.count some in
    let text = summary_is c.args.rounds c.in-Ok.tally lines counted.tally in
    over_history only before.store.rows opened.rows all s.history _ (λ rows. EndsBy (history_of rows) c.args.rounds rows before now c.tell_summary.result)
    c.in_ok-kept.ensures.rows (c.in-Ok.ensures.told some) (g.met.E.Worlds.tells c.in_ok-kept.kept opened (start s.history) s.stands)
    (at_rows now.store.rows _ all is counted.tells)
    (λ rows h. subst (λ (r : Result _ _). EndsBy r c.args.rounds rows before now c.tell_summary.result) (sym h)
    (told before now all is only c.args.rounds s.history c.tell_summary.result counted.tells
    (subst (λ (o : Output). OnOk c.tell_summary.result (Appends o.taken now.out.taken (summary_of c.args.rounds lines))) same
    (subst (λ (l : List ℕ). OnOk c.tell_summary.result (Appends (out c.open.new.out).taken now.out.taken l)) text t.text)) (
      t.front.0,
      subst (λ (o : Output). Appends o.taken now.out.taken (take t.front.0 (summary_of c.args.rounds lines))) same
          (subst (λ (l : List ℕ). Appends (out c.open.new.out).taken now.out.taken (take t.front.0 l)) text t.front.1),
    )
    (λ index. write_fine (out c.open.new.out) now.out c.tell_summary.result index t.ends))))

pub returns-clause-ends : goal.returns-clause-ends
returns-clause-ends g c = λ others.
    let keeper = g.K.Keeper.means in
    let out = g.O.Sink.means in
    let before : Outside = record others { store = keeper c.args.keeper.now; out = out c.args.out.now } in
    let mid : Outside = record others { store = keeper c.answer_all.new.keeper; out = out c.open.new.out } in
    let now : Outside = record others { store = keeper c.answer_all.new.keeper; out = out c.tell_summary.new.out } in
    let l = c.in_ok-kept.ensures.ends others in
    let m = c.in-Ok.ensures.ends (record others { out = mid.out }) in
    ends_behind (IsBadIn now.store) ⊥ before mid now c.tell_summary.result (m.cause.0 ∙ l.cause.0, m.cause.1 ∙ l.cause.1, m.cause.2 ∙ l.cause.2, m.cause.3 ∙ l.cause.3)
    (in_time_same before.input.course) (λ e. m.files (l.files e)) (λ e. m.out (l.out e))
    (ends_wider _ no_row (IsBadIn now.store) ⊥ ⊥ mid now c.tell_summary.result (λ i no. absurd no) (λ never. never) (c.tell_summary.ensures.ends (record others { store = mid.store })))

pub returns-in_err-kept-clause-opens : goal.returns-in_err-kept-clause-opens
returns-in_err-kept-clause-opens g c =
    let keeper = g.K.Keeper.means in
    opening_error Unit _ [] (keeper c.args.keeper.now).paths (keeper c.open.new.keeper).paths c.from_residual.result c.in_err-kept.field-0.0 c.from_residual.ensures.1 c.in_err-kept.ensures.opens

pub returns-clause-opens : goal.returns-clause-opens
returns-clause-opens g c =
    let keeper = g.K.Keeper.means in
    opened_on _ [] (keeper c.args.keeper.now).paths (keeper c.open.new.keeper).paths (keeper c.answer_all.new.keeper).paths c.tell_summary.result
    c.in_ok-kept.ensures.opens c.in-Ok.ensures.paths

pub returns-clause-row : goal.returns-clause-row
returns-clause-row g c = λ at is. absurd (write_fine (g.O.Sink.means c.open.new.out) (g.O.Sink.means c.tell_summary.new.out) c.tell_summary.result at c.tell_summary.ensures.ends is)

pub returns-in_err-kept-clause-row : goal.returns-in_err-kept-clause-row
returns-in_err-kept-clause-row g c = λ at is.
    c.in_err-kept.ensures.bad at (ap (λ (s : Stop). Err s) (row_error c.from_residual.result c.in_err-kept.field-0.0 at c.from_residual.ensures.1 is))

-- whether the rows are told

pub returns-in_err-kept-clause-tells : goal.returns-in_err-kept-clause-tells
returns-in_err-kept-clause-tells g c =
    let keeper = g.K.Keeper.means in
    starts_error Unit _ (keeper c.args.keeper.now) (keeper c.open.new.keeper) c.from_residual.result c.in_err-kept.field-0.0 c.from_residual.ensures.1 c.in_err-kept.ensures.tells

pub returns-in-Err-clause-tells : goal.returns-in-Err-clause-tells
returns-in-Err-clause-tells g c =
    let keeper = g.K.Keeper.means in
    let a = keeper c.args.keeper.now in
    let b = keeper c.answer_all.new.keeper in
    starts_stop Unit Tally a b c.in-Err.stop c.told_stop.result (λ other. (c.told_stop.ensures.other other).0)
    (starts_on a (keeper c.open.new.keeper) b c.in_ok-kept.kept (Err c.in-Err.stop) c.in_ok-kept.ensures.tells c.in-Err.ensures.tells)

pub returns-clause-tells : goal.returns-clause-tells
returns-clause-tells g c =
    let keeper = g.K.Keeper.means in
    let a = keeper c.args.keeper.now in
    let b = keeper c.answer_all.new.keeper in
    starts_any a b c.in-Ok.tally c.tell_summary.result
    (starts_on a (keeper c.open.new.keeper) b c.in_ok-kept.kept (Ok c.in-Ok.tally) c.in_ok-kept.ensures.tells c.in-Ok.ensures.tells)
