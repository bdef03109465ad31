use Rattle.std.proofs.Common.{◌∙◌, Result, Err, IfOk, length, refl, sym, subst}
use Rattle.pr_outside.specs.Ends.{no_row}
use Rattle.pr_outside.specs.Opening.{OpensBy}
use Rattle.pr_outside.specs.Outside.{Outside}
use Rattle.pr_outside.specs.declared.status.status.Stop.{Stop}
use Rattle.pr_outside.proofs.Ended.{ends_on, in_time_on, in_time_same, quiet}
use Rattle.pr_outside.proofs.Opening.{opened_on, row_opened, stopped_opening}
use Rattle.pr_text.specs.spec_world.World.{start}
use Rattle.pr_outside.specs.Stores.{KeepEnds, IsBadIn, StartsTelling}
use Rattle.pr_text.specs.private.Keeping.{Starts}
use Rattle.pr_text.specs.BadRows.{bad_row_text}
use Rattle.pr_run.proofs.Begins.{opened_front, opened_whole, row_front}
use Rattle.pr_text.proofs.Lines.{whole_front, write_row}
use Rattle.pr_outside.proofs.Endings.{bad_of, calm_of, ends_as, ends_wider, row_ends}
use Rattle.pr_run.proofs.Tellings.{starts_as, starts_row, starts_stop}
use Rattle.pr_run.proofs.running.begin.Goals as goal

pub returns-in_err-tell_opened-in-Ok-clause-front : goal.returns-in_err-tell_opened-in-Ok-clause-front
returns-in_err-tell_opened-in-Ok-clause-front g c =
    let store = g.K.Keeper.means c.start.new.keeper in
    let out = g.O.Sink.means in
    let s = subst (λ (r : Result _ Stop). IfOk r (λ e. Starts g.E.Worlds.stands_for e store)) c.in-Ok.is c.start.ensures.stands in
    let f = c.in_err-tell_opened-in-Ok.ensures.front in
    opened_front _ (out c.args.out.now).taken (out c.tell_opened.new.out).taken f.0 store.rows c.from_residual.result s.history c.size.result (c.size.ensures.count ∙ s.count)
    (g.met.E.Worlds.tells c.in-Ok.kept store (start s.history) s.stands) f.1

pub returns-in_err-tell_opened-in-Ok-clause-bad : goal.returns-in_err-tell_opened-in-Ok-clause-bad
returns-in_err-tell_opened-in-Ok-clause-bad g c = λ at is.
    absurd (write_row _ _ (g.O.Sink.means c.args.out.now) (g.O.Sink.means c.tell_opened.new.out) c.from_residual.result c.in_err-tell_opened-in-Ok.field-0.0 at c.from_residual.ensures.1
    c.in_err-tell_opened-in-Ok.ensures.ends is)

pub returns-in_err-tell_opened-in-Ok-clause-ends : goal.returns-in_err-tell_opened-in-Ok-clause-ends
returns-in_err-tell_opened-in-Ok-clause-ends g c = λ others.
    let keeper = g.K.Keeper.means in
    let out = g.O.Sink.means in
    let a : Outside = record others { store = keeper c.args.keeper.now; out = out c.args.out.now } in
    let b : Outside = record others { store = keeper c.start.new.keeper; out = out c.args.out.now } in
    let d : Outside = record others { store = keeper c.start.new.keeper; out = out c.tell_opened.new.out } in
    let l = subst (λ (r : Result _ Stop). KeepEnds a.store b.store r) c.in-Ok.is c.start.ensures.ends (record others { out = out c.args.out.now }) in
    ends_on _ _ (IsBadIn d.store) ⊥ a b d c.from_residual.result c.in_err-tell_opened-in-Ok.field-0.0 c.from_residual.ensures.1 l.cause (in_time_same a.input.course) (λ e. e) (λ e. e)
    (ends_wider _ no_row (IsBadIn d.store) ⊥ ⊥ b d (Err c.in_err-tell_opened-in-Ok.field-0.0) (λ i no. absurd no) (λ never. never)
    (c.in_err-tell_opened-in-Ok.ensures.ends (record others { store = keeper c.start.new.keeper })))

pub returns-in_ok-tell_opened-in-Ok-clause-begins : goal.returns-in_ok-tell_opened-in-Ok-clause-begins
returns-in_ok-tell_opened-in-Ok-clause-begins g c =
    let store = g.K.Keeper.means c.start.new.keeper in
    let out = g.O.Sink.means in
    let s = subst (λ (r : Result _ Stop). IfOk r (λ e. Starts g.E.Worlds.stands_for e store)) c.in-Ok.is c.start.ensures.stands in
    record {
      history = s.history;
      keeps = record {
        world = subst (λ (k : _). g.E.Worlds.stands_for k store (start s.history)) (sym c.new.ensures.kept) s.stands;
        receivers = c.new.ensures.receivers;
        refused = c.new.ensures.refused;
      };
      told = opened_whole (out c.args.out.now).taken (out c.tell_opened.new.out).taken s.history c.size.result (c.size.ensures.count ∙ s.count) c.in_ok-tell_opened-in-Ok.ensures.text;
    }

pub returns-in_ok-tell_opened-in-Ok-clause-ends : goal.returns-in_ok-tell_opened-in-Ok-clause-ends
returns-in_ok-tell_opened-in-Ok-clause-ends g c = λ others.
    let keeper = g.K.Keeper.means in
    let out = g.O.Sink.means in
    let l = subst (λ (r : Result _ Stop). KeepEnds (keeper c.args.keeper.now) (keeper c.start.new.keeper) r) c.in-Ok.is c.start.ensures.ends (record others { out = out c.args.out.now }) in
    let t = c.in_ok-tell_opened-in-Ok.ensures.ends (record others { store = keeper c.start.new.keeper }) in
    record {
      cause = (t.cause.0 ∙ l.cause.0, t.cause.1 ∙ l.cause.1, t.cause.2 ∙ l.cause.2, t.cause.3 ∙ l.cause.3);
      input = in_time_same others.input.course;
      files = λ e. e;
      out = t.out;
    }

pub returns-in_err-tell_bad_row-in-Some-clause-front : goal.returns-in_err-tell_bad_row-in-Some-clause-front
returns-in_err-tell_bad_row-in-Some-clause-front g c =
    let store = g.K.Keeper.means c.start.new.keeper in
    let out = g.O.Sink.means in
    let a : Outside = record quiet { store = g.K.Keeper.means c.args.keeper.now } in
    let b : Outside = record quiet { store = store } in
    let l = subst (λ (r : Result _ Stop). KeepEnds a.store b.store r) c.in-Err.is c.start.ensures.ends quiet in
    let f = c.in_err-tell_bad_row-in-Some.ensures.front in
    row_front _ (out c.args.out.now).taken (out c.tell_bad_row.new.out).taken f.0 store.rows c.from_residual-in_err-tell_bad_row-in-Some.result c.in-Some.index
    (bad_of _ (IsBadIn store) ⊥ a b c.in-Err.stop c.in-Some.index c.in-Some.ensures.some l) f.1

pub returns-in_err-tell_bad_row-in-Some-clause-bad : goal.returns-in_err-tell_bad_row-in-Some-clause-bad
returns-in_err-tell_bad_row-in-Some-clause-bad g c = λ at is.
    absurd (write_row _ _ (g.O.Sink.means c.args.out.now) (g.O.Sink.means c.tell_bad_row.new.out) c.from_residual-in_err-tell_bad_row-in-Some.result c.in_err-tell_bad_row-in-Some.field-0.0 at
    c.from_residual-in_err-tell_bad_row-in-Some.ensures.1 c.in_err-tell_bad_row-in-Some.ensures.ends is)

pub returns-in_err-tell_bad_row-in-Some-clause-ends : goal.returns-in_err-tell_bad_row-in-Some-clause-ends
returns-in_err-tell_bad_row-in-Some-clause-ends g c = λ others.
    let keeper = g.K.Keeper.means in
    let out = g.O.Sink.means in
    let a : Outside = record others { store = keeper c.args.keeper.now; out = out c.args.out.now } in
    let b : Outside = record others { store = keeper c.start.new.keeper; out = out c.args.out.now } in
    let d : Outside = record others { store = keeper c.start.new.keeper; out = out c.tell_bad_row.new.out } in
    let l = subst (λ (r : Result _ Stop). KeepEnds a.store b.store r) c.in-Err.is c.start.ensures.ends (record others { out = out c.args.out.now }) in
    ends_on _ _ (IsBadIn d.store) ⊥ a b d c.from_residual-in_err-tell_bad_row-in-Some.result c.in_err-tell_bad_row-in-Some.field-0.0 c.from_residual-in_err-tell_bad_row-in-Some.ensures.1
    (calm_of _ (IsBadIn b.store) ⊥ a b c.in-Err.stop c.in-Some.index c.in-Some.ensures.some l) (in_time_same a.input.course) (λ e. e) (λ e. e)
    (ends_wider _ no_row (IsBadIn d.store) ⊥ ⊥ b d (Err c.in_err-tell_bad_row-in-Some.field-0.0) (λ i no. absurd no) (λ never. never)
    (c.in_err-tell_bad_row-in-Some.ensures.ends (record others { store = keeper c.start.new.keeper })))

pub returns-in_ok-tell_bad_row-in-Some-clause-front : goal.returns-in_ok-tell_bad_row-in-Some-clause-front
returns-in_ok-tell_bad_row-in-Some-clause-front g c =
    let store = g.K.Keeper.means c.start.new.keeper in
    let out = g.O.Sink.means in
    let a : Outside = record quiet { store = g.K.Keeper.means c.args.keeper.now } in
    let b : Outside = record quiet { store = store } in
    let l = subst (λ (r : Result _ Stop). KeepEnds a.store b.store r) c.in-Err.is c.start.ensures.ends quiet in
    row_front Unit (out c.args.out.now).taken (out c.tell_bad_row.new.out).taken (length (bad_row_text c.in-Some.index)) store.rows (Err c.in-Err.stop) c.in-Some.index
    (bad_of _ (IsBadIn store) ⊥ a b c.in-Err.stop c.in-Some.index c.in-Some.ensures.some l)
    (whole_front (out c.args.out.now).taken (out c.tell_bad_row.new.out).taken (bad_row_text c.in-Some.index) c.in_ok-tell_bad_row-in-Some.ensures.text)

pub returns-in_ok-tell_bad_row-in-Some-clause-ends : goal.returns-in_ok-tell_bad_row-in-Some-clause-ends
returns-in_ok-tell_bad_row-in-Some-clause-ends g c = λ others.
    let keeper = g.K.Keeper.means in
    let out = g.O.Sink.means in
    let a : Outside = record others { store = keeper c.args.keeper.now; out = out c.args.out.now } in
    let b : Outside = record others { store = keeper c.start.new.keeper; out = out c.args.out.now } in
    let d : Outside = record others { store = keeper c.start.new.keeper; out = out c.tell_bad_row.new.out } in
    let l = subst (λ (r : Result _ Stop). KeepEnds a.store b.store r) c.in-Err.is c.start.ensures.ends (record others { out = out c.args.out.now }) in
    let calm = calm_of _ (IsBadIn b.store) ⊥ a b c.in-Err.stop c.in-Some.index c.in-Some.ensures.some l in
    let t = c.in_ok-tell_bad_row-in-Some.ensures.ends (record others { store = keeper c.start.new.keeper }) in
    row_ends _ (IsBadIn d.store) ⊥ a d c.in-Err.stop c.in-Some.index c.in-Some.ensures.some (t.cause.0 ∙ calm.0, t.cause.1 ∙ calm.1, t.cause.2 ∙ calm.2, t.cause.3 ∙ calm.3)
    (bad_of _ (IsBadIn b.store) ⊥ a b c.in-Err.stop c.in-Some.index c.in-Some.ensures.some l)
    (in_time_same a.input.course) (in_time_same a.files.course) (in_time_on a.out.course d.out.course d.out.course t.out (in_time_same d.out.course))

pub returns-in-None-clause-ends : goal.returns-in-None-clause-ends
returns-in-None-clause-ends g c = λ others.
    let keeper = g.K.Keeper.means in
    let out = g.O.Sink.means in
    let a : Outside = record others { store = keeper c.args.keeper.now; out = out c.args.out.now } in
    let b : Outside = record others { store = keeper c.start.new.keeper; out = out c.args.out.now } in
    ends_as _ _ (IsBadIn b.store) ⊥ a b c.in-Err.stop (subst (λ (r : Result _ Stop). KeepEnds a.store b.store r) c.in-Err.is c.start.ensures.ends (record others { out = out c.args.out.now }))

-- the path is opened, unless the start was refused

pub returns-in_err-tell_opened-in-Ok-clause-opens : goal.returns-in_err-tell_opened-in-Ok-clause-opens
returns-in_err-tell_opened-in-Ok-clause-opens g c =
    let keeper = g.K.Keeper.means in
    let a = (keeper c.args.keeper.now).paths in
    let b = (keeper c.start.new.keeper).paths in
    opened_on _ c.args.path.now a b b c.from_residual.result (subst (λ (r : Result _ Stop). OpensBy c.args.path.now a b r) c.in-Ok.is c.start.ensures.opens) refl

pub returns-in_ok-tell_opened-in-Ok-clause-opens : goal.returns-in_ok-tell_opened-in-Ok-clause-opens
returns-in_ok-tell_opened-in-Ok-clause-opens g c =
    let keeper = g.K.Keeper.means in
    let a = (keeper c.args.keeper.now).paths in
    let b = (keeper c.start.new.keeper).paths in
    subst (λ (r : Result _ Stop). OpensBy c.args.path.now a b r) c.in-Ok.is c.start.ensures.opens

pub returns-in_err-tell_bad_row-in-Some-clause-opens : goal.returns-in_err-tell_bad_row-in-Some-clause-opens
returns-in_err-tell_bad_row-in-Some-clause-opens g c =
    let keeper = g.K.Keeper.means in
    let a = (keeper c.args.keeper.now).paths in
    let b = (keeper c.start.new.keeper).paths in
    opened_on _ c.args.path.now a b b c.from_residual-in_err-tell_bad_row-in-Some.result
    (row_opened Unit c.args.path.now a b c.in-Err.stop c.in-Some.index c.in-Some.ensures.some (subst (λ (r : Result _ Stop). OpensBy c.args.path.now a b r) c.in-Err.is c.start.ensures.opens)) refl

pub returns-in_ok-tell_bad_row-in-Some-clause-opens : goal.returns-in_ok-tell_bad_row-in-Some-clause-opens
returns-in_ok-tell_bad_row-in-Some-clause-opens g c =
    let keeper = g.K.Keeper.means in
    let a = (keeper c.args.keeper.now).paths in
    let b = (keeper c.start.new.keeper).paths in
    stopped_opening Unit Unit c.args.path.now a b c.in-Err.stop (subst (λ (r : Result _ Stop). OpensBy c.args.path.now a b r) c.in-Err.is c.start.ensures.opens)

pub returns-in-None-clause-opens : goal.returns-in-None-clause-opens
returns-in-None-clause-opens g c =
    let keeper = g.K.Keeper.means in
    let a = (keeper c.args.keeper.now).paths in
    let b = (keeper c.start.new.keeper).paths in
    stopped_opening Unit Unit c.args.path.now a b c.in-Err.stop (subst (λ (r : Result _ Stop). OpensBy c.args.path.now a b r) c.in-Err.is c.start.ensures.opens)

-- the rows are told

pub returns-in_err-tell_opened-in-Ok-clause-tells : goal.returns-in_err-tell_opened-in-Ok-clause-tells
returns-in_err-tell_opened-in-Ok-clause-tells g c =
    let keeper = g.K.Keeper.means in
    let a = keeper c.args.keeper.now in
    let b = keeper c.start.new.keeper in
    starts_as _ _ a b _ c.from_residual.result (subst (λ (r : Result _ Stop). StartsTelling a b r) c.in-Ok.is c.start.ensures.tells)

pub returns-in_ok-tell_opened-in-Ok-clause-tells : goal.returns-in_ok-tell_opened-in-Ok-clause-tells
returns-in_ok-tell_opened-in-Ok-clause-tells g c =
    let keeper = g.K.Keeper.means in
    let a = keeper c.args.keeper.now in
    let b = keeper c.start.new.keeper in
    starts_as _ _ a b _ _ (subst (λ (r : Result _ Stop). StartsTelling a b r) c.in-Ok.is c.start.ensures.tells)

pub returns-in_err-tell_bad_row-in-Some-clause-tells : goal.returns-in_err-tell_bad_row-in-Some-clause-tells
returns-in_err-tell_bad_row-in-Some-clause-tells g c =
    let keeper = g.K.Keeper.means in
    let a = keeper c.args.keeper.now in
    let b = keeper c.start.new.keeper in
    starts_row _ _ a b c.from_residual-in_err-tell_bad_row-in-Some.result c.in-Err.stop c.in-Some.index c.in-Some.ensures.some (subst (λ (r : Result _ Stop). StartsTelling a b r) c.in-Err.is c.start.ensures.tells)

pub returns-in_ok-tell_bad_row-in-Some-clause-tells : goal.returns-in_ok-tell_bad_row-in-Some-clause-tells
returns-in_ok-tell_bad_row-in-Some-clause-tells g c =
    let keeper = g.K.Keeper.means in
    let a = keeper c.args.keeper.now in
    let b = keeper c.start.new.keeper in
    starts_stop _ _ a b c.in-Err.stop (subst (λ (r : Result _ Stop). StartsTelling a b r) c.in-Err.is c.start.ensures.tells)

pub returns-in-None-clause-tells : goal.returns-in-None-clause-tells
returns-in-None-clause-tells g c =
    let keeper = g.K.Keeper.means in
    let a = keeper c.args.keeper.now in
    let b = keeper c.start.new.keeper in
    starts_stop _ _ a b c.in-Err.stop (subst (λ (r : Result _ Stop). StartsTelling a b r) c.in-Err.is c.start.ensures.tells)

pub returns-in_ok-tell_opened-in-Ok-clause-going : goal.returns-in_ok-tell_opened-in-Ok-clause-going
returns-in_ok-tell_opened-in-Ok-clause-going g c =
    subst g.E.Worlds.is_going (sym c.new.ensures.kept) (subst (λ (r : Result _ Stop). IfOk r g.E.Worlds.is_going) c.in-Ok.is c.start.ensures.going)
