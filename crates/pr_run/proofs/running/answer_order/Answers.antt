use Rattle.std.proofs.Common.{◌≡◌, ◌∙◌, ℕ, List, ◌++◌, Result, Err, IfErr, inr, ap, subst, take}
use Rattle.std.specs.Io.KnownBytes.{Appends}
use Rattle.pr_outside.specs.Ends.{no_row}
use Rattle.pr_outside.specs.Outside.{Outside}
use Rattle.pr_outside.specs.declared.status.status.Stop.{Stop}
use Rattle.pr_outside.proofs.Ended.{ends_on, in_time_on, in_time_same, written_by}
use Rattle.pr_outside.specs.Stores.{IsBadIn}
use Rattle.pr_run.specs.private.Standing.{LeavesFront, WritesTurn}
use Rattle.pr_run.specs.Told.{turn}
use Rattle.pr_text.proofs.Lines.{write_row}
use Rattle.pr_outside.proofs.Endings.{bad_of, calm_of, ends_late, ends_wider, row_ends}
use Rattle.pr_run.proofs.Tellings.{keeps_as, keeps_row}
use Rattle.pr_run.proofs.running.answer_order.Goals as goal

pub returns-in-Ok-clause-sends : goal.returns-in-Ok-clause-sends
returns-in-Ok-clause-sends g c = λ others held p keeps told some.
    let files = g.F.Files.means in
    let keeper = g.K.Keeper.means in
    let out = g.O.Sink.means in
    let a : Outside = record others { files = files c.args.files.now; store = keeper c.args.keeper.now; out = out c.args.out.now } in
    let b : Outside = record others { files = files c.take_order.new.files; store = keeper c.take_order.new.keeper; out = out c.args.out.now } in
    let ans = c.in-Ok.ensures.answers (record others { out = out c.args.out.now }) held p keeps told some in
    let text = (turn held p.state c.args.order).answer.text in
    let is : c.deref.result.now ≡ text = c.deref.ensures.value ∙ ans.text ∙ ap (λ (l : List ℕ). l ++ text) c.new-text.ensures.items in
    record {
      told = subst (Appends (out c.args.out.now).taken (out c.send.new.out).taken) is c.in_ok-send-in-Ok.ensures.whole;
      keeps = ans.keeps;
      asked = ans.asked;
    }

pub returns-in-Ok-clause-written : goal.returns-in-Ok-clause-written
returns-in-Ok-clause-written g c = (c.deref.result.now, c.in_ok-send-in-Ok.ensures.whole)

pub returns-in_err-send-in-Ok-clause-row : goal.returns-in_err-send-in-Ok-clause-row
returns-in_err-send-in-Ok-clause-row g c = λ at is.
    absurd (write_row _ _ (g.O.Sink.means c.args.out.now) (g.O.Sink.means c.send.new.out) c.from_residual.result c.in_err-send-in-Ok.field-0.0 at c.from_residual.ensures.1 c.in_err-send-in-Ok.ensures.ends is)

pub returns-in_err-tell_bad_row-in-Some-clause-row : goal.returns-in_err-tell_bad_row-in-Some-clause-row
returns-in_err-tell_bad_row-in-Some-clause-row g c = λ at is.
    absurd (write_row _ _ (g.O.Sink.means c.args.out.now) (g.O.Sink.means c.tell_bad_row.new.out) c.from_residual-in_err-tell_bad_row-in-Some.result c.in_err-tell_bad_row-in-Some.field-0.0 at
    c.from_residual-in_err-tell_bad_row-in-Some.ensures.1 c.in_err-tell_bad_row-in-Some.ensures.ends is)

pub returns-in_err-send-in-Ok-clause-leaves : goal.returns-in_err-send-in-Ok-clause-leaves
returns-in_err-send-in-Ok-clause-leaves g c = λ others held p keeps told some.
    let files = g.F.Files.means in
    let keeper = g.K.Keeper.means in
    let out = g.O.Sink.means in
    let a : Outside = record others { files = files c.args.files.now; store = keeper c.args.keeper.now; out = out c.args.out.now } in
    let b : Outside = record others { files = files c.take_order.new.files; store = keeper c.take_order.new.keeper; out = out c.args.out.now } in
    let d : Outside = record b { out = out c.send.new.out } in
    let ans = c.in-Ok.ensures.answers (record others { out = out c.args.out.now }) held p keeps told some in
    let text = (turn held p.state c.args.order).answer.text in
    let is : c.deref.result.now ≡ text = c.deref.ensures.value ∙ ans.text ∙ ap (λ (l : List ℕ). l ++ text) c.new-text.ensures.items in
    let f = c.in_err-send-in-Ok.ensures.front in
    let w : WritesTurn (turn held p.state c.args.order) a d = record {
      count = f.0;
      told = subst (λ (l : List ℕ). Appends (out c.args.out.now).taken (out c.send.new.out).taken (take f.0 l)) is f.1;
      rows = g.met.E.Worlds.tells c.take_order.new.self.kept (keeper c.take_order.new.keeper) (turn held p.state c.args.order).state.world ans.keeps.world;
      asked = ans.asked;
    } in
    written_by _ Unit (λ (r : Result Unit Stop). IfErr r (LeavesFront (turn held p.state c.args.order) p.state.world.history a d)) (out c.args.out.now) (out c.send.new.out)
    c.from_residual.result c.in_err-send-in-Ok.field-0.0 c.from_residual.ensures.1 c.in_err-send-in-Ok.ensures.ends w (inr w)

pub returns-in_err-send-in-Ok-clause-ends : goal.returns-in_err-send-in-Ok-clause-ends
returns-in_err-send-in-Ok-clause-ends g c = λ others.
    let files = g.F.Files.means in
    let keeper = g.K.Keeper.means in
    let out = g.O.Sink.means in
    let a : Outside = record others { files = files c.args.files.now; store = keeper c.args.keeper.now; out = out c.args.out.now } in
    let b : Outside = record others { files = files c.take_order.new.files; store = keeper c.take_order.new.keeper; out = out c.args.out.now } in
    let d : Outside = record b { out = out c.send.new.out } in
    let l = c.in-Ok.ensures.ends (record others { out = out c.args.out.now }) in
    ends_on _ _ (IsBadIn d.store) ⊥ a b d c.from_residual.result c.in_err-send-in-Ok.field-0.0 c.from_residual.ensures.1 l.cause (in_time_same a.input.course) l.files (λ e. e)
    (ends_wider _ no_row (IsBadIn d.store) ⊥ ⊥ b d (Err c.in_err-send-in-Ok.field-0.0) (λ i no. absurd no) (λ never. never) (c.in_err-send-in-Ok.ensures.ends b))

pub returns-in-Ok-clause-ends : goal.returns-in-Ok-clause-ends
returns-in-Ok-clause-ends g c = λ others.
    let files = g.F.Files.means in
    let keeper = g.K.Keeper.means in
    let out = g.O.Sink.means in
    let a : Outside = record others { files = files c.args.files.now; store = keeper c.args.keeper.now; out = out c.args.out.now } in
    let b : Outside = record others { files = files c.take_order.new.files; store = keeper c.take_order.new.keeper; out = out c.args.out.now } in
    let d : Outside = record b { out = out c.send.new.out } in
    let l = c.in-Ok.ensures.ends (record others { out = out c.args.out.now }) in
    let t = c.in_ok-send-in-Ok.ensures.ends b in
    record {
      cause = (t.cause.0 ∙ l.cause.0, t.cause.1 ∙ l.cause.1, t.cause.2 ∙ l.cause.2, t.cause.3 ∙ l.cause.3);
      input = in_time_same others.input.course;
      files = l.files;
      out = t.out;
    }

pub returns-in_err-tell_bad_row-in-Some-clause-leaves : goal.returns-in_err-tell_bad_row-in-Some-clause-leaves
returns-in_err-tell_bad_row-in-Some-clause-leaves g c = λ others held p keeps told some.
    let files = g.F.Files.means in
    let keeper = g.K.Keeper.means in
    let out = g.O.Sink.means in
    let a : Outside = record others { files = files c.args.files.now; store = keeper c.args.keeper.now; out = out c.args.out.now } in
    let b : Outside = record others { files = files c.take_order.new.files; store = keeper c.take_order.new.keeper; out = out c.args.out.now } in
    absurd (subst (LeavesFront (turn held p.state c.args.order) p.state.world.history a b) c.in-Some.ensures.some
    (c.in-Err.ensures.leaves (record others { out = out c.args.out.now }) held p keeps told some))

pub returns-in-Some-clause-leaves : goal.returns-in-Some-clause-leaves
returns-in-Some-clause-leaves g c = λ others held p keeps told some.
    let files = g.F.Files.means in
    let keeper = g.K.Keeper.means in
    let out = g.O.Sink.means in
    let a : Outside = record others { files = files c.args.files.now; store = keeper c.args.keeper.now; out = out c.args.out.now } in
    let b : Outside = record others { files = files c.take_order.new.files; store = keeper c.take_order.new.keeper; out = out c.args.out.now } in
    absurd (subst (LeavesFront (turn held p.state c.args.order) p.state.world.history a b) c.in-Some.ensures.some
    (c.in-Err.ensures.leaves (record others { out = out c.args.out.now }) held p keeps told some))

pub returns-clause-leaves : goal.returns-clause-leaves
returns-clause-leaves g c = λ others held p keeps told some.
    c.in-Err.ensures.leaves (record others { out = g.O.Sink.means c.args.out.now }) held p keeps told some

pub returns-in_err-tell_bad_row-in-Some-clause-ends : goal.returns-in_err-tell_bad_row-in-Some-clause-ends
returns-in_err-tell_bad_row-in-Some-clause-ends g c = λ others.
    let files = g.F.Files.means in
    let keeper = g.K.Keeper.means in
    let out = g.O.Sink.means in
    let a : Outside = record others { files = files c.args.files.now; store = keeper c.args.keeper.now; out = out c.args.out.now } in
    let b : Outside = record others { files = files c.take_order.new.files; store = keeper c.take_order.new.keeper; out = out c.args.out.now } in
    let d : Outside = record b { out = out c.tell_bad_row.new.out } in
    let l = c.in-Err.ensures.ends (record others { out = out c.args.out.now }) in
    ends_late _ _ (IsBadIn d.store) ⊥ a b d c.from_residual-in_err-tell_bad_row-in-Some.result c.in_err-tell_bad_row-in-Some.field-0.0 c.from_residual-in_err-tell_bad_row-in-Some.ensures.1
    (calm_of _ (IsBadIn b.store) ⊥ a b c.in-Err.stop c.in-Some.index c.in-Some.ensures.some l) (in_time_same a.input.course) l.files (λ e. e)
    (ends_wider _ no_row (IsBadIn d.store) ⊥ ⊥ b d (Err c.in_err-tell_bad_row-in-Some.field-0.0) (λ i no. absurd no) (λ never. never) (c.in_err-tell_bad_row-in-Some.ensures.ends b))

pub returns-in-Some-clause-ends : goal.returns-in-Some-clause-ends
returns-in-Some-clause-ends g c = λ others.
    let files = g.F.Files.means in
    let keeper = g.K.Keeper.means in
    let out = g.O.Sink.means in
    let a : Outside = record others { files = files c.args.files.now; store = keeper c.args.keeper.now; out = out c.args.out.now } in
    let b : Outside = record others { files = files c.take_order.new.files; store = keeper c.take_order.new.keeper; out = out c.args.out.now } in
    let d : Outside = record b { out = out c.tell_bad_row.new.out } in
    let l = c.in-Err.ensures.ends (record others { out = out c.args.out.now }) in
    let calm = calm_of _ (IsBadIn b.store) ⊥ a b c.in-Err.stop c.in-Some.index c.in-Some.ensures.some l in
    let t = c.in_ok-tell_bad_row-in-Some.ensures.ends b in
    row_ends _ (IsBadIn d.store) ⊥ a d c.in-Err.stop c.in-Some.index c.in-Some.ensures.some (t.cause.0 ∙ calm.0, t.cause.1 ∙ calm.1, t.cause.2 ∙ calm.2, t.cause.3 ∙ calm.3)
    (bad_of _ (IsBadIn b.store) ⊥ a b c.in-Err.stop c.in-Some.index c.in-Some.ensures.some l)
    (in_time_same a.input.course) l.files (in_time_on a.out.course d.out.course d.out.course t.out (in_time_same d.out.course))

pub returns-clause-ends : goal.returns-clause-ends
returns-clause-ends g c = λ others.
    c.in-Err.ensures.ends (record others { out = g.O.Sink.means c.args.out.now })

-- told rows stay told

pub returns-in_err-send-in-Ok-clause-tells : goal.returns-in_err-send-in-Ok-clause-tells
returns-in_err-send-in-Ok-clause-tells g c =
    let keeper = g.K.Keeper.means in
    let a = keeper c.args.keeper.now in
    let b = keeper c.take_order.new.keeper in
    keeps_as _ _ a b _ c.from_residual.result c.in-Ok.ensures.tells

pub returns-in-Ok-clause-tells : goal.returns-in-Ok-clause-tells
returns-in-Ok-clause-tells g c =
    let keeper = g.K.Keeper.means in
    let a = keeper c.args.keeper.now in
    let b = keeper c.take_order.new.keeper in
    keeps_as _ _ a b _ _ c.in-Ok.ensures.tells

pub returns-in_err-tell_bad_row-in-Some-clause-tells : goal.returns-in_err-tell_bad_row-in-Some-clause-tells
returns-in_err-tell_bad_row-in-Some-clause-tells g c =
    let keeper = g.K.Keeper.means in
    let a = keeper c.args.keeper.now in
    let b = keeper c.take_order.new.keeper in
    keeps_row _ _ a b c.from_residual-in_err-tell_bad_row-in-Some.result c.in-Err.stop c.in-Some.index c.in-Some.ensures.some c.in-Err.ensures.tells

pub returns-in-Some-clause-tells : goal.returns-in-Some-clause-tells
returns-in-Some-clause-tells g c =
    let keeper = g.K.Keeper.means in
    let a = keeper c.args.keeper.now in
    let b = keeper c.take_order.new.keeper in
    c.in-Err.ensures.tells

pub returns-clause-tells : goal.returns-clause-tells
returns-clause-tells g c =
    let keeper = g.K.Keeper.means in
    let a = keeper c.args.keeper.now in
    let b = keeper c.take_order.new.keeper in
    c.in-Err.ensures.tells
