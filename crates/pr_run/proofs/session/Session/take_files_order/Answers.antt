use Rattle.std.proofs.Common.{◌∙◌, Ok, length, refl, sym, subst}
use Rattle.pr_text.specs.declared.script.order.Order.TheVariants as order
use Rattle.pr_queue.specs.private.Standing as waiting
use Rattle.pr_outside.specs.Outside.{Outside}
use Rattle.pr_outside.proofs.Ended.{ends_on}
use Rattle.pr_outside.proofs.StatusStreams.{appends_none}
use Rattle.pr_text.proofs.WorldRefusals.{refused_files_are_told}
use Rattle.pr_text.specs.spec_world.Loading.{reload_asked}
use Rattle.pr_text.specs.spec_world.Settings.{of_a_run}
use Rattle.pr_outside.specs.Stores.{IsBadIn}
use Rattle.pr_run.specs.private.Standing.{WorldGives}
use Rattle.pr_run.specs.Told.{asks_for, asks_in_time, content_by}
use Rattle.pr_run.proofs.Answering.{answers_so, files_told, files_turn, leaves_by, leaves_memory, made, memory_on}
use Rattle.pr_run.proofs.Tellings.{keeps_as, keeps_err}
use Rattle.pr_run.proofs.session.Session.take_files_order.Goals as goal

pub returns-in_err-report-clause-leaves : goal.returns-in_err-report-clause-leaves
returns-in_err-report-clause-leaves g c = λ others held p number keeps told some.
    let keeper = g.K.Keeper.means in
    let a : Outside = record others { files = g.F.Files.means c.args.files.now; store = keeper c.args.keeper.now } in
    let d : Outside = record others { files = g.F.Files.means c.take_reload.new.files; store = keeper c.take_reload.new.keeper } in
    leaves_by g.E.Worlds.stands_for held p (made number (order.Reload c.args.time c.args.names)) (reload_asked of_a_run p.state.world c.args.time (content_by held) c.args.names)
    (asks_in_time p.state.world.last c.args.time (asks_for (content_by held) c.args.names)) a d (files_turn held p.state number c.args.time c.args.names) c.take_reload.new.self.kept
    c.from_residual.result c.in_err-report.field-0.0 c.from_residual.ensures.1 (appends_none others.out.taken) (c.in_err-report.ensures.gives others held p.state.world keeps.world (files_told held p.state number c.args.time c.args.names (g.F.Files.means c.args.files.now).content told) some)

pub returns-in_err-tell-clause-leaves : goal.returns-in_err-tell-clause-leaves
returns-in_err-tell-clause-leaves g c = λ others held p number keeps told some.
    let keeper = g.K.Keeper.means in
    let a : Outside = record others { files = g.F.Files.means c.args.files.now; store = keeper c.args.keeper.now } in
    let d : Outside = record others { files = g.F.Files.means c.take_reload.new.files; store = keeper c.take_reload.new.keeper } in
    leaves_memory g.E.Worlds.stands_for held p (made number (order.Reload c.args.time c.args.names)) (reload_asked of_a_run p.state.world c.args.time (content_by held) c.args.names)
    (asks_in_time p.state.world.last c.args.time (asks_for (content_by held) c.args.names)) a d (files_turn held p.state number c.args.time c.args.names) g.met.E.Worlds.tells
    c.take_reload.new.self.kept c.in_ok-report.report c.from_residual-in_err-tell.result c.from_residual-in_err-tell.ensures.1 (appends_none others.out.taken)
    (c.in_ok-report.ensures.gives others held p.state.world keeps.world (files_told held p.state number c.args.time c.args.names (g.F.Files.means c.args.files.now).content told) some)

pub returns-clause-answers : goal.returns-clause-answers
returns-clause-answers g c = λ others held p number keeps told some.
    let keeper = g.K.Keeper.means in
    let a : Outside = record others { files = g.F.Files.means c.args.files.now; store = keeper c.args.keeper.now } in
    let d : Outside = record others { files = g.F.Files.means c.take_reload.new.files; store = keeper c.take_reload.new.keeper } in
    let gives = c.in_ok-report.ensures.gives others held p.state.world keeps.world (files_told held p.state number c.args.time c.args.names (g.F.Files.means c.args.files.now).content told) some in
    let tell = c.in_ok-tell.ensures in
    answers_so g.E.Worlds.stands_for held p (made number (order.Reload c.args.time c.args.names)) (reload_asked of_a_run p.state.world c.args.time (content_by held) c.args.names)
    (asks_in_time p.state.world.last c.args.time (asks_for (content_by held) c.args.names)) a d (files_turn held p.state number c.args.time c.args.names) c.tell.new.self c.args.text.now.items c.tell.new.text.items c.in_ok-report.report c.take_reload.new.self.refused
    (subst (λ (k : _). WorldGives g.E.Worlds.stands_for p.state.world (reload_asked of_a_run p.state.world c.args.time (content_by held) c.args.names) (length (asks_in_time p.state.world.last c.args.time (asks_for (content_by held) c.args.names))) a d k (Ok c.in_ok-report.report)) (sym tell.kept) gives)
    (refused_files_are_told of_a_run p.state.world c.args.time (content_by held) c.args.names) tell.text tell.refused (c.in_ok-report.ensures.refused ∙ keeps.refused)
    (tell.receivers p.state.receivers (subst (λ (q : _). waiting.StandsFor q p.state.receivers) (sym c.in_ok-report.ensures.queues) keeps.receivers))

pub returns-in_err-report-clause-ends : goal.returns-in_err-report-clause-ends
returns-in_err-report-clause-ends g c = λ others.
    let keeper = g.K.Keeper.means in
    let a : Outside = record others { files = g.F.Files.means c.args.files.now; store = keeper c.args.keeper.now } in
    let d : Outside = record others { files = g.F.Files.means c.take_reload.new.files; store = keeper c.take_reload.new.keeper } in
    ends_on _ _ (IsBadIn d.store) ⊥ a a d c.from_residual.result c.in_err-report.field-0.0 c.from_residual.ensures.1 (refl, refl, refl, refl) (c.in_err-report.ensures.ends others).input (λ e. e) (λ e. e)
    (c.in_err-report.ensures.ends others)

pub returns-in_err-tell-clause-ends : goal.returns-in_err-tell-clause-ends
returns-in_err-tell-clause-ends g c = λ others.
    let keeper = g.K.Keeper.means in
    let a : Outside = record others { files = g.F.Files.means c.args.files.now; store = keeper c.args.keeper.now } in
    let d : Outside = record others { files = g.F.Files.means c.take_reload.new.files; store = keeper c.take_reload.new.keeper } in
    let l = c.in_ok-report.ensures.ends others in
    memory_on (IsBadIn d.store) ⊥ a d c.from_residual-in_err-tell.result c.from_residual-in_err-tell.ensures.1 l.cause l.input l.files l.out

pub returns-clause-ends : goal.returns-clause-ends
returns-clause-ends g c = λ others.
    let l = c.in_ok-report.ensures.ends others in
    record { cause = l.cause; input = l.input; files = l.files; out = l.out }

-- told rows stay told, and what answers goes on

pub returns-in_err-report-clause-tells : goal.returns-in_err-report-clause-tells
returns-in_err-report-clause-tells g c =
    let keeper = g.K.Keeper.means in
    keeps_err _ _ (keeper c.args.keeper.now) (keeper c.take_reload.new.keeper) c.from_residual.result c.in_err-report.field-0.0 c.from_residual.ensures.1 c.in_err-report.ensures.tells

pub returns-in_err-tell-clause-tells : goal.returns-in_err-tell-clause-tells
returns-in_err-tell-clause-tells g c =
    let keeper = g.K.Keeper.means in
    keeps_as _ _ (keeper c.args.keeper.now) (keeper c.take_reload.new.keeper) _ c.from_residual-in_err-tell.result c.in_ok-report.ensures.tells

pub returns-clause-tells : goal.returns-clause-tells
returns-clause-tells g c =
    let keeper = g.K.Keeper.means in
    keeps_as _ _ (keeper c.args.keeper.now) (keeper c.take_reload.new.keeper) _ _ c.in_ok-report.ensures.tells

pub returns-clause-going : goal.returns-clause-going
returns-clause-going g c = subst g.E.Worlds.is_going (sym c.in_ok-tell.ensures.kept) c.in_ok-report.ensures.going
