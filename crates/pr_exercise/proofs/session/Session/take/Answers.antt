use Rattle.std.proofs.Common.{◌++◌, ◌∷◌, [], refl, sym, subst}
use Rattle.pr_text.specs.spec_rules.Settings.{of_a_run}
use Rattle.pr_text.specs.spec_world.Step.{next}
use Rattle.pr_outside.proofs.Ended.{quiet}
use Rattle.pr_exercise.proofs.Progress.{come, come_err, halts_at, stands_on, stands_uncounted}
use Rattle.pr_exercise.proofs.Ended.{calm_keep, keep_done, keep_memory, keep_on}
use Rattle.pr_exercise.proofs.Telling.{keeps_any, keeps_error}
use Rattle.pr_exercise.proofs.session.Session.take.Goals as goal

pub returns-in_err-report-clause-comes : goal.returns-in_err-report-clause-comes
returns-in_err-report-clause-comes g c = λ history done s some.
    come_err g.E.Worlds.stands_for history (done ++ c.args.event ∷ []) _ _ c.from_residual.result _ c.from_residual.ensures.1
    (halts_at history done (c.args.event ∷ []) (g.K.Keeper.means c.answer.new.keeper) (c.in_err-report.ensures.err (come history done) s.world))

pub returns-in_err-tell-clause-comes : goal.returns-in_err-tell-clause-comes
returns-in_err-tell-clause-comes g c = λ history done s some.
    let store = g.K.Keeper.means c.answer.new.keeper in
    come_err g.E.Worlds.stands_for history (done ++ c.args.event ∷ []) _ _ c.from_residual-in_err-tell.result _ c.from_residual-in_err-tell.ensures.1
    (stands_uncounted g.E.Worlds.stands_for history done c.args.event c.answer.new.self store (g.met.E.Worlds.tells c.answer.new.self store)
    (c.in_ok-report.ensures.world (come history done) s.world some))

pub returns-clause-comes : goal.returns-clause-comes
returns-clause-comes g c = λ history done s some.
    let store = g.K.Keeper.means c.answer.new.keeper in
    let w = come history done in
    stands_on g.E.Worlds.stands_for history done c.args.event c.args.self.now c.tell.new.self (g.K.Keeper.means c.args.keeper.now) store c.in_ok-report.report s
    (c.in_ok-report.ensures.report w s.world)
    (subst (λ (k : _). g.E.Worlds.stands_for k store (next of_a_run w c.args.event).world) (sym c.tell.ensures.kept) (c.in_ok-report.ensures.world w s.world some))
    c.in_ok-tell.ensures.tally

pub returns-in_err-report-clause-ends : goal.returns-in_err-report-clause-ends
returns-in_err-report-clause-ends g c =
    let store = g.K.Keeper.means in
    keep_on _ _ (store c.args.keeper.now) (store c.args.keeper.now) (store c.answer.new.keeper) c.from_residual.result c.in_err-report.field-0.0 c.from_residual.ensures.1 refl
    c.in_err-report.ensures.ends

pub returns-in_err-tell-clause-ends : goal.returns-in_err-tell-clause-ends
returns-in_err-tell-clause-ends g c =
    let store = g.K.Keeper.means in
    keep_memory _ (store c.args.keeper.now) (store c.answer.new.keeper) c.from_residual-in_err-tell.result c.from_residual-in_err-tell.ensures.1
    (calm_keep _ (store c.args.keeper.now) (store c.answer.new.keeper) c.in_ok-report.report c.in_ok-report.ensures.ends quiet)

pub returns-clause-ends : goal.returns-clause-ends
returns-clause-ends g c =
    let store = g.K.Keeper.means in
    keep_done Unit (store c.args.keeper.now) (store c.answer.new.keeper) tt
    (calm_keep _ (store c.args.keeper.now) (store c.answer.new.keeper) c.in_ok-report.report c.in_ok-report.ensures.ends quiet)

-- what it leaves

pub returns-clause-going : goal.returns-clause-going
returns-clause-going g c = subst g.E.Worlds.is_going (sym c.tell.ensures.kept) c.in_ok-report.ensures.going

pub returns-clause-room : goal.returns-clause-room
returns-clause-room g c = c.in_ok-tell.ensures.room

pub returns-in_err-report-clause-tells : goal.returns-in_err-report-clause-tells
returns-in_err-report-clause-tells g c =
    let store = g.K.Keeper.means in
    keeps_error _ _ (store c.args.keeper.now) (store c.answer.new.keeper) c.from_residual.result c.in_err-report.field-0.0 c.from_residual.ensures.1 c.in_err-report.ensures.tells

pub returns-in_err-tell-clause-tells : goal.returns-in_err-tell-clause-tells
returns-in_err-tell-clause-tells g c =
    let store = g.K.Keeper.means in
    keeps_any (store c.args.keeper.now) (store c.answer.new.keeper) c.in_ok-report.report c.from_residual-in_err-tell.result c.in_ok-report.ensures.tells

pub returns-clause-tells : goal.returns-clause-tells
returns-clause-tells g c =
    let store = g.K.Keeper.means in
    keeps_any (store c.args.keeper.now) (store c.answer.new.keeper) c.in_ok-report.report _ c.in_ok-report.ensures.tells
