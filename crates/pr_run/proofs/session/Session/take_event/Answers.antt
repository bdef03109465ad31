use Rattle.std.proofs.Common.{sym, subst}
use Rattle.pr_text.specs.spec_world.Settings.{of_a_run}
use Rattle.pr_text.specs.spec_world.Step.{next}
use Rattle.pr_run.specs.private.Keeping.{Run}
use Rattle.pr_run.proofs.Answering.{event_gives, event_grown}
use Rattle.pr_run.proofs.session.Session.take_event.Goals as goal

pub returns-clause-gives : goal.returns-clause-gives
returns-clause-gives g c = λ others w s some.
    let t = subst (λ (r : Run _). g.E.Worlds.stands_for r.kept (g.K.Keeper.means c.args.keeper.now) w) (sym c.self.view_is) s in
    event_gives g.E.Worlds.stands_for w (next of_a_run w c.args.event) c.answer.new.self others (g.K.Keeper.means c.args.keeper.now) (g.K.Keeper.means c.answer.new.keeper) c.answer.result some
    (c.answer.ensures.report w t) (c.answer.ensures.world w t some) (c.answer.ensures.err w t) c.answer.ensures.ends

pub returns-clause-grows : goal.returns-clause-grows
returns-clause-grows g c = λ w s some.
    let t = subst (λ (r : Run _). g.E.Worlds.stands_for r.kept (g.K.Keeper.means c.args.keeper.now) w) (sym c.self.view_is) s in
    event_grown g.E.Worlds.stands_for w c.args.event c.answer.new.self (g.K.Keeper.means c.answer.new.keeper) c.answer.result
    (c.answer.ensures.world w t some) (c.answer.ensures.err w t)

-- told rows stay told, and what answers goes on

pub answer-requires-clause-going : goal.answer-requires-clause-going
answer-requires-clause-going g c = subst (λ (r : Run _). g.E.Worlds.is_going r.kept) (sym c.self.view_is) c.requires.going
