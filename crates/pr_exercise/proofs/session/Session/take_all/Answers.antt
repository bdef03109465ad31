use Rattle.std.proofs.Common.{◌≡◌, ◌∷◌, ◌∙◌, ◌+◌, [], ◌++◌, List, length, Ok, Err, refl, sym, ap, subst, arith}
use Rattle.pr_outside.proofs.Ended.{quiet}
use Rattle.pr_text.specs.spec_world.declared.event.Event.{Event}
use Rattle.pr_exercise.specs.private.Tallies.{HasRoomForTexts}
use Rattle.pr_exercise.specs.private.Turns.{HaveDistinctFiles}
use Rattle.pr_exercise.proofs.Ended.{calm_keep, keep_on}
use Rattle.pr_exercise.proofs.Progress.{answered_all, answered_halts, answered_none, answered_on, come_err, come_halts, empty}
use Rattle.pr_exercise.proofs.Tallies.{texts_less}
use Rattle.pr_exercise.proofs.Telling.{keeps_error, keeps_none, keeps_on}
use Rattle.pr_exercise.proofs.session.Session.take_all.Goals as goal

pub take-requires-clause-room : goal.take-requires-clause-room
take-requires-clause-room g c =
    let at = c.loop-event in
    let old = at.event-iterator.rest.items in
    let many = length c.args.events.items in
    let parts : old ≡ c.in-Some.event ∷ c.next.new.self.rest.items = c.in-Some.ensures.steps.0 in
    texts_less at.self.tally 1 (0 + length old) (omega (arith, ap length parts))
    (at.invariant.room 0 (texts_less c.args.self.now.tally (0 + many) many (omega arith) c.requires.room))

pub loop-event-init : goal.loop-event-init
loop-event-init g c = record {
  going = λ history done s some. answered_none g.E.Worlds.stands_for history done c.args.events.items c.into_iter-event-iterator.result.rest.items c.args.self.now (g.K.Keeper.means c.args.keeper.now) c.into_iter-event-iterator.ensures.into_iter_gives.0 s;
  files = subst HaveDistinctFiles (sym c.into_iter-event-iterator.ensures.into_iter_gives.0) c.requires.files;
  unbroken = c.requires.going;
  room = λ more r. subst (λ (es : List Event). HasRoomForTexts (more + length es) c.args.self.now.tally) (sym c.into_iter-event-iterator.ensures.into_iter_gives.0) r;
  tells = keeps_none (g.K.Keeper.means c.args.keeper.now) tt;
  told = λ some. some;
  paths = refl;
  calm = refl;
}

pub loop-event-preserved : goal.loop-event-preserved
loop-event-preserved g c =
    let store = g.K.Keeper.means in
    let at = c.loop-event in
    let old = at.event-iterator.rest.items in
    let new = c.next.new.self.rest.items in
    let parts : old ≡ c.in-Some.event ∷ new = c.in-Some.ensures.steps.0 in
    let files = subst HaveDistinctFiles parts at.invariant.files in
    record {
      going = λ history done s some.
          let here = at.invariant.going history done s (c.in_ok-take.ensures.told some) in
          answered_on g.E.Worlds.stands_for history done c.args.events.items (c.in-Some.event ∷ []) new old at.self c.take.new.self (store at.keeper) (store c.take.new.keeper) parts here
          (c.in_ok-take.ensures.comes history (done ++ here.some) here.stands some);
      files = files.1;
      unbroken = c.in_ok-take.ensures.going;
      room = λ more r.
          c.in_ok-take.ensures.room (more + length new) (texts_less at.self.tally (more + length new + 1) (more + length old) (omega (arith, ap length parts)) (at.invariant.room more r));
      tells = keeps_on (store c.args.keeper.now) (store at.keeper) (store c.take.new.keeper) tt (Ok tt) at.invariant.tells c.in_ok-take.ensures.tells;
      told = λ some. at.invariant.told (c.in_ok-take.ensures.told some);
      paths = c.in_ok-take.ensures.paths ∙ at.invariant.paths;
      calm = calm_keep _ (store at.keeper) (store c.take.new.keeper) tt c.in_ok-take.ensures.ends quiet ∙ at.invariant.calm;
    }

pub returns-in_err-take-clause-comes : goal.returns-in_err-take-clause-comes
returns-in_err-take-clause-comes g c = λ history done s some.
    let store = g.K.Keeper.means in
    let at = c.loop-event in
    let here = at.invariant.going history done s (c.in_err-take.ensures.told some) in
    come_err g.E.Worlds.stands_for history (done ++ c.args.events.items) c.take.new.self (store c.take.new.keeper) c.from_residual.result _ c.from_residual.ensures.1
    (answered_halts g.E.Worlds.stands_for history done c.args.events.items (c.in-Some.event ∷ []) c.next.new.self.rest.items at.event-iterator.rest.items at.self (store at.keeper) (store c.take.new.keeper)
    c.in-Some.ensures.steps.0 here
    (come_halts g.E.Worlds.stands_for history Unit ((done ++ here.some) ++ c.in-Some.event ∷ []) c.take.new.self (store c.take.new.keeper) c.in_err-take.field-0.0
    (c.in_err-take.ensures.comes history (done ++ here.some) here.stands some)))

pub returns-in_err-take-clause-told : goal.returns-in_err-take-clause-told
returns-in_err-take-clause-told g c = λ some. c.loop-event.invariant.told (c.in_err-take.ensures.told some)

pub returns-in_err-take-clause-ends : goal.returns-in_err-take-clause-ends
returns-in_err-take-clause-ends g c =
    let store = g.K.Keeper.means in
    keep_on _ _ (store c.args.keeper.now) (store c.loop-event.keeper) (store c.take.new.keeper) c.from_residual.result c.in_err-take.field-0.0 c.from_residual.ensures.1 c.loop-event.invariant.calm
    c.in_err-take.ensures.ends

pub returns-clause-comes : goal.returns-clause-comes
returns-clause-comes g c = λ history done s some.
    let rest = c.loop-event.event-iterator.rest.items in
    let none : length rest ≡ 0 = omega (arith, c.loop-event.event-iterator.rest.ok.0, c.in-None.ensures.steps.0) in
    answered_all g.E.Worlds.stands_for history done c.args.events.items rest c.loop-event.self (g.K.Keeper.means c.loop-event.keeper) (empty rest none) (c.loop-event.invariant.going history done s some)

-- what it leaves

pub returns-in_err-take-clause-tells : goal.returns-in_err-take-clause-tells
returns-in_err-take-clause-tells g c =
    let store = g.K.Keeper.means in
    let at = c.loop-event in
    let e = c.in_err-take.field-0.0 in
    keeps_error _ Unit (store c.args.keeper.now) (store c.take.new.keeper) c.from_residual.result e c.from_residual.ensures.1
    (keeps_on (store c.args.keeper.now) (store at.keeper) (store c.take.new.keeper) tt (Err e) at.invariant.tells c.in_err-take.ensures.tells)

pub returns-clause-tells : goal.returns-clause-tells
returns-clause-tells g c = c.loop-event.invariant.tells

pub returns-clause-going : goal.returns-clause-going
returns-clause-going g c = c.loop-event.invariant.unbroken

pub returns-clause-room : goal.returns-clause-room
returns-clause-room g c = λ more r.
    let at = c.loop-event in
    texts_less at.self.tally more (more + length at.event-iterator.rest.items) (omega arith) (at.invariant.room more r)
