use Rattle.std.proofs.Common.{[], Result, subst}
use Rattle.pr_outside.specs.Opening.{OpensBy}
use Rattle.pr_outside.specs.Outside.{Outside}
use Rattle.pr_outside.specs.declared.status.status.Stop.{Stop}
use Rattle.pr_outside.proofs.Ended.{quiet}
use Rattle.pr_outside.proofs.Endings.{bad_of, ends_as}
use Rattle.pr_outside.specs.Stores.{KeepEnds, IsBadIn, StartsTelling}
use Rattle.pr_exercise.proofs.Opening.{stop_front, stop_opened}
use Rattle.pr_exercise.proofs.Telling.{starts_stop}
use Rattle.pr_exercise.proofs.running.open.Goals as goal

pub returns-in-Ok-clause-ends : goal.returns-in-Ok-clause-ends
returns-in-Ok-clause-ends g c = λ others.
    let keeper = g.K.Keeper.means in
    let out = g.O.Sink.means c.args.out.now in
    let l = subst (λ (r : Result _ Stop). KeepEnds (keeper c.args.keeper.now) (keeper c.start.new.keeper) r) c.in-Ok.is c.start.ensures.ends (record others { out = out }) in
    record { cause = l.cause; input = l.input; files = l.files; out = l.out }

pub returns-in-Err-clause-front : goal.returns-in-Err-clause-front
returns-in-Err-clause-front g c =
    let keeper = g.K.Keeper.means in
    let out = g.O.Sink.means in
    let a : Outside = record quiet { store = keeper c.args.keeper.now } in
    let b : Outside = record quiet { store = keeper c.start.new.keeper } in
    let l = subst (λ (r : Result _ Stop). KeepEnds a.store b.store r) c.in-Err.is c.start.ensures.ends quiet in
    stop_front g.row.E.Denot (out c.args.out.now).taken (out c.told_stop.new.out).taken b.store.rows c.in-Err.stop c.told_stop.result
    (λ at row. bad_of _ (IsBadIn b.store) ⊥ a b c.in-Err.stop at row l) c.told_stop.ensures.front

pub returns-in-Err-clause-bad : goal.returns-in-Err-clause-bad
returns-in-Err-clause-bad g c = λ at is. c.told_stop.ensures.row at cc

pub returns-in-Err-clause-ends : goal.returns-in-Err-clause-ends
returns-in-Err-clause-ends g c = λ others.
    let keeper = g.K.Keeper.means in
    let out = g.O.Sink.means in
    let a : Outside = record others { store = keeper c.args.keeper.now; out = out c.args.out.now } in
    let b : Outside = record others { store = keeper c.start.new.keeper; out = out c.args.out.now } in
    let d : Outside = record b { out = out c.told_stop.new.out } in
    let l = subst (λ (r : Result _ Stop). KeepEnds a.store b.store r) c.in-Err.is c.start.ensures.ends a in
    ends_as Unit _ (IsBadIn d.store) ⊥ a d c.told_stop.result (c.told_stop.ensures.ends a b (ends_as _ Unit (IsBadIn b.store) ⊥ a b c.in-Err.stop l))

-- the store in memory is opened, unless the start was refused

pub returns-in-Ok-clause-opens : goal.returns-in-Ok-clause-opens
returns-in-Ok-clause-opens g c =
    let keeper = g.K.Keeper.means in
    subst (λ (r : Result _ Stop). OpensBy [] (keeper c.args.keeper.now).paths (keeper c.start.new.keeper).paths r) c.in-Ok.is c.start.ensures.opens

pub returns-in-Err-clause-opens : goal.returns-in-Err-clause-opens
returns-in-Err-clause-opens g c =
    let keeper = g.K.Keeper.means in
    let a = (keeper c.args.keeper.now).paths in
    let b = (keeper c.start.new.keeper).paths in
    stop_opened g.row.E.Denot g.row.E.Denot [] a b c.in-Err.stop c.told_stop.result (subst (λ (r : Result _ Stop). OpensBy [] a b r) c.in-Err.is c.start.ensures.opens) (λ other. (c.told_stop.ensures.other other).0)

-- and its rows are told

pub returns-in-Ok-clause-tells : goal.returns-in-Ok-clause-tells
returns-in-Ok-clause-tells g c =
    let keeper = g.K.Keeper.means in
    subst (λ (r : Result _ Stop). StartsTelling (keeper c.args.keeper.now) (keeper c.start.new.keeper) r) c.in-Ok.is c.start.ensures.tells

pub returns-in-Err-clause-tells : goal.returns-in-Err-clause-tells
returns-in-Err-clause-tells g c =
    let keeper = g.K.Keeper.means in
    let a = keeper c.args.keeper.now in
    let b = keeper c.start.new.keeper in
    starts_stop g.row.E.Denot g.row.E.Denot a b c.in-Err.stop c.told_stop.result (λ other. (c.told_stop.ensures.other other).0)
    (subst (λ (r : Result _ Stop). StartsTelling a b r) c.in-Err.is c.start.ensures.tells)
