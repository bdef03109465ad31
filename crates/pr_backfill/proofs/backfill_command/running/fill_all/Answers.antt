use Rattle.std.proofs.Common.{Bool, false, Result, Ok, Err, refl, subst}
use Rattle.pr_outside.specs.Ends.{Ends}
use Rattle.pr_outside.specs.Opening.{OpensBy}
use Rattle.pr_outside.specs.declared.status.status.Stop.{Stop}
use Rattle.pr_outside.proofs.Ended.{quiet}
use Rattle.pr_outside.specs.Stores.{IsBadIn, StartsTelling}
use Rattle.pr_backfill.specs.private.Endings.{ending_of}
use Rattle.pr_backfill.proofs.Opened.{stopped_fill}
use Rattle.pr_backfill.proofs.Telling.{starts_any, starts_error}
use Rattle.pr_backfill.proofs.backfill_command.running.fill_all.Goals as goal

pub returns-in-Err-clause-opens : goal.returns-in-Err-clause-opens
returns-in-Err-clause-opens g c =
    let keeper = g.K.Keeper.means in
    let out = g.O.Sink.means in
    let x = keeper c.args.keeper.now in
    let y = keeper c.fill.new.keeper in
    let p = out c.args.out.now in
    let q = out c.fill.new.out in
    let ends = subst (λ (r : Result Unit Stop). Ends (IsBadIn y) ⊥ (record quiet { store = x; out = p }) (record quiet { store = y; out = q }) (ending_of r)) c.in-Err.is (c.fill.ensures.ends quiet) in
    let opens = subst (λ (r : Result Unit Stop). OpensBy c.args.path.now x.paths y.paths r) c.in-Err.is c.fill.ensures.opens in
    stopped_fill Bool Unit (IsBadIn y) x y p q c.args.path.now x.paths y.paths c.in-Err.stop ends opens

-- whether the rows are told

pub returns-in-Ok-clause-tells : goal.returns-in-Ok-clause-tells
returns-in-Ok-clause-tells g c =
    let keeper = g.K.Keeper.means in
    let a = keeper c.args.keeper.now in
    let b = keeper c.fill.new.keeper in
    starts_any a b tt (Ok false) (subst (λ (r : Result Unit Stop). StartsTelling a b r) c.in-Ok.is c.fill.ensures.tells)

pub returns-in-Err-clause-tells : goal.returns-in-Err-clause-tells
returns-in-Err-clause-tells g c =
    let keeper = g.K.Keeper.means in
    let a = keeper c.args.keeper.now in
    let b = keeper c.fill.new.keeper in
    starts_error Bool Unit a b (Err c.in-Err.stop) c.in-Err.stop refl (subst (λ (r : Result Unit Stop). StartsTelling a b r) c.in-Err.is c.fill.ensures.tells)
