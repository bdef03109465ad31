use Rattle.std.proofs.Common.{Err, refl}
use Rattle.pr_outside.specs.Outside.{Outside}
use Rattle.pr_outside.proofs.Ended.{in_time_same}
use Rattle.pr_outside.proofs.Endings.{ends_behind}
use Rattle.pr_outside.proofs.Opening.{opened_on}
use Rattle.pr_outside.specs.Stores.{IsBadIn}
use Rattle.pr_backfill.proofs.Opened.{opens_more, refused_opens}
use Rattle.pr_backfill.proofs.Telling.{starts_on, starts_refused}
use Rattle.pr_backfill.proofs.Unopened.{front_none, keeps_starts, refused_row, refused_start, same_told, starts_behind}
use Rattle.pr_backfill.proofs.backfill_command.opening.open.Goals as goal

-- the store is opened

pub returns-in-Ok-clause-rows : goal.returns-in-Ok-clause-rows
returns-in-Ok-clause-rows g c =
    let keeper = g.K.Keeper.means in
    starts_behind (keeper c.args.keeper.now).rows (keeper c.start.new.self).rows (keeper c.read_rows.new.keeper).rows c.in-Ok.ensures.ok c.read_rows.ensures.rows

pub returns-in-Ok-clause-opens : goal.returns-in-Ok-clause-opens
returns-in-Ok-clause-opens g c =
    let keeper = g.K.Keeper.means in
    opened_on _ c.args.path.now (keeper c.args.keeper.now).paths (keeper c.start.new.self).paths (keeper c.read_rows.new.keeper).paths c.read_rows.result c.in-Ok.ensures.paths c.read_rows.ensures.paths

pub returns-in-Ok-clause-unopened : goal.returns-in-Ok-clause-unopened
returns-in-Ok-clause-unopened g c = λ same.
    let keeper = g.K.Keeper.means in
    absurd (opens_more c.args.path.now (keeper c.args.keeper.now).paths (keeper c.start.new.self).paths (keeper c.read_rows.new.keeper).paths c.in-Ok.ensures.paths c.read_rows.ensures.paths same)

pub returns-in-Ok-clause-ends : goal.returns-in-Ok-clause-ends
returns-in-Ok-clause-ends g c = λ others.
    let keeper = g.K.Keeper.means in
    let out = g.O.Sink.means in
    let before : Outside = record others { store = keeper c.args.keeper.now; out = out c.args.out.now } in
    let opened : Outside = record others { store = keeper c.start.new.self; out = out c.args.out.now } in
    let now : Outside = record others { store = keeper c.read_rows.new.keeper; out = out c.read_rows.new.out } in
    ends_behind (IsBadIn now.store) ⊥ before opened now c.read_rows.result (refl, refl, c.in-Ok.ensures.cause, refl) (in_time_same before.input.course) (λ e. e) (λ e. e)
    (c.read_rows.ensures.ends others)

-- it is not

pub returns-in-Err-clause-front : goal.returns-in-Err-clause-front
returns-in-Err-clause-front g c =
    front_none _ (g.K.Keeper.means c.start.new.self).rows (g.O.Sink.means c.args.out.now).taken (Err c.from.result)
    (λ at is. refused_row c.in-Err.error at cc)

pub returns-in-Err-clause-bad : goal.returns-in-Err-clause-bad
returns-in-Err-clause-bad g c = λ at is. absurd (refused_row c.in-Err.error at cc)

pub returns-in-Err-clause-rows : goal.returns-in-Err-clause-rows
returns-in-Err-clause-rows g c =
    let keeper = g.K.Keeper.means in
    keeps_starts (keeper c.args.keeper.now).rows (keeper c.start.new.self).rows c.in-Err.ensures.err

pub returns-in-Err-clause-opens : goal.returns-in-Err-clause-opens
returns-in-Err-clause-opens g c =
    let keeper = g.K.Keeper.means in
    refused_opens Unit c.args.path.now (keeper c.args.keeper.now).paths (keeper c.start.new.self).paths c.in-Err.error c.from.result c.from.ensures c.in-Err.ensures.paths

pub returns-in-Err-clause-unopened : goal.returns-in-Err-clause-unopened
returns-in-Err-clause-unopened g c = λ same.
    let keeper = g.K.Keeper.means in
    same_told (keeper c.args.keeper.now).rows (keeper c.start.new.self).rows c.in-Err.ensures.err

pub returns-in-Err-clause-ends : goal.returns-in-Err-clause-ends
returns-in-Err-clause-ends g c = λ others.
    let keeper = g.K.Keeper.means in
    refused_start (keeper c.args.keeper.now) (keeper c.start.new.self) (g.O.Sink.means c.args.out.now) others _ Unit c.in-Err.error c.from.result c.from.ensures c.in-Err.ensures.cause

-- whether its rows are told

pub returns-in-Ok-clause-tells : goal.returns-in-Ok-clause-tells
returns-in-Ok-clause-tells g c =
    let keeper = g.K.Keeper.means in
    starts_on {V = Unit} (keeper c.args.keeper.now) (keeper c.start.new.self) (keeper c.read_rows.new.keeper) tt c.read_rows.result (record { sound = c.in-Ok.ensures.sound; told = c.in-Ok.ensures.tells }) c.read_rows.ensures.tells

pub returns-in-Err-clause-tells : goal.returns-in-Err-clause-tells
returns-in-Err-clause-tells g c =
    let keeper = g.K.Keeper.means in
    starts_refused _ (keeper c.args.keeper.now) (keeper c.start.new.self) c.in-Err.error c.from.result c.from.ensures c.in-Err.ensures.sound
