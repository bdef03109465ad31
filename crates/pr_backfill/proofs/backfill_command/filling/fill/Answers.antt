use Rattle.std.proofs.Common.{List, Option, Err, IsSome, ap, inl, map, refl, subst}
use Rattle.std.specs.Prelude.{is_some}
use Rattle.pr_outside.specs.private.Kept.{StartsRows}
use Rattle.pr_outside.specs.Meant.{Output}
use Rattle.pr_outside.specs.spec_history.declared.row.Row.{Row}
use Rattle.pr_backfill.specs.Filled.{filled}
use Rattle.pr_outside.specs.Ends.{no_row}
use Rattle.pr_outside.specs.Outside.{Outside}
use Rattle.pr_outside.specs.declared.status.status.Stop.{Stop}
use Rattle.pr_outside.specs.declared.status.status.Stop.TheVariants.{Memory}
use Rattle.pr_outside.proofs.Ended.{ends_memory, in_time_same}
use Rattle.pr_outside.proofs.Opening.{opened_on, opening_error}
use Rattle.pr_outside.specs.Stores.{IsBadIn}
use Rattle.pr_outside.proofs.Endings.{ends_behind, bad_of, ends_wider}
use Rattle.pr_checks.specs.private.RulesTaken.{loaded_of}
use Rattle.pr_backfill.specs.private.Standing.{FillingFinishes}
use Rattle.pr_backfill.proofs.Opened.{opens_more}
use Rattle.pr_backfill.proofs.Over.{at_rows, ends_ending, ends_error, filled_over, on_rows, row_error, unopened}
use Rattle.pr_backfill.proofs.Parts.{part_fine}
use Rattle.pr_backfill.proofs.Telling.{starts_error, starts_memory, starts_on}
use Rattle.pr_backfill.proofs.Unopened.{front_none, starts_same, told_still}
use Rattle.pr_backfill.proofs.backfill_command.filling.fill.Goals as goal

-- the groups could not be made

pub returns-in_err-groups-clause-over : goal.returns-in_err-groups-clause-over
returns-in_err-groups-clause-over g c = λ others.
    let now : Outside = record others { store = g.K.Keeper.means c.args.keeper.now; out = g.O.Sink.means c.args.out.now } in
    on_rows now.store.rows _ (λ all is.
    unopened now now all is c.rows_decode_as_their_entries.ensures.only (map loaded_of c.args.files.items) c.args.times Unit c.from_residual.result Memory c.from_residual.ensures.1
    (subst (StartsRows now.store.rows) is (starts_same now.store.rows)) (at_rows now.store.rows _ all is (front_none Unit now.store.rows now.out.taken (Err Memory) (λ at e. absurd cc)))
    (λ at e. absurd cc))

pub returns-in_err-groups-clause-bad : goal.returns-in_err-groups-clause-bad
returns-in_err-groups-clause-bad g c = λ at is. let row = row_error c.from_residual.result Memory at c.from_residual.ensures.1 is in absurd cc

pub returns-in_err-groups-clause-ends : goal.returns-in_err-groups-clause-ends
returns-in_err-groups-clause-ends g c = λ others.
    let now : Outside = record others { store = g.K.Keeper.means c.args.keeper.now; out = g.O.Sink.means c.args.out.now } in
    ends_error Unit (IsBadIn now.store) ⊥ now now c.from_residual.result Memory c.from_residual.ensures.1 (ends_memory Unit (IsBadIn now.store) ⊥ now)

-- the store was not opened, or has a bad row

pub returns-in_err-head-clause-over : goal.returns-in_err-head-clause-over
returns-in_err-head-clause-over g c = λ others.
    let before : Outside = record others { store = g.K.Keeper.means c.args.keeper.now; out = g.O.Sink.means c.args.out.now } in
    let now : Outside = record others { store = g.K.Keeper.means c.open.new.keeper; out = g.O.Sink.means c.open.new.out } in
    let o = c.in_err-head.ensures in
    let e = c.in_err-head.field-0.0 in
    on_rows now.store.rows _ (λ all is.
    unopened before now all is c.rows_decode_as_their_entries.ensures.only (map loaded_of c.args.files.items) c.args.times _ c.from_residual-in_err-head.result e c.from_residual-in_err-head.ensures.1
    (subst (StartsRows before.store.rows) is o.rows) (at_rows now.store.rows _ all is o.front)
    (λ at row. at_rows now.store.rows _ all is (bad_of _ (IsBadIn now.store) ⊥ before now e at row (o.ends others))))

pub returns-in_err-head-clause-bad : goal.returns-in_err-head-clause-bad
returns-in_err-head-clause-bad g c = λ at is.
    c.in_err-head.ensures.bad at (ap (λ (s : Stop). Err s) (row_error c.from_residual-in_err-head.result c.in_err-head.field-0.0 at c.from_residual-in_err-head.ensures.1 is))

pub returns-in_err-head-clause-ends : goal.returns-in_err-head-clause-ends
returns-in_err-head-clause-ends g c = λ others.
    let before : Outside = record others { store = g.K.Keeper.means c.args.keeper.now; out = g.O.Sink.means c.args.out.now } in
    let now : Outside = record others { store = g.K.Keeper.means c.open.new.keeper; out = g.O.Sink.means c.open.new.out } in
    ends_error _ (IsBadIn now.store) ⊥ before now c.from_residual-in_err-head.result c.in_err-head.field-0.0 c.from_residual-in_err-head.ensures.1 (c.in_err-head.ensures.ends others)

-- it was filled, or was stopped

pub returns-clause-over : goal.returns-clause-over
returns-clause-over g c = λ others.
    let before : Outside = record others { store = g.K.Keeper.means c.args.keeper.now; out = g.O.Sink.means c.args.out.now } in
    let opened = g.K.Keeper.means c.open.new.keeper in
    let now : Outside = record others { store = g.K.Keeper.means c.fill_over.new.keeper; out = g.O.Sink.means c.fill_over.new.out } in
    let files = map loaded_of c.args.files.items in
    let l = c.in_ok-head.ensures.head in
    let part = c.fill_over.ensures.part in
    on_rows now.store.rows _ (λ all is.
    let some : IsSome now.store.rows = ap (λ (o : Option (List Row)). is_some o) is in
    filled_over before now all is c.rows_decode_as_their_entries.ensures.only opened.rows files c.args.times l.history c.fill_over.result c.in_ok-head.ensures.rows (part.some some) l.tells.rows
    (subst (λ (o : Output). FillingFinishes l.history (filled l.history files c.args.times) now.store o.taken now.out.taken c.fill_over.result) c.in_ok-head.ensures.unwritten
    (c.fill_over.ensures.finishes l.history files (record { holds = l.head; each = c.in_ok-groups.ensures l.history }) l.tells))
    (λ index. part_fine _ opened now.store (g.O.Sink.means c.open.new.out) now.out c.fill_over.result index part))

pub returns-clause-bad : goal.returns-clause-bad
returns-clause-bad g c = λ at is.
    absurd (part_fine _ (g.K.Keeper.means c.open.new.keeper) (g.K.Keeper.means c.fill_over.new.keeper) (g.O.Sink.means c.open.new.out) (g.O.Sink.means c.fill_over.new.out) c.fill_over.result at c.fill_over.ensures.part is)

pub returns-clause-ends : goal.returns-clause-ends
returns-clause-ends g c = λ others.
    let before : Outside = record others { store = g.K.Keeper.means c.args.keeper.now; out = g.O.Sink.means c.args.out.now } in
    let mid : Outside = record others { store = g.K.Keeper.means c.open.new.keeper; out = g.O.Sink.means c.open.new.out } in
    let now : Outside = record others { store = g.K.Keeper.means c.fill_over.new.keeper; out = g.O.Sink.means c.fill_over.new.out } in
    let l = c.in_ok-head.ensures.ends others in
    ends_ending (IsBadIn now.store) ⊥ before now c.fill_over.result
    (ends_behind (IsBadIn now.store) ⊥ before mid now c.fill_over.result l.cause (in_time_same before.input.course) l.files l.out
    (ends_wider _ no_row (IsBadIn now.store) ⊥ ⊥ mid now c.fill_over.result (λ i no. absurd no) (λ never. never) (c.fill_over.ensures.part.ends others)))

-- which path was opened

pub returns-in_err-groups-clause-opens : goal.returns-in_err-groups-clause-opens
returns-in_err-groups-clause-opens g c =
    let a = (g.K.Keeper.means c.args.keeper.now).paths in
    opening_error Unit _ c.args.path.now a a c.from_residual.result Memory c.from_residual.ensures.1 (inl refl)

pub returns-in_err-head-clause-opens : goal.returns-in_err-head-clause-opens
returns-in_err-head-clause-opens g c =
    let a = (g.K.Keeper.means c.args.keeper.now).paths in
    let b = (g.K.Keeper.means c.open.new.keeper).paths in
    opening_error Unit _ c.args.path.now a b c.from_residual-in_err-head.result c.in_err-head.field-0.0 c.from_residual-in_err-head.ensures.1 c.in_err-head.ensures.opens

pub returns-clause-opens : goal.returns-clause-opens
returns-clause-opens g c =
    let a = (g.K.Keeper.means c.args.keeper.now).paths in
    let b = (g.K.Keeper.means c.open.new.keeper).paths in
    opened_on _ c.args.path.now a b (g.K.Keeper.means c.fill_over.new.keeper).paths c.fill_over.result c.in_ok-head.ensures.opens c.fill_over.ensures.part.paths

-- the rows until it was

pub returns-in_err-groups-clause-unopened : goal.returns-in_err-groups-clause-unopened
returns-in_err-groups-clause-unopened g c = λ same. told_still (g.K.Keeper.means c.args.keeper.now).rows

pub returns-clause-unopened : goal.returns-clause-unopened
returns-clause-unopened g c = λ same.
    let keeper = g.K.Keeper.means in
    absurd (opens_more c.args.path.now (keeper c.args.keeper.now).paths (keeper c.open.new.keeper).paths (keeper c.fill_over.new.keeper).paths c.in_ok-head.ensures.opens c.fill_over.ensures.part.paths same)

-- whether they are told

pub returns-in_err-groups-clause-tells : goal.returns-in_err-groups-clause-tells
returns-in_err-groups-clause-tells g c = starts_memory Unit (g.K.Keeper.means c.args.keeper.now) c.from_residual.result c.from_residual.ensures.1

pub returns-in_err-head-clause-tells : goal.returns-in_err-head-clause-tells
returns-in_err-head-clause-tells g c =
    let keeper = g.K.Keeper.means in
    starts_error Unit _ (keeper c.args.keeper.now) (keeper c.open.new.keeper) c.from_residual-in_err-head.result c.in_err-head.field-0.0 c.from_residual-in_err-head.ensures.1 c.in_err-head.ensures.tells

pub returns-clause-tells : goal.returns-clause-tells
returns-clause-tells g c =
    let keeper = g.K.Keeper.means in
    starts_on (keeper c.args.keeper.now) (keeper c.open.new.keeper) (keeper c.fill_over.new.keeper) c.in_ok-head.head c.fill_over.result c.in_ok-head.ensures.tells c.fill_over.ensures.part.tells
