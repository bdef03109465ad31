use Rattle.std.proofs.Common.{◌++◌, ◌∷◌, [], ◌≤◌, arith}
use Rattle.pr_engine.proofs.StoreTelling.{some_before, told_before}
use Rattle.pr_backfill.specs.Filled.{at_time}
use Rattle.pr_backfill.proofs.Parts.{part_kept, part_on, part_unkept, part_write}
use Rattle.pr_backfill.proofs.Progress.{come_err, kept_told, refused}
use Rattle.pr_backfill.proofs.backfill_command.keeping.keep_step.Goals as goal

pub returns-in_err-keep-clause-comes : goal.returns-in_err-keep-clause-comes
returns-in_err-keep-clause-comes g c = λ history done first here lawful.
    let store = g.K.Keeper.means in
    let s = at_time c.args.time c.args.step in
    come_err history first (done ++ s ∷ []) (store c.keep.new.keeper) (g.O.Sink.means c.args.out.now).taken c.from_residual.result _ c.from_residual.ensures.1
    (refused history first done s (store c.args.keeper.now) (store c.keep.new.keeper) (g.O.Sink.means c.args.out.now).taken here c.in_err-keep.ensures.err c.in_err-keep.ensures.err_count)

pub returns-in_err-keep-clause-part : goal.returns-in_err-keep-clause-part
returns-in_err-keep-clause-part g c =
    let a = g.K.Keeper.means c.args.keeper.now in
    let b = g.K.Keeper.means c.keep.new.keeper in
    let e = c.in_err-keep.ensures in
    part_unkept Unit Unit a b (g.O.Sink.means c.args.out.now) c.from_residual.result c.in_err-keep.field-0.0 c.from_residual.ensures.1 (some_before a.rows b.rows e.err) e.sound e.err_count e.paths e.cause

pub returns-clause-comes : goal.returns-clause-comes
returns-clause-comes g c = λ history done first here lawful.
    let store = g.K.Keeper.means in
    let e = c.in_ok-keep.ensures in
    kept_told history first done (at_time c.args.time c.args.step) (store c.args.keeper.now) (store c.keep.new.keeper) (g.O.Sink.means c.args.out.now).taken (g.O.Sink.means c.tell_step.new.out).taken c.tell_step.result c.as_slice.result.now c.as_slice.ensures here lawful e.back e.ok e.ok_count
    c.tell_step.ensures.text c.tell_step.ensures.front

pub returns-clause-part : goal.returns-clause-part
returns-clause-part g c =
    let a = g.K.Keeper.means c.args.keeper.now in
    let b = g.K.Keeper.means c.keep.new.keeper in
    let x = g.O.Sink.means c.args.out.now in
    let y = g.O.Sink.means c.tell_step.new.out in
    let e = c.in_ok-keep.ensures in
    let more : a.count ≤ b.count = omega (arith, e.ok_count) in
    part_on {T = Unit} a b b x x y tt c.tell_step.result (part_kept a b x tt (told_before a.rows b.rows _ e.ok) (record { sound = e.sound; told = e.tells }) more e.paths e.cause) (part_write b x y c.tell_step.result c.tell_step.ensures.ends)
