use Rattle.std.proofs.Common.{◌++◌, map}
use Rattle.spec_rules.specs.Settings.{of_a_run}
use Rattle.pr_backfill.specs.Filled.{at_time, round_at, rows_filled}
use Rattle.pr_backfill.proofs.Parts.{on_ok, part_memory, part_none}
use Rattle.pr_backfill.proofs.Progress.{come_err, still, time_comes}
use Rattle.pr_backfill.proofs.backfill_command.filling.Filling.fill_time.Goals as goal

pub returns-in_err-steps-clause-comes : goal.returns-in_err-steps-clause-comes
returns-in_err-steps-clause-comes g c = λ history done groups first keeps after s.
    come_err history first _ (g.K.Keeper.means c.args.keeper.now) (g.O.Sink.means c.args.out.now).taken c.from_residual.result _ c.from_residual.ensures.1
    (still history first done (map (at_time c.args.time) (round_at of_a_run c.args.time (history ++ rows_filled done) groups).told) (g.K.Keeper.means c.args.keeper.now) (g.O.Sink.means c.args.out.now).taken s)

pub returns-in_err-steps-clause-part : goal.returns-in_err-steps-clause-part
returns-in_err-steps-clause-part g c =
    let a = g.K.Keeper.means c.args.keeper.now in
    let x = g.O.Sink.means c.args.out.now in
    part_memory _ Unit a a x x tt c.from_residual.result c.from_residual.ensures.1 (part_none a x tt)

pub returns-clause-keeps : goal.returns-clause-keeps
returns-clause-keeps g c = λ history groups keeps after. on_ok c.keep_steps.result _ (c.in_ok-steps.ensures.keeps history groups keeps after)

pub returns-clause-comes : goal.returns-clause-comes
returns-clause-comes g c = λ history done groups first keeps after s.
    time_comes history first done c.args.time groups c.in_ok-steps.steps.items (g.K.Keeper.means c.keep_steps.new.keeper) (g.O.Sink.means c.keep_steps.new.out).taken c.keep_steps.result _ (c.in_ok-steps.ensures.told (history ++ rows_filled done) groups keeps after)
    (c.in_ok-steps.ensures.keeps (history ++ rows_filled done) groups keeps after).holds (c.keep_steps.ensures.comes history done first s)

pub returns-clause-part : goal.returns-clause-part
returns-clause-part g c = c.keep_steps.ensures.part
