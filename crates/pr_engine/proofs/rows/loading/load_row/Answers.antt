use Rattle.pr_engine.proofs.Loaded.{row_loaded, row_refused}
use Rattle.pr_engine.proofs.rows.loading.load_row.Goals as goal

pub returns-in-Ok-clause-ok : goal.returns-in-Ok-clause-ok
returns-in-Ok-clause-ok g c =
    row_loaded c.add_row.result c.args.index c.args.head.now c.add_row.new.head (g.K.Keeper.means c.args.keeper.now) (g.K.Keeper.means c.load.new.self) c.in-Ok.row
    c.load.ensures.same c.in-Ok.ensures.row c.add_row.ensures.ok

pub returns-in-Ok-clause-bad : goal.returns-in-Ok-clause-bad
returns-in-Ok-clause-bad g c =
    row_refused c.add_row.result c.args.index c.args.head.now (g.K.Keeper.means c.args.keeper.now) (g.K.Keeper.means c.load.new.self) c.in-Ok.row
    c.load.ensures.same c.in-Ok.ensures.row c.add_row.ensures.bad
