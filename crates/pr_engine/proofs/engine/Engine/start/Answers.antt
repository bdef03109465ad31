use Rattle.std.proofs.Common.{Err, ◌∙◌}
use Rattle.pr_engine.proofs.Answering.{starts}
use Rattle.pr_engine.proofs.Paths.{started_on}
use Rattle.pr_engine.proofs.engine.Engine.start.Goals as goal

pub returns-in-Ok-begin-clause-stands : goal.returns-in-Ok-begin-clause-stands
returns-in-Ok-begin-clause-stands g c =
    let R = g.R.Ranges in
    starts R.fits R.last R.passed c.in-Ok-begin.standing (g.K.Keeper.means c.begin.new.keeper) c.args.step c.in-Ok-begin.ensures.ok

pub returns-in-Ok-begin-clause-opens : goal.returns-in-Ok-begin-clause-opens
returns-in-Ok-begin-clause-opens g c = c.begin.ensures.paths ∙ c.in-Ok.ensures.paths

pub returns-in-Err-begin-clause-opens : goal.returns-in-Err-begin-clause-opens
returns-in-Err-begin-clause-opens g c =
    let keeper = g.K.Keeper.means in
    started_on Unit c.args.path.now (keeper c.args.keeper.now).paths (keeper c.start.new.self).paths (keeper c.begin.new.keeper).paths (Err c.in-Err-begin.error) c.in-Ok.ensures.paths c.begin.ensures.paths
