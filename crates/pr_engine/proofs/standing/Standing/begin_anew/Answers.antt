use Rattle.pr_engine.proofs.Answering.{begun_keeps}
use Rattle.pr_engine.proofs.standing.Standing.begin_anew.Goals as goal

pub returns-in-Ok-clause-world : goal.returns-in-Ok-clause-world
returns-in-Ok-clause-world g c = λ w last tells some.
    let R = g.R.Ranges in
    begun_keeps R.fits R.last R.passed c.args.step c.in-Ok.standing (g.K.Keeper.means c.args.keeper.now) (g.K.Keeper.means c.begin.new.keeper) w last c.in-Ok.ensures.ok c.begin.ensures.same tells some
