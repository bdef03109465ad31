use Rattle.std.proofs.Common.{◌∙◌}
use Rattle.pr_manager.specs.spec_world.Step.{outcome_in_time, time_of}
use Rattle.pr_engine.specs.private.Events.{settings_of}
use Rattle.pr_engine.proofs.Answering.{kept_tells}
use Rattle.pr_engine.proofs.standing.Standing.take.Goals as goal

pub returns-clause-tells : goal.returns-clause-tells
returns-clause-tells g c = λ w keeps tells.
    let means = g.K.Keeper.means in
    kept_tells w (time_of c.args.event) (outcome_in_time (settings_of c.args.step) w c.args.event) (means c.args.keeper.now) (means c.keep.new.keeper)
    c.added.result.now tells (c.added.ensures ∙ c.in_ok-taken.ensures.rows w keeps) (c.in_ok-taken.ensures.world w keeps).head.lawful c.in_ok-keep.ensures.back
    c.in_ok-keep.ensures.ok c.in_ok-keep.ensures.ok_count
