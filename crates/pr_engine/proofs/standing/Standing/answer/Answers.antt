use Rattle.std.proofs.Common.{◌≡◌, ◌∙◌, List, Some, sym, true}
use Rattle.pr_head.specs.spec_history.declared.entry.Entry.{Entry}
use Rattle.pr_manager.specs.private.Naming.{passed_by_named}
use Rattle.pr_manager.specs.spec_world.Step.{time_of}
use Rattle.pr_engine.specs.private.Events.{is_restart, step_in_time}
use Rattle.pr_engine.proofs.Answering.{anew_keeps, known_rows}
use Rattle.pr_engine.proofs.Passing.{anew_passes, begun_passes}
use Rattle.pr_engine.proofs.standing.Standing.answer.Goals as goal

pub returns-in-Ok-clause-world : goal.returns-in-Ok-clause-world
returns-in-Ok-clause-world g c = λ w tells keeps known.
    let R = g.R.Ranges in
    let is : is_restart c.args.event ≡ true = sym c.is_restart.ensures ∙ c.if-is_restart.true in
    anew_keeps R.fits R.last R.passed c.args.step w c.args.event c.begin_anew.new.self is
    (c.in-Ok.ensures.world w (Some (time_of c.args.event)) tells (known_rows c.args.event (g.K.Keeper.means c.begin_anew.new.keeper) is known))

pub returns-in-Ok-clause-passed : goal.returns-in-Ok-clause-passed
returns-in-Ok-clause-passed g c = λ w keeps.
    let R = g.R.Ranges in
    let is : is_restart c.args.event ≡ true = sym c.is_restart.ensures ∙ c.if-is_restart.true in
    let later : List Entry = (step_in_time c.args.step w c.args.event).world.history in
    anew_passes R.keeps c.args.step w c.args.event (passed_by_named R.passed c.args.self.now.manager w.history) (passed_by_named R.passed c.begin_anew.new.self.manager later) is
    (begun_passes R.fits R.last R.passed c.args.step c.begin_anew.new.self (g.K.Keeper.means c.begin_anew.new.keeper) c.in-Ok.ensures.some later)
