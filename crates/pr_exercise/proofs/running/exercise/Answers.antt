use Rattle.std.proofs.Common.{◌∙◌, sym, ap}
use Rattle.pr_outside.specs.Outside.{Outside}
use Rattle.pr_exercise.specs.Means.{exercise_status}
use Rattle.pr_exercise.proofs.Meaning.{means_exercise}
use Rattle.pr_exercise.proofs.running.exercise.Goals as goal

pub returns-in-Ok : goal.returns-in-Ok
returns-in-Ok g c = λ others.
    let before : Outside = record others { store = g.K.Keeper.means c.args.keeper.now; out = g.O.Sink.means c.args.out.now } in
    let now : Outside = record others { store = g.K.Keeper.means c.run.new.keeper; out = g.O.Sink.means c.run.new.out } in
    means_exercise c.args.rounds before now c.run.result _ (sym (ap exercise_status c.in-Ok.is)) (c.run.ensures.ends others) c.run.ensures.opens c.run.ensures.tells c.run.ensures.row (c.run.ensures.over others)

pub returns-in-Err : goal.returns-in-Err
returns-in-Err g c = λ others.
    let before : Outside = record others { store = g.K.Keeper.means c.args.keeper.now; out = g.O.Sink.means c.args.out.now } in
    let now : Outside = record others { store = g.K.Keeper.means c.run.new.keeper; out = g.O.Sink.means c.run.new.out } in
    means_exercise c.args.rounds before now c.run.result c.status.result (c.status.ensures ∙ sym (ap exercise_status c.in-Err.is)) (c.run.ensures.ends others) c.run.ensures.opens c.run.ensures.tells c.run.ensures.row (c.run.ensures.over others)
