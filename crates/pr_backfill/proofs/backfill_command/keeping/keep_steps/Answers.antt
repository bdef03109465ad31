use Rattle.std.proofs.Common.{◌≡◌, ◌∷◌, ◌++◌, Ok, length, map, arith}
use Rattle.std.proofs.lemmas.List.{nil_from_length}
use Rattle.pr_backfill.specs.Filled.{at_time}
use Rattle.pr_backfill.proofs.Parts.{part_err, part_none, part_on}
use Rattle.pr_backfill.proofs.Progress.{all_kept, come_err, lawful_next, none_kept, one_halts, one_kept}
use Rattle.pr_backfill.proofs.backfill_command.keeping.keep_steps.Goals as goal

pub loop-step-init : goal.loop-step-init
loop-step-init g c = record {
  kept = λ history done first s lawful. none_kept history done c.args.time c.args.steps.items first c.into_iter-step-iterator.result.rest.items (g.K.Keeper.means c.args.keeper.now) (g.O.Sink.means c.args.out.now).taken c.into_iter-step-iterator.ensures.into_iter_gives.0 s;
  part = part_none (g.K.Keeper.means c.args.keeper.now) (g.O.Sink.means c.args.out.now) tt;
}

pub loop-step-preserved : goal.loop-step-preserved
loop-step-preserved g c =
    let store = g.K.Keeper.means in
    let out = g.O.Sink.means in
    let at = c.loop-step in
    let old = at.step-iterator.rest.items in
    let new = c.next.new.self.rest.items in
    let parts : old ≡ c.in-Some.step ∷ new = c.in-Some.ensures.steps.0 in
    record {
      kept = λ history done first s lawful.
          let here = at.invariant.kept history done first s lawful in
          one_kept history done c.args.time c.args.steps.items first new old c.in-Some.step (store at.keeper) (store c.keep_step.new.keeper) (out at.out).taken (out c.keep_step.new.out).taken parts here
          (c.in_ok-keep_step.ensures.comes history (done ++ map (at_time c.args.time) here.some) first here.stands
          (lawful_next history done c.args.time c.args.steps.items first new old c.in-Some.step (store at.keeper) (out at.out).taken parts here lawful));
      part = part_on (store c.args.keeper.now) (store at.keeper) (store c.keep_step.new.keeper) (out c.args.out.now) (out at.out) (out c.keep_step.new.out) tt (Ok tt) at.invariant.part c.in_ok-keep_step.ensures.part;
    }

pub returns-in_err-keep_step-clause-comes : goal.returns-in_err-keep_step-clause-comes
returns-in_err-keep_step-clause-comes g c = λ history done first s lawful.
    let store = g.K.Keeper.means in
    let out = g.O.Sink.means in
    let at = c.loop-step in
    let old = at.step-iterator.rest.items in
    let new = c.next.new.self.rest.items in
    let parts : old ≡ c.in-Some.step ∷ new = c.in-Some.ensures.steps.0 in
    let here = at.invariant.kept history done first s lawful in
    come_err history first (done ++ map (at_time c.args.time) c.args.steps.items) (store c.keep_step.new.keeper) (out c.keep_step.new.out).taken c.from_residual.result _ c.from_residual.ensures.1
    (one_halts history done c.args.time c.args.steps.items first new old c.in-Some.step (store at.keeper) (store c.keep_step.new.keeper) (out at.out).taken (out c.keep_step.new.out).taken parts here
    (c.in_err-keep_step.ensures.comes history (done ++ map (at_time c.args.time) here.some) first here.stands
    (lawful_next history done c.args.time c.args.steps.items first new old c.in-Some.step (store at.keeper) (out at.out).taken parts here lawful)))

pub returns-in_err-keep_step-clause-part : goal.returns-in_err-keep_step-clause-part
returns-in_err-keep_step-clause-part g c =
    let store = g.K.Keeper.means in
    let out = g.O.Sink.means in
    let at = c.loop-step in
    part_err _ _ _ (store c.args.keeper.now) (store at.keeper) (store c.keep_step.new.keeper) (out c.args.out.now) (out at.out) (out c.keep_step.new.out) tt c.from_residual.result c.in_err-keep_step.field-0.0
    c.from_residual.ensures.1 at.invariant.part c.in_err-keep_step.ensures.part

pub returns-clause-comes : goal.returns-clause-comes
returns-clause-comes g c = λ history done first s lawful.
    let at = c.loop-step in
    let rest = at.step-iterator.rest.items in
    let none : length rest ≡ 0 = omega (arith, at.step-iterator.rest.ok.0, c.in-None.ensures.steps.0) in
    all_kept history done c.args.time c.args.steps.items first rest (g.K.Keeper.means at.keeper) (g.O.Sink.means at.out).taken (nil_from_length rest none) (at.invariant.kept history done first s lawful)

pub returns-clause-part : goal.returns-clause-part
returns-clause-part g c = c.loop-step.invariant.part
