use Rattle.std.proofs.Common.{◌++◌, Ok, refl}
use Rattle.spec_rules.specs.Settings.{of_a_run}
use Rattle.pr_backfill.specs.Filled.{filled_from, rows_filled}
use Rattle.pr_backfill.proofs.Parts.{part_err, part_none, part_on}
use Rattle.pr_backfill.proofs.Progress.{all_filled, come_err, next_before, none_filled, one_filled, time_halts}
use Rattle.pr_backfill.proofs.backfill_command.filling.fill_times.Goals as goal

pub evaluating-init : goal.evaluating-init
evaluating-init g c = record {
  filled = λ history groups first keeps before s.
      none_filled g.R.Ranges.fits g.R.Ranges.last g.R.Ranges.passed history (filled_from of_a_run history groups c.args.times) first groups c.args.times c.args.filling (g.K.Keeper.means c.args.keeper.now) (g.O.Sink.means c.args.out.now).taken refl keeps before s;
  part = part_none (g.K.Keeper.means c.args.keeper.now) (g.O.Sink.means c.args.out.now) tt;
}

pub evaluating-preserved : goal.evaluating-preserved
evaluating-preserved g c =
    let fits = g.R.Ranges.fits in
    let last = g.R.Ranges.last in
    let passed = g.R.Ranges.passed in
    let store = g.K.Keeper.means in
    let out = g.O.Sink.means in
    let at = c.evaluating in
    let new = c.take_next.new.self in
    let is = c.in-Some.ensures.some in
    let e = c.in_ok-fill_time.ensures in
    record {
      filled = λ history groups first keeps before s.
          let all = filled_from of_a_run history groups c.args.times in
          let here = at.invariant.filled history groups first keeps before s in
          let time = (next_before fits last passed history all first new at.times c.in-Some.time is here.groups here.before).0 in
          one_filled fits last passed history all first new at.times c.in-Some.time is at.filling c.fill_time.new.self (store at.keeper) (store c.fill_time.new.keeper) (out at.out).taken (out c.fill_time.new.out).taken c.in-Some.ensures.later here
          (e.keeps (history ++ rows_filled here.done) here.groups here.keeps time) (e.comes history here.done here.groups first here.keeps time here.stands);
      part = part_on (store c.args.keeper.now) (store at.keeper) (store c.fill_time.new.keeper) (out c.args.out.now) (out at.out) (out c.fill_time.new.out) tt (Ok tt) at.invariant.part e.part;
    }

pub returns-in_err-fill_time-clause-comes : goal.returns-in_err-fill_time-clause-comes
returns-in_err-fill_time-clause-comes g c = λ history groups first keeps before s.
    let fits = g.R.Ranges.fits in
    let last = g.R.Ranges.last in
    let passed = g.R.Ranges.passed in
    let store = g.K.Keeper.means in
    let out = g.O.Sink.means in
    let at = c.evaluating in
    let new = c.take_next.new.self in
    let is = c.in-Some.ensures.some in
    let all = filled_from of_a_run history groups c.args.times in
    let here = at.invariant.filled history groups first keeps before s in
    let time = (next_before fits last passed history all first new at.times c.in-Some.time is here.groups here.before).0 in
    come_err history first all (store c.fill_time.new.keeper) (out c.fill_time.new.out).taken c.from_residual.result _ c.from_residual.ensures.1
    (time_halts fits last passed history all first new at.times c.in-Some.time is at.filling (store at.keeper) (store c.fill_time.new.keeper) (out at.out).taken (out c.fill_time.new.out).taken here
    (c.in_err-fill_time.ensures.comes history here.done here.groups first here.keeps time here.stands))

pub returns-in_err-fill_time-clause-part : goal.returns-in_err-fill_time-clause-part
returns-in_err-fill_time-clause-part g c =
    let store = g.K.Keeper.means in
    let out = g.O.Sink.means in
    let at = c.evaluating in
    part_err _ _ _ (store c.args.keeper.now) (store at.keeper) (store c.fill_time.new.keeper) (out c.args.out.now) (out at.out) (out c.fill_time.new.out) tt c.from_residual.result c.in_err-fill_time.field-0.0
    c.from_residual.ensures.1 at.invariant.part c.in_err-fill_time.ensures.part

pub returns-clause-comes : goal.returns-clause-comes
returns-clause-comes g c = λ history groups first keeps before s.
    let at = c.evaluating in
    all_filled g.R.Ranges.fits g.R.Ranges.last g.R.Ranges.passed history (filled_from of_a_run history groups c.args.times) first at.times at.filling (g.K.Keeper.means at.keeper) (g.O.Sink.means at.out).taken c.in_default.ensures.none
    (at.invariant.filled history groups first keeps before s)

pub returns-clause-part : goal.returns-clause-part
returns-clause-part g c = c.evaluating.invariant.part
