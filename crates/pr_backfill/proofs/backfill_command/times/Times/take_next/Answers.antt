use Rattle.std.proofs.Common.{◌+◌, ◌<◌, ◌-◌, arith}
use Rattle.pr_backfill.proofs.Lasting.{times_after}
use Rattle.pr_backfill.proofs.backfill_command.times.Times.take_next.Goals as goal

pub returns-clause-later : goal.returns-clause-later
returns-clause-later c =
    let past : c.in-Some.time < c.self.inside.next + c.get.result = omega (arith, c.in-Some.ensures, c.get.ensures.value, c.self.invariant.0) in
    times_after c.in-Some.time (c.self.inside.next + c.get.result) c.self.inside.step (c.self.inside.left - 1) past
