use Rattle.std.proofs.Common.{sym, subst, ℕ}
use Rattle.pr_backfill.specs.private.BackfillCommandTimes.{AreTimes}
use Rattle.pr_backfill.proofs.Lasting.{are_times}
use Rattle.pr_backfill.proofs.backfill_command.times.Times.new.Goals as goal

pub invariant_of-result : goal.invariant_of-result
invariant_of-result c =
    subst (λ (next : ℕ). AreTimes next c.args.step c.in-Some.left) (sym c.get.ensures.value)
    (are_times c.args.first c.args.last c.args.step c.in-Some.left c.in-Some.ensures.same c.get-end.ensures.small c.in-Some.ensures.count)
