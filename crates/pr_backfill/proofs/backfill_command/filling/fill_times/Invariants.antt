use Rattle.std.proofs.Common.{ℕ, List, [], Option, Ok, length}
use Rattle.spec_rules.specs.spec_history.declared.entry.Entry.{Entry}
use Rattle.spec_rules.specs.Groups.{Group}
use Rattle.spec_rules.specs.Settings.{of_a_run}
use Rattle.pr_backfill.specs.Filled.{filled_from}
use Rattle.pr_backfill.specs.private.Standing.{AreBefore, IsPartOfFilling, KeepsFilling, FillingStands}
use Rattle.pr_backfill.proofs.Progress.{HasFilled}
use Rattle.pr_backfill.proofs.backfill_command.filling.fill_times.Given as goal

-- the evaluations at the times so far are kept and told
abbrev pub invariant-evaluating : goal.invariant-evaluating
invariant-evaluating g l = record {
  filled : (history : List Entry) (groups : List Group) (first : Option (List ℕ)) → KeepsFilling g.R.Ranges.fits g.R.Ranges.last g.R.Ranges.passed l.fn.filling history groups → AreBefore l.fn.times groups
      → FillingStands history [] (g.K.Keeper.means l.fn.keeper) first (g.O.Sink.means l.fn.out).taken
      → HasFilled g.R.Ranges.fits g.R.Ranges.last g.R.Ranges.passed history (filled_from of_a_run history groups l.fn.times) l.times l.filling (g.K.Keeper.means l.keeper) first (g.O.Sink.means l.out).taken;
  part : IsPartOfFilling {T = Unit} (g.K.Keeper.means l.fn.keeper) (g.O.Sink.means l.fn.out) (g.K.Keeper.means l.keeper) (g.O.Sink.means l.out) (Ok tt);
}

abbrev pub decreases-evaluating : goal.decreases-evaluating
decreases-evaluating g l = length l.times
