use Rattle.std.proofs.Common.{List, ◌++◌, ℕ, Option, Ok, map}
use Rattle.spec_rules.specs.spec_history.private.Laws.{IsLawful}
use Rattle.spec_rules.specs.spec_history.declared.entry.Entry.{Entry}
use Rattle.pr_backfill.specs.Filled.{FillStep, at_time, rows_filled}
use Rattle.pr_backfill.specs.private.Standing.{IsPartOfFilling, FillingStands}
use Rattle.pr_backfill.proofs.Progress.{HasKept}
use Rattle.pr_backfill.proofs.backfill_command.keeping.keep_steps.Given as goal

-- the evaluations so far are kept and told
abbrev pub invariant-loop-step : goal.invariant-loop-step
invariant-loop-step g l = record {
  kept : (history : List Entry) (done : List FillStep) (first : Option (List ℕ)) → FillingStands history done (g.K.Keeper.means l.fn.keeper) first (g.O.Sink.means l.fn.out).taken
      → IsLawful (history ++ rows_filled (done ++ map (at_time l.fn.time) l.fn.steps.items))
      → HasKept history done l.fn.time l.fn.steps.items l.step-iterator.rest.items (g.K.Keeper.means l.keeper) first (g.O.Sink.means l.out).taken;
  part : IsPartOfFilling {T = Unit} (g.K.Keeper.means l.fn.keeper) (g.O.Sink.means l.fn.out) (g.K.Keeper.means l.keeper) (g.O.Sink.means l.out) (Ok tt);
}
