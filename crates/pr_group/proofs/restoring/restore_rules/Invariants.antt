use Rattle.std.proofs.Common.{◌≡◌, ℕ, ◌+◌, ◌≤◌, List, Option, length, take}
use Rattle.std.specs.Prelude.{sum_by}
use Rattle.pr_rule.specs.spec_history.declared.entry.Entry.{Entry}
use Rattle.pr_rule.specs.spec_rules.private.Costs.{restored_reads}
use Rattle.pr_rule.specs.spec_rules.Groups.{RuleState}
use Rattle.pr_group.specs.private.Keeping.{AreKept, MayEvaluateOver}
use Rattle.pr_group.specs.private.Restoring.{HaveRestored, ranges_of}
use Rattle.pr_group.proofs.restoring.restore_rules.Given as goal

-- the first ones were gone over
abbrev pub invariant-loop-index : goal.invariant-loop-index
invariant-loop-index g l = record {
  ranges : ranges_of l.rules.items ≡ ranges_of l.fn.rules.items;
  many : length l.rules.items ≡ length l.fn.rules.items;
  come : (history : List Entry) (until : Option ℕ) (rs : List RuleState) → MayEvaluateOver l.head history l.now → length l.definitions ≡ length rs → AreKept g.R.Ranges.fits g.R.Ranges.last g.R.Ranges.passed history until l.definitions l.fn.rules.items rs
      → HaveRestored l.tells g.R.Ranges.fits g.R.Ranges.last g.R.Ranges.passed history l.now until l.definitions l.fn.rules.items l.rules.items rs l.list.items l.index;
  reads : (history : List Entry) (until : Option ℕ) (rs : List RuleState) → MayEvaluateOver l.head history l.now → length l.definitions ≡ length rs → AreKept g.R.Ranges.fits g.R.Ranges.last g.R.Ranges.passed history until l.definitions l.fn.rules.items rs
      → l.reads ≤ l.fn.reads + sum_by restored_reads (take l.index rs);
}
