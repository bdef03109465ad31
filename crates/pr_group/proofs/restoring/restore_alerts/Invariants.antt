use Rattle.std.proofs.Common.{◌≡◌, ℕ, true, ◌+◌, ◌≤◌, ◌++◌, ◌∷◌, [], List, length, slice_get, take}
use Rattle.pr_rule.specs.spec_history.declared.entry.Entry.{Entry}
use Rattle.pr_rule.specs.spec_alerts.Lineage.{Occurrence, moved}
use Rattle.pr_rule.specs.spec_alerts.Records.{living_count}
use Rattle.pr_rule.specs.private.AlertStanding.{StandsFor}
use Rattle.pr_group.specs.private.Keeping.{MayEvaluateOver}
use Rattle.pr_group.specs.private.Restoring.{restored_until}
use Rattle.pr_group.proofs.restoring.restore_alerts.Given as goal

-- the first ones were gone over
abbrev pub invariant-loop-index : goal.invariant-loop-index
invariant-loop-index g l = record {
  rest : l.kept ≡ record l.fn.kept { records = l.kept.records };
  many : length l.kept.records ≡ length l.fn.kept.records;
  later : (j : ℕ) → l.index ≤ j → slice_get l.kept.records j ≡ slice_get l.fn.kept.records j;
  reads : l.reads ≤ l.fn.reads + living_count (take l.index l.fn.kept.records);
  stands : (history : List Entry) (lineage : List Occurrence) → MayEvaluateOver l.head history l.now → StandsFor l.fn.kept.records lineage
      → StandsFor l.kept.records (lineage ++ moved (restored_until history l.hold l.now l.fn.kept.records l.index) ∷ []);
  told : (history : List Entry) (lineage : List Occurrence) → MayEvaluateOver l.head history l.now → StandsFor l.fn.kept.records lineage
      → l.tells ≡ true → l.list.items ≡ l.fn.list.items ++ restored_until history l.hold l.now l.fn.kept.records l.index;
}
