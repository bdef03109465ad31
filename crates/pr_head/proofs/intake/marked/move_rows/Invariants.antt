use Rattle.std.proofs.Common.{◌≡◌, ◌++◌}
use Rattle.spec_history.specs.Puts.{label_sets_of}
use Rattle.pr_head.proofs.intake.marked.move_rows.Given as goal

-- the rows so far, and those to come
abbrev pub invariant-loop-entry : goal.invariant-loop-entry
invariant-loop-entry l = record {
  rows : l.rows.items ++ l.entry-iterator.rest.items ≡ l.initial.rows.items ++ l.fn.more.items;
  series : l.series.items ++ label_sets_of l.entry-iterator.rest.items ≡ label_sets_of l.fn.more.items;
}
