use Rattle.std.proofs.Common.{◌≡◌, ◌++◌, drop, flat_map, length, take}
use Rattle.pr_text.specs.Evaluated.{restored_line}
use Rattle.pr_text.proofs.evaluated.push_all_restored.Given as goal

-- what is written, and what is to come
abbrev pub invariant-loop-alert : goal.invariant-loop-alert
invariant-loop-alert l = record {
  written : l.text.items ++ flat_map restored_line (drop l.alert-index l.alerts) ≡ l.fn.text.items ++ flat_map restored_line l.alerts;
  front : take (length l.fn.text.items) l.text.items ≡ l.fn.text.items;
}
