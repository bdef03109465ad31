use Rattle.std.proofs.Common.{◌≡◌, ◌++◌, drop, flat_map, length, take}
use Rattle.pr_test.specs.FailureText.{alert_line}
use Rattle.pr_test.proofs.test_print.shown.push_each_alert.Given as goal

-- what is written, and what is to come
abbrev pub invariant-loop-found : goal.invariant-loop-found
invariant-loop-found l = record {
  written : l.text.items ++ flat_map (alert_line l.word) (drop l.found-index l.list) ≡ l.fn.text.items ++ flat_map (alert_line l.word) l.list;
  front : take (length l.fn.text.items) l.text.items ≡ l.fn.text.items;
}
