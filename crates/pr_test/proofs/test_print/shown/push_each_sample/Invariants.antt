use Rattle.std.proofs.Common.{◌≡◌, ◌++◌, drop, flat_map, length, take}
use Rattle.pr_test.specs.FailureText.{sample_line}
use Rattle.pr_test.proofs.test_print.shown.push_each_sample.Given as goal

-- what is written, and what is to come
abbrev pub invariant-loop-item : goal.invariant-loop-item
invariant-loop-item l = record {
  written : l.text.items ++ flat_map (sample_line l.word) (drop l.item-index l.list) ≡ l.fn.text.items ++ flat_map (sample_line l.word) l.list;
  front : take (length l.fn.text.items) l.text.items ≡ l.fn.text.items;
}
