use Rattle.std.proofs.Common.{◌≡◌, ◌++◌, drop, flat_map, length, take}
use Rattle.pr_checks.specs.pr_labels.SeriesText.{following_text}
use Rattle.pr_test.proofs.test_print.labels.push_following.Given as goal

-- what is written, and what is to come
abbrev pub invariant-loop-pair : goal.invariant-loop-pair
invariant-loop-pair l = record {
  written : l.text.items ++ flat_map following_text (drop l.pair-index l.pairs) ≡ l.fn.text.items ++ flat_map following_text l.pairs;
  front : take (length l.fn.text.items) l.text.items ≡ l.fn.text.items;
}
