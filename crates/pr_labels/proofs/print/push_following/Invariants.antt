use Rattle.std.proofs.Common.{◌≡◌, ◌++◌, length, take, drop, flat_map}
use Rattle.pr_words.specs.private.Reader.{KeepsText}
use Rattle.pr_labels.specs.SeriesText.{following_text}
use Rattle.pr_labels.proofs.print.push_following.Given as goal

-- what is written, and what is to come
abbrev pub invariant-loop-pair : goal.invariant-loop-pair
invariant-loop-pair l = record {
  written : l.out.items ++ flat_map following_text (drop l.pair-index l.pairs) ≡ l.fn.out.items ++ flat_map following_text l.pairs;
  text : KeepsText l.fn.out.items l.out.items;
  front : take (length l.fn.out.items) l.out.items ≡ l.fn.out.items;
}
