use Rattle.std.proofs.Common.{◌≡◌, ◌++◌, length, take, drop}
use Rattle.pr_words.specs.private.Reader.{KeepsText}
use Rattle.pr_labels.specs.SeriesText.{left_text, rest_text, unnamed}
use Rattle.pr_labels.proofs.print.push_rest.Given as goal

-- what is written, and what is to come
abbrev pub invariant-loop-pair : goal.invariant-loop-pair
invariant-loop-pair l = record {
  written : l.out.items ++ left_text l.started (drop l.pair-index l.pairs) ≡ l.fn.out.items ++ rest_text (unnamed l.pairs);
  text : KeepsText l.fn.out.items l.out.items;
  front : take (length l.fn.out.items) l.out.items ≡ l.fn.out.items;
}
