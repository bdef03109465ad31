use Rattle.std.proofs.Common.{◌≡◌, ◌++◌, drop, flat_map, length, take}
use Rattle.pr_text.specs.Evaluated.{put_line}
use Rattle.pr_text.proofs.evaluated.push_puts.Given as goal

-- what is written, and what is to come
abbrev pub invariant-loop-put : goal.invariant-loop-put
invariant-loop-put l = record {
  written : l.text.items ++ flat_map put_line (drop l.put-index l.puts) ≡ l.fn.text.items ++ flat_map put_line l.puts;
  front : take (length l.fn.text.items) l.text.items ≡ l.fn.text.items;
}
