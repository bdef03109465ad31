use Rattle.std.proofs.Common.{◌≡◌, ◌++◌, drop, flat_map, length, take}
use Rattle.pr_text.specs.Evaluated.{stale_line}
use Rattle.pr_text.proofs.evaluated.push_stale_lines.Given as goal

-- what is written, and what is to come
abbrev pub invariant-loop-labels : goal.invariant-loop-labels
invariant-loop-labels l = record {
  written : l.text.items ++ flat_map stale_line (drop l.labels-index l.sets) ≡ l.fn.text.items ++ flat_map stale_line l.sets;
  front : take (length l.fn.text.items) l.text.items ≡ l.fn.text.items;
}
