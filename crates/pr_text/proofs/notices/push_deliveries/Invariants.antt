use Rattle.std.proofs.Common.{◌≡◌, ◌++◌, drop, flat_map, length, take}
use Rattle.pr_text.specs.Notices.{delivery_lines}
use Rattle.pr_text.proofs.notices.push_deliveries.Given as goal

-- what is written, and what is to come
abbrev pub invariant-loop-notice : goal.invariant-loop-notice
invariant-loop-notice l = record {
  written : l.text.items ++ flat_map delivery_lines (drop l.notice-index l.notices) ≡ l.fn.text.items ++ flat_map delivery_lines l.notices;
  front : take (length l.fn.text.items) l.text.items ≡ l.fn.text.items;
}
