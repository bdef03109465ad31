use Rattle.std.proofs.Common.{◌≡◌, ◌++◌, drop, flat_map, length, take}
use Rattle.pr_text.specs.Printed.{item_text}
use Rattle.pr_text.proofs.printed.push_items.Given as goal

-- what is written, and what is to come
abbrev pub invariant-loop-item : goal.invariant-loop-item
invariant-loop-item l = record {
  written : l.text.items ++ flat_map item_text (drop l.item-index l.items) ≡ l.fn.text.items ++ flat_map item_text l.items;
  front : take (length l.fn.text.items) l.text.items ≡ l.fn.text.items;
}
